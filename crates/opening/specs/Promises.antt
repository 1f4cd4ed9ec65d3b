-- What is promised of the opening program, proved in proofs/WrittenFiles.antt and proofs/LongInput.antt.
use Rattle.std.specs.Prelude.{◌≡◌, List, [], ◌∷◌, ◌++◌, ℕ, ◌*◌, ◌≤◌, ℤ, length, take}
use Rattle.refusals.specs.Outcomes.{done}
use Rattle.parameters.specs.Sets.{ParameterSet}
use Rattle.etru.specs.Calls.{sealing}
use Rattle.etru.specs.Demand3.{AcceptedKey, Ephemeral, Message}
use Rattle.files.specs.Files.{file_bytes}
use Rattle.files.specs.Calls.{writing}
use Rattle.lines.specs.Lines.{hex}
use Rattle.opening.specs.Program.{opening_line}

-- With any accepted key, any ephemeral and any message: sealing is not refused, nor is writing the private file and the sealed file, and on the two the line is `0` and the message.
pub record OpensFiles (p : ParameterSet) (f F2 Fq g h φ : List ℤ) (message : List ℕ) : Type 0 where
  pub e : List ℤ
  pub private : List ℕ
  pub sealed : List ℕ
  pub seals : sealing p h φ message (2 * p.N) ≡ done e
  pub writes_private : writing 2 p (f ++ (F2 ++ (Fq ++ g))) (file_bytes 2 p.N) ≡ done private
  pub writes_sealed : writing 3 p e (file_bytes 3 p.N) ≡ done sealed
  pub line : opening_line (private ++ sealed) ≡ 48 ∷ 32 ∷ hex message ++ (10 ∷ [])

abbrev pub WrittenFilesOpen : Type 0
WrittenFilesOpen = (p : ParameterSet) (f F2 Fq g h φ : List ℤ) (message : List ℕ) → AcceptedKey p f F2 Fq g h → Ephemeral p φ → Message p message → OpensFiles p f F2 Fq g h φ message

-- Two files have at most 16 + 16 × 1,024 and 16 + 4 × 1,024 bytes, 20,512 in all. So of a longer input the first 20,513 bytes give the line.
abbrev pub LongInputLine : Type 0
LongInputLine = (input : List ℕ) → 20513 ≤ length input → opening_line (take 20513 input) ≡ opening_line input
