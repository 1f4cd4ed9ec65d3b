-- `marked_eiz` meets its contract.
use Rattle.std.proofs.Common.{◌≡◌, ◌∙◌, ℕ, ◌≤◌, Bool, true, ◌&&◌, List, [], ◌∷◌, length, eqb, arith}
use Rattle.std.specs.List.{starts_with}
use Rattle.std.proofs.lemmas.Bool.Decides.{nat_tests}
use Rattle.head_reading.specs.Calls.{marked}
use Rattle.head_reading.proofs.reading.marked_eiz.Goals as goal

-- the test of a byte, either way round
turned : (a b : ℕ) → eqb a b ≡ eqb b a
turned a b = grind (arith, nat_tests)

last : (t : Bool) → (t && true) ≡ t
last t = grind arith

starts : (file : List ℕ) → 3 ≤ length file → starts_with eqb file (69 ∷ 73 ∷ 90 ∷ []) ≡ marked file
unfolding marked
starts [] h = absurd (omega arith)
starts (a ∷ []) h = absurd (omega arith)
starts (a ∷ b ∷ []) h = absurd (omega arith)
starts (a ∷ b ∷ d ∷ file) h = rw (turned a 69, turned b 73, turned d 90, last)

pub returns : goal.returns
returns c = c.starts_with.ensures.value ∙ starts c.args.file.now (omega arith)
