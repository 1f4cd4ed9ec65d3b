-- What the steps of the program hand on. Contracts of private functions alone speak of it.
use Rattle.std.specs.Prelude.{◌≡◌, List, ◌++◌, ℕ, ℤ, length, take, drop}
use Rattle.refusals.specs.Outcomes.{Outcome, outcome, Gives, Passes}
use Rattle.parameters.specs.Sets.{ParameterSet, parameter_checks}
use Rattle.heads.specs.Kinds.{arrays_of}
use Rattle.heads.specs.Heads.{head_of}
use Rattle.files.specs.Files.{file_numbers, numbers_of}
use Rattle.files.specs.Calls.{set_checks, reading}
use Rattle.opened_files.specs.Pairs.{file_checks, pair_checks, message_of}

-- A private file that was read: its parameters and its numbers pass its checks.
pub record KeyRead (p : ParameterSet) (numbers : List ℤ) : Type 0 where
  pub accepted : Passes (parameter_checks p)
  pub long : length numbers ≡ file_numbers 2 p.N
  pub sets : Passes (set_checks p (arrays_of 2) numbers)

-- Its numbers at the front of a longer array.
abbrev pub key_in : ParameterSet → List ℤ → List ℤ
key_in p l = take (file_numbers 2 p.N) l

-- The sealed file, read to a part of the numbers: what stands before that part is as it came.
abbrev pub SealedRead : (from count : ℕ) → List ℕ → ℕ → (old new : List ℤ) → Type 0
SealedRead from count file n old new =
    (take from new ≡ take from old)
    × Gives (reading 3 file (length (take count (drop from old)))) n (take count (drop from old)) (take count (drop from new))

-- The second file, after a private one: its own refusals, then those of the pair.
abbrev pub opening_sealed : ParameterSet → List ℤ → List ℕ → Outcome (List ℕ)
opening_sealed p numbers second =
    outcome (file_checks 3 second ++ pair_checks p numbers (head_of second)) (message_of p numbers (numbers_of second))
