-- A private file and a sealed one, opened (document 01, 'Files' and 'Where each number is checked').
use Rattle.std.specs.Prelude.{not, List, ◌∷◌, ◌++◌, ℕ, ℤ, take, drop}
use Rattle.refusals.specs.Outcomes.{Check, Outcome, outcome, ◌if◌}
use Rattle.parameters.specs.Sets.{ParameterSet}
use Rattle.parameter_comparison.specs.Comparison.{same_set}
use Rattle.polynomials.specs.Polynomials.{coefficient}
use Rattle.packing.specs.Messages.{unpacked}
use Rattle.etru.specs.Scheme.{opened}
use Rattle.etru.specs.Calls as etru
use Rattle.heads.specs.Heads.{head_of}
use Rattle.files.specs.Files.{file_numbers, file_bytes, numbers_of, array_at}
use Rattle.files.specs.Calls.{reading_checks}

-- "reads the first file as far as its own head says, then all the rest as the second"
unfoldable pub first_length : List ℕ → ℕ
first_length input = file_bytes 2 (head_of input).N

-- A file, read with room for its numbers.
unfoldable pub file_checks : ℕ → List ℕ → List Check
file_checks kind file = reading_checks kind file (file_numbers kind (head_of file).N)

-- "then 20, 13, 14": of a private file's parameters and numbers f, F2, Fq, g, and a sealed file's parameters
unfoldable pub inverse_checks : ParameterSet → List ℤ → List Check
inverse_checks p numbers = etru.inverse_checks p (array_at p 0 numbers) (array_at p 1 numbers) (array_at p 2 numbers)

unfoldable pub pair_checks : ParameterSet → List ℤ → ParameterSet → List Check
pair_checks p numbers p' = 20 if not (same_set p p') ∷ inverse_checks p numbers

-- The message of f, F2 and e.
unfoldable pub message_of : ParameterSet → (numbers e : List ℤ) → List ℕ
message_of p numbers e = unpacked p.N (opened p (coefficient (array_at p 0 numbers)) (coefficient (array_at p 1 numbers)) (coefficient e))

-- The two files, one after the other.
unfoldable pub opening_pair : (first second : List ℕ) → Outcome (List ℕ)
opening_pair first second =
    outcome (file_checks 2 first ++ (file_checks 3 second ++ pair_checks (head_of first) (numbers_of first) (head_of second)))
    (message_of (head_of first) (numbers_of first) (numbers_of second))

unfoldable pub opening_files : List ℕ → Outcome (List ℕ)
opening_files input = opening_pair (take (first_length input) input) (drop (first_length input) input)
