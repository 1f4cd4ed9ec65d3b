-- The outcomes of reading a file and writing one. An output is known by its length, `room`.
use Rattle.std.specs.Prelude.{Bool, not, ◌&&◌, List, [], ◌∷◌, ◌++◌, ℕ, ◌*◌, eqb, ℤ, length, take, drop}
use Rattle.refusals.specs.Outcomes.{Check, Outcome, outcome, ◌if◌}
use Rattle.parameters.specs.Sets.{ParameterSet, parameter_checks}
use Rattle.array_sets.specs.declared.ArraySet.{ArraySet}
use Rattle.array_sets.specs.Sets.{in_set, not_in_set}
use Rattle.heads.specs.Kinds.{arrays_of, made_of_arrays, known_kind}
use Rattle.heads.specs.Heads.{head_of}
use Rattle.head_reading.specs.Calls.{head_checks}
use Rattle.files.specs.Files.{file_numbers, file_bytes, numbers_of, file_of}

-- "its arrays in stored order": each array is the next 2N numbers
unfoldable pub set_checks : ParameterSet → List ArraySet → List ℤ → List Check
set_checks p [] numbers = []
set_checks p (a ∷ rest) numbers = not_in_set a if not (in_set p a (take (2 * p.N) numbers)) ∷ set_checks p rest (drop (2 * p.N) numbers)

-- the lengths of a file and of its numbers, one of which is lent as an output; a kind that is not made of arrays alone has none
abbrev pub right_lengths : ℕ → ℕ → (numbers file : ℕ) → Bool
right_lengths kind N numbers file = made_of_arrays kind && (eqb file (file_bytes kind N) && eqb numbers (file_numbers kind N))

-- 7, then the arrays
unfoldable pub content_checks : ℕ → ParameterSet → List ℤ → (numbers file : ℕ) → List Check
content_checks kind p l numbers file = 7 if not (right_lengths kind p.N numbers file) ∷ set_checks p (arrays_of kind) l

-- "Reading a file: 16, 17, 18, 19, parameters, 7, then its arrays in stored order."
abbrev pub stored_checks : ℕ → ParameterSet → List ℕ → ℕ → List Check
stored_checks kind p file room = content_checks kind p (numbers_of file) room (length file)

abbrev pub reading_content : ℕ → ParameterSet → List ℕ → ℕ → Outcome (List ℤ)
reading_content kind p file room = outcome (stored_checks kind p file room) (numbers_of file)

unfoldable pub reading_checks : ℕ → List ℕ → ℕ → List Check
reading_checks kind file room = head_checks kind file ++ (parameter_checks (head_of file) ++ stored_checks kind (head_of file) file room)

unfoldable pub reading : ℕ → List ℕ → ℕ → Outcome (List ℤ)
reading kind file room = outcome (reading_checks kind file room) (numbers_of file)

-- "Writing: 19, then the same from the parameters on."
abbrev pub given_checks : ℕ → ParameterSet → List ℤ → ℕ → List Check
given_checks kind p numbers room = content_checks kind p numbers (length numbers) room

abbrev pub writing_content : ℕ → ParameterSet → List ℤ → ℕ → Outcome (List ℕ)
writing_content kind p numbers room = outcome (given_checks kind p numbers room) (file_of kind p numbers)

unfoldable pub writing_checks : ℕ → ParameterSet → List ℤ → ℕ → List Check
writing_checks kind p numbers room =
    19 if not (known_kind kind)
    ∷ parameter_checks p ++ given_checks kind p numbers room

unfoldable pub writing : ℕ → ParameterSet → List ℤ → ℕ → Outcome (List ℕ)
writing kind p numbers room = outcome (writing_checks kind p numbers room) (file_of kind p numbers)
