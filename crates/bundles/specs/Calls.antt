-- The outcomes of reading a bundle and writing one. An output is known by its length.
use Rattle.std.specs.Prelude.{Bool, not, ◌&&◌, List, [], ◌∷◌, ◌++◌, ℕ, ◌*◌, eqb, leb, ℤ, length, take, drop}
use Rattle.refusals.specs.Outcomes.{Check, Outcome, outcome, ◌if◌}
use Rattle.parameters.specs.Sets.{ParameterSet, parameter_checks}
use Rattle.polynomials.specs.Polynomials.{coefficient, reduced_q}
use Rattle.heads.specs.Kinds.{bundle_kind}
use Rattle.heads.specs.Heads.{head_of}
use Rattle.head_reading.specs.Calls.{head_checks}
use Rattle.stop_sets.specs.Stops.{any_twice}
use Rattle.bundles.specs.Bundles.{longest_bundle, Entry, entry_is, stops_of, numbers_of, entry_start, bundle_of, count_of, entries_of}

-- 7: whether a bundle of so many entries has this length, "at most 65,536 bytes"
unfoldable pub right_length : (N count file : ℕ) → Bool
right_length N count file = leb file longest_bundle && eqb file (entry_start N count)

-- "the entries' own 12", in stored order
unfoldable pub arrays_checks : ParameterSet → List Entry → List Check
arrays_checks p [] = []
arrays_checks p (e ∷ es) = 12 if not (reduced_q p.N p.q (coefficient e.array)) ∷ arrays_checks p es

-- "25 if a stop number occurs twice, after 7 and before the entries' own 12"
unfoldable pub entries_checks : ParameterSet → List Entry → List Check
entries_checks p es = 25 if any_twice (stops_of es) ∷ arrays_checks p es

-- 16 to 19, parameters: the head of a bundle.
abbrev pub bundle_head_checks : List ℕ → List Check
bundle_head_checks file = head_checks bundle_kind file ++ parameter_checks (head_of file)

-- Its parameters and its count, which tell what to lend: 16 to 19, parameters, 7.
unfoldable pub count_checks : List ℕ → List Check
count_checks file = bundle_head_checks file ++ (7 if not (right_length (head_of file).N (count_of file) (length file)) ∷ [])

unfoldable pub reading_parameters : List ℕ → Outcome ParameterSet
reading_parameters file = outcome (count_checks file) (head_of file)

unfoldable pub reading_count : List ℕ → Outcome ℕ
reading_count file = outcome (count_checks file) (count_of file)

-- Reading a bundle with no output: what a reader is made by.
unfoldable pub bundle_checks : List ℕ → List Check
bundle_checks file = count_checks file ++ entries_checks (head_of file) (entries_of file)

abbrev pub making_reader : List ℕ → Outcome ParameterSet
making_reader file = outcome (bundle_checks file) (head_of file)

-- Reading it to two outputs, a stop and 2N numbers for each entry: 7 for their lengths too.
abbrev pub right_outputs : (N count stops numbers : ℕ) → Bool
right_outputs N count stops numbers = eqb stops count && eqb numbers (2 * N * count)

abbrev pub output_checks : List ℕ → (stops numbers : ℕ) → List Check
output_checks file stops numbers =
    7 if not (right_outputs (head_of file).N (count_of file) stops numbers)
    ∷ entries_checks (head_of file) (entries_of file)

unfoldable pub reading_checks : List ℕ → (stops numbers : ℕ) → List Check
reading_checks file stops numbers = count_checks file ++ output_checks file stops numbers

unfoldable pub reading_stops : List ℕ → (stops numbers : ℕ) → Outcome (List ℕ)
reading_stops file stops numbers = outcome (reading_checks file stops numbers) (stops_of (entries_of file))

unfoldable pub reading_numbers : List ℕ → (stops numbers : ℕ) → Outcome (List ℤ)
reading_numbers file stops numbers = outcome (reading_checks file stops numbers) (numbers_of (entries_of file))

-- The entries that are handed over to be written: a stop and the next 2N numbers each.
unfoldable pub entries_given : ℕ → List ℕ → List ℤ → List Entry
entries_given N [] numbers = []
entries_given N (s ∷ stops) numbers = entry_is s (take (2 * N) numbers) ∷ entries_given N stops (drop (2 * N) numbers)

-- 7: a bundle of so many entries, and 2N numbers for each
abbrev pub right_given : (N stops numbers room : ℕ) → Bool
right_given N stops numbers room = right_length N stops room && eqb numbers (2 * N * stops)

abbrev pub given_checks : ParameterSet → List ℕ → List ℤ → ℕ → List Check
given_checks p stops numbers room =
    7 if not (right_given p.N (length stops) (length numbers) room)
    ∷ entries_checks p (entries_given p.N stops numbers)

-- Writing: parameters, 7, 25, 12. No kind is asked for, so there is no 19.
unfoldable pub writing_checks : ParameterSet → List ℕ → List ℤ → ℕ → List Check
writing_checks p stops numbers room = parameter_checks p ++ given_checks p stops numbers room

unfoldable pub writing_bundle : ParameterSet → List ℕ → List ℤ → ℕ → Outcome (List ℕ)
writing_bundle p stops numbers room = outcome (writing_checks p stops numbers room) (bundle_of p (entries_given p.N stops numbers))
