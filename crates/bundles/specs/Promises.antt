-- What is promised of bundles, each proved in proofs/, for every accepted input.
use Rattle.std.specs.Prelude.{◌≡◌, true, false, ℕ, ◌+◌, ◌*◌, ◌≤◌, ◌<◌, ℤ, length, get_or, replicate}
use mathlib.Core.List.{List, [], ◌++◌, map, Permᴰ}
use Rattle.refusals.specs.Outcomes.{done, outcome, Passes}
use Rattle.parameters.specs.Sets.{ParameterSet}
use Rattle.packing.specs.Promises.{Bytes}
use Rattle.heads.specs.Heads.{head_of}
use Rattle.bundles.specs.Bundles.{Entry, stops_of, numbers_of, entry_start, bundle_of, count_of, stored_at, stored_of}
use Rattle.bundles.specs.Calls.{entries_checks, reading_parameters, reading_count, bundle_checks, reading_checks, reading_stops, reading_numbers, entries_given, writing_bundle}
use Rattle.bundles.specs.Steps.{stands_at, next_at, start_of, past, handed, walk, place_after}

-- Stops of 16 bits.
abbrev pub Stops16 : List ℕ → Type 0
Stops16 stops = (k : ℕ) → get_or stops k 0 < 65536

-- What is written reads back to the same parameters, count, stops and numbers, and a reader of it is made.
abbrev pub ReadingUndoesWriting : Type 0
ReadingUndoesWriting =
    (p : ParameterSet) (stops : List ℕ) (numbers : List ℤ) (room : ℕ) (file : List ℕ) → Stops16 stops → writing_bundle p stops numbers room ≡ done file
    → (reading_parameters file ≡ done p)
    × (reading_count file ≡ done (length stops))
    × (reading_stops file (length stops) (length numbers) ≡ done stops)
    × (reading_numbers file (length stops) (length numbers) ≡ done numbers)
    × Passes (bundle_checks file)

-- What is read without refusal has stops of 16 bits, and writes back to the same bytes, with the parameters of its head.
abbrev pub WritingUndoesReading : Type 0
WritingUndoesReading =
    (file : List ℕ) (room room' : ℕ) (stops : List ℕ) (numbers : List ℤ) → Bytes file → reading_stops file room room' ≡ done stops → reading_numbers file room room' ≡ done numbers
    → (reading_parameters file ≡ done (head_of file)) × Stops16 stops × (writing_bundle (head_of file) stops numbers (length file) ≡ done file)

-- A reader refuses what reading to outputs of the right lengths refuses, by the same number.
abbrev pub ReaderRefusesAlike : Type 0
ReaderRefusesAlike = (file : List ℕ) → outcome (bundle_checks file) (tt {0}) ≡ outcome (reading_checks file (count_of file) (2 * (head_of file).N * count_of file)) tt

-- What is written are bytes.
abbrev pub WrittenBytes : Type 0
WrittenBytes = (p : ParameterSet) (stops : List ℕ) (numbers : List ℤ) (room : ℕ) (file : List ℕ) → Stops16 stops → writing_bundle p stops numbers room ≡ done file → Bytes file

-- "walks its entries": from the start of a made reader on, the steps hand out exactly the entries of the bundle, in order, then that no entry is left, and nothing else.
abbrev pub Walking : Type 0
Walking = (file : List ℕ) → Passes (bundle_checks file) → (n : ℕ) → walk file (start_of file) (count_of file + n) ≡ map handed (stored_of file) ++ replicate n past

-- The same step by step, for callers that hold a place: in an accepted bundle place k is that of entry k, and from the last entry on no entry stands and the place stays.
abbrev pub Stepping : Type 0
Stepping =
    (file : List ℕ) → Passes (bundle_checks file) → (k : ℕ) → let at = place_after file (start_of file) k in
    (k < count_of file → (at ≡ entry_start (head_of file).N k) × (stands_at file at ≡ true) × (stored_at (head_of file).N file at ≡ get_or (stored_of file) k (record { stop = 0; part = [] })))
    × (count_of file ≤ k → (stands_at file at ≡ false) × (next_at file at ≡ at))

-- "entry order is open": the same entries in another order are refused alike, and what can be written in one order can be written in each.
abbrev pub SameEntries : (es es' : List Entry) → Type 0
SameEntries es es' = Permᴰ es es'

abbrev pub OrderRefusedAlike : Type 0
OrderRefusedAlike = (p : ParameterSet) (es es' : List Entry) → SameEntries es es' → outcome (entries_checks p es) (tt {0}) ≡ outcome (entries_checks p es') tt

abbrev pub OrderOpen : Type 0
OrderOpen =
    (p : ParameterSet) (stops : List ℕ) (numbers : List ℤ) (room : ℕ) (file : List ℕ) (es : List Entry) → writing_bundle p stops numbers room ≡ done file → SameEntries (entries_given p.N stops numbers) es
    → writing_bundle p (stops_of es) (numbers_of es) room ≡ done (bundle_of p es)
