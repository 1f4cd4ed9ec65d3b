-- What is promised of files: both round trips, for every kind and every accepted input, proved in proofs/RoundTrips.antt, where a private file meets 9, proved in proofs/PrivateFiles.antt, and that kind 5 is laid out like kind 3, proved in proofs/ShortFiles.antt.
use Rattle.std.specs.Prelude.{◌≡◌, true, false, List, [], ◌∷◌, ◌++◌, ℕ, ℤ, length, take, drop}
use Rattle.refusals.specs.Outcomes.{done, outcome, number, ◌if◌}
use Rattle.parameters.specs.Sets.{ParameterSet, parameter_checks}
use Rattle.polynomials.specs.Polynomials.{coefficient, whole_triples}
use Rattle.packing.specs.Promises.{Bytes}
use Rattle.heads.specs.Heads.{head_of}
use Rattle.head_reading.specs.Calls.{head_checks, reading_head}
use Rattle.files.specs.Files.{numbers_of, array_at, file_of}
use Rattle.files.specs.Calls.{stored_checks, reading, given_checks, writing}

-- What is written reads back to the same parameters and the same numbers.
abbrev pub ReadingUndoesWriting : Type 0
ReadingUndoesWriting =
    (kind : ℕ) (p : ParameterSet) (numbers : List ℤ) (room : ℕ) (file : List ℕ) → writing kind p numbers room ≡ done file → (reading_head kind file ≡ done p) × (reading kind file (length numbers) ≡ done numbers)

-- What is read without refusal writes back to the same bytes, with the parameters of its head.
abbrev pub WritingUndoesReading : Type 0
WritingUndoesReading =
    (kind : ℕ) (file : List ℕ) (room : ℕ) (numbers : List ℤ) → Bytes file → reading kind file room ≡ done numbers → (reading_head kind file ≡ done (head_of file)) × (writing kind (head_of file) numbers (length file) ≡ done file)

-- What is written are bytes.
abbrev pub WrittenBytes : Type 0
WrittenBytes = (kind : ℕ) (p : ParameterSet) (numbers : List ℤ) (room : ℕ) (file : List ℕ) → writing kind p numbers room ≡ done file → Bytes file

-- Document 02's wish 3, "Other inputs now meet 9 or 10 at their present places": 9 after 7, 8, 11 and 12, of a private file whose g, the fourth of its arrays, is not in whole triples.
abbrev pub OtherGNotRead : Type 0
OtherGNotRead =
    (file : List ℕ) (room : ℕ) → whole_triples (head_of file).N (head_of file).s (coefficient (array_at (head_of file) 3 (numbers_of file))) ≡ false
    → reading 2 file room ≡ outcome (head_checks 2 file ++ (parameter_checks (head_of file) ++ (take 4 (stored_checks 2 (head_of file) file room) ++ 9 if true ∷ []))) []

abbrev pub OtherGNotWritten : Type 0
OtherGNotWritten =
    (p : ParameterSet) (numbers : List ℤ) (room : ℕ) → whole_triples p.N p.s (coefficient (array_at p 3 numbers)) ≡ false
    → writing 2 p numbers room ≡ outcome (parameter_checks p ++ (take 4 (given_checks 2 p numbers room) ++ 9 if true ∷ [])) []

-- Document 02's wish 4, "kind 5, laid out like kind 3": what is read and written is the same, but for byte 5, the kind, and so is what is refused.
abbrev pub ShortReadLikeSealed : Type 0
ShortReadLikeSealed =
    (b0 b1 b2 b3 b4 : ℕ) (rest : List ℕ) (room : ℕ) → let short = b0 ∷ b1 ∷ b2 ∷ b3 ∷ b4 ∷ 5 ∷ rest in let sealed = b0 ∷ b1 ∷ b2 ∷ b3 ∷ b4 ∷ 3 ∷ rest in
    (reading_head 5 short ≡ reading_head 3 sealed) × (reading 5 short room ≡ reading 3 sealed room)

abbrev pub ShortWrittenLikeSealed : Type 0
ShortWrittenLikeSealed =
    (p : ParameterSet) (numbers : List ℤ) (room : ℕ)
    → (number (writing 5 p numbers room) ≡ number (writing 3 p numbers room)) × (file_of 5 p numbers ≡ take 5 (file_of 3 p numbers) ++ 5 ∷ drop 6 (file_of 3 p numbers))
