-- Files (document 01, 'Files'): a head, then arrays.
use Rattle.std.specs.Prelude.{List, [], ◌∷◌, ◌++◌, ℕ, ◌+◌, ◌*◌, ℤ, length, take, drop}
use Rattle.parameters.specs.Sets.{ParameterSet}
use Rattle.heads.specs.Kinds.{arrays_of}
use Rattle.heads.specs.Heads.{head_length, bytes16, number16, bits16, signed16, head_bytes}

-- "Then arrays of 2N signed 16-bit numbers." "Length: 16 + 4N bytes per array."
unfoldable pub file_numbers : ℕ → ℕ → ℕ
file_numbers kind N = 2 * N * length (arrays_of kind)

unfoldable pub file_bytes : ℕ → ℕ → ℕ
file_bytes kind N = head_length + 4 * N * length (arrays_of kind)

-- The numbers of bytes, and those of a file's arrays, one after another.
unfoldable pub numbers_from : List ℕ → List ℤ
numbers_from [] = []
numbers_from (high ∷ []) = []
numbers_from (high ∷ low ∷ rest) = signed16 (number16 high low) ∷ numbers_from rest

abbrev pub numbers_of : List ℕ → List ℤ
numbers_of file = numbers_from (drop head_length file)

-- Array k of them.
unfoldable pub array_at : ParameterSet → ℕ → List ℤ → List ℤ
array_at p k numbers = take (2 * p.N) (drop (2 * p.N * k) numbers)

-- The other way: a head, then the arrays.
unfoldable pub bytes_of : List ℤ → List ℕ
bytes_of [] = []
bytes_of (z ∷ rest) = bytes16 (bits16 z) ++ bytes_of rest

unfoldable pub file_of : ℕ → ParameterSet → List ℤ → List ℕ
file_of kind p numbers = head_bytes kind p ++ bytes_of numbers
