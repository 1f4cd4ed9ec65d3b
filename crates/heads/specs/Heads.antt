-- Heads of files (document 01, 'Files'), and numbers as bytes.
use Rattle.std.specs.Prelude.{cond, List, [], ◌∷◌, ◌++◌, ℕ, suc, ◌+◌, ◌-◌, ◌*◌, ◌/◌, ◌%◌, ltb, ℤ, pos, negsuc, get_or}
use Rattle.parameters.specs.Sets.{ParameterSet, set}

-- A head takes bytes 0 to 15, and says "version 1".
abbrev pub head_length : ℕ
head_length = 16

abbrev pub version : ℕ
version = 1

-- "Numbers are big-endian": the two bytes of a 16-bit number, and the number of two bytes.
unfoldable pub bytes16 : ℕ → List ℕ
bytes16 n = n / 256 ∷ n % 256 ∷ []

unfoldable pub number16 : ℕ → ℕ → ℕ
number16 high low = 256 * high + low

-- The bits of a signed 16-bit number, and the number of 16 bits.
unfoldable pub bits16 : ℤ → ℕ
bits16 (pos n) = n
bits16 (negsuc n) = 65535 - n

unfoldable pub signed16 : ℕ → ℤ
signed16 n = cond (ltb n 32768) (pos n) (negsuc (65535 - n))

-- The numbers at byte k of a file.
unfoldable pub unsigned_at : List ℕ → ℕ → ℕ
unsigned_at file k = number16 (get_or file k 0) (get_or file (suc k) 0)

unfoldable pub signed_at : List ℕ → ℕ → ℤ
signed_at file k = signed16 (unsigned_at file k)

-- "6–7: N. 8–9 and 10–11: c and d, signed. 12–13: s. 14–15: t."
unfoldable pub head_of : List ℕ → ParameterSet
head_of file = set (unsigned_at file 6) (signed_at file 8) (signed_at file 10) (unsigned_at file 12) (unsigned_at file 14)

-- The other way: "Bytes 0–2: the letters EIZ. 3–4: version 1. 5: kind." Then the parameters.
unfoldable pub head_bytes : ℕ → ParameterSet → List ℕ
head_bytes kind p =
    69 ∷ 73 ∷ 90 ∷ bytes16 version ++ (kind ∷ bytes16 p.N ++ (bytes16 (bits16 p.q.a) ++ (bytes16 (bits16 p.q.b) ++ (bytes16 p.s ++ bytes16 p.t))))
