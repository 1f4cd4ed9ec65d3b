-- Document 01, 'Small keys and remainders': the lines marked ◆, and those of its file and the program, as rows under one statement.
use Rattle.std.specs.Prelude.{◌≡◌, List, [], ◌∷◌, ◌++◌, ℕ, ◌*◌, ℤ, pos, negsuc, length}
use Rattle.refusals.specs.Outcomes.{number, done}
use Rattle.eisenstein.specs.Values.{ℤ[ω], value, norm}
use Rattle.eisenstein.specs.Reduction.{Remainder, mod2}
use Rattle.parameters.specs.Sets.{ParameterSet, set, bound, parameters}
use Rattle.packing.specs.Messages.{message_bytes}
use Rattle.etru.specs.Calls.{key_check, sealing, opening}
use Rattle.files.specs.Calls.{reading, writing}
use Rattle.opening.specs.Program.{opening_line}

pub data Row : Type 0 where
  remainder : (q x r : ℤ[ω]) → Row  -- x modulo q is r
  remainder_2 : (x r : ℤ[ω]) → Row  -- x modulo 2 is r
  norm-is : (x : ℤ[ω]) → ℕ → Row
  refusal : ParameterSet → ℕ → Row  -- the set meets this refusal; 0: it is accepted
  bound-is : ParameterSet → ℕ → Row  -- 4 × (2s + t)²
  public_key_of : ParameterSet → (f F2 Fq g h : List ℤ) → Row
  seals : ParameterSet → (h φ : List ℤ) → (message : List ℕ) → (e : List ℤ) → Row
  opens : ParameterSet → (f F2 e : List ℤ) → (message : List ℕ) → Row
  stored : ℕ → ParameterSet → (numbers : List ℤ) → (file : List ℕ) → Row  -- a file of a kind, written and read
  prints : (input line : List ℕ) → Row

abbrev pub Holds : Row → Type 0
Holds (remainder q x r) = Remainder q x r
Holds (remainder_2 x r) = mod2 x ≡ r
Holds (norm-is x n) = norm x ≡ n
Holds (refusal p n) = number (parameters p) ≡ n
Holds (bound-is p n) = bound p ≡ n
Holds (public_key_of p f F2 Fq g h) = key_check p f F2 Fq g (2 * p.N) ≡ done h
Holds (seals p h φ message e) = sealing p h φ message (2 * p.N) ≡ done e
Holds (opens p f F2 e message) = opening p f F2 e (message_bytes p.N) ≡ done message
Holds (stored kind p numbers file) = (writing kind p numbers (length file) ≡ done file) × (reading kind file (length numbers) ≡ done numbers)
Holds (prints input line) = opening_line input ≡ line

abbrev pub All : List Row → Type 0
All [] = Unit {0}
All (r ∷ rs) = Holds r × All rs

-- N = 3, q = 15, s = 3, t = 1; 1; (1,0),(0,1),(−1,−1); (7,0),(−1,5),(−6,−6)
abbrev small : ParameterSet
small = set 3 (pos 15) (pos 0) 3 1

abbrev one : List ℤ
one = pos 1 ∷ pos 0 ∷ pos 0 ∷ pos 0 ∷ pos 0 ∷ pos 0 ∷ []

abbrev triple : List ℤ
triple = pos 1 ∷ pos 0 ∷ pos 0 ∷ pos 1 ∷ negsuc 0 ∷ negsuc 0 ∷ []

abbrev sealed : List ℤ
sealed = pos 7 ∷ pos 0 ∷ negsuc 0 ∷ pos 5 ∷ negsuc 5 ∷ negsuc 5 ∷ []

-- "Its file, hexadecimal: 45495A 0001 03 0003 000F 0000 0003 0001 0007 0000 FFFF 0005 FFFA FFFA."
abbrev sealed_file : List ℕ
sealed_file =
    0x45 ∷ 0x49 ∷ 0x5a ∷ 0x00 ∷ 0x01 ∷ 0x03 ∷ 0x00 ∷ 0x03 ∷ 0x00 ∷ 0x0f ∷ 0x00 ∷ 0x00 ∷ 0x00 ∷ 0x03 ∷ 0x00 ∷ 0x01 ∷ 0x00 ∷ 0x07 ∷ 0x00 ∷ 0x00 ∷ 0xff ∷ 0xff ∷ 0x00 ∷ 0x05 ∷ 0xff ∷ 0xfa ∷ 0xff ∷ 0xfa ∷ []

-- h = g as bytes, and the file of the public key
abbrev triple_bytes : List ℕ
triple_bytes = 0x00 ∷ 0x01 ∷ 0x00 ∷ 0x00 ∷ 0x00 ∷ 0x00 ∷ 0x00 ∷ 0x01 ∷ 0xff ∷ 0xff ∷ 0xff ∷ 0xff ∷ []

abbrev public_file : List ℕ
public_file = 0x45 ∷ 0x49 ∷ 0x5a ∷ 0x00 ∷ 0x01 ∷ 0x01 ∷ 0x00 ∷ 0x03 ∷ 0x00 ∷ 0x0f ∷ 0x00 ∷ 0x00 ∷ 0x00 ∷ 0x03 ∷ 0x00 ∷ 0x01 ∷ triple_bytes

-- f = F2 = Fq = 1 as bytes, and the 64-byte file of the key
abbrev one_bytes : List ℕ
one_bytes = 0 ∷ 1 ∷ 0 ∷ 0 ∷ 0 ∷ 0 ∷ 0 ∷ 0 ∷ 0 ∷ 0 ∷ 0 ∷ 0 ∷ []

abbrev key_file : List ℕ
key_file =
    0x45 ∷ 0x49 ∷ 0x5a ∷ 0x00 ∷ 0x01 ∷ 0x02 ∷ 0x00 ∷ 0x03 ∷ 0x00 ∷ 0x0f ∷ 0x00 ∷ 0x00 ∷ 0x00 ∷ 0x03 ∷ 0x00 ∷ 0x01 ∷ one_bytes ++ (one_bytes ++ (one_bytes ++ triple_bytes))

abbrev pub rows : List Row
rows =
    -- "(1,−1) modulo 3 is (1,2): three values share norm 3."
    remainder (value (pos 3) (pos 0)) (value (pos 1) (negsuc 0)) (value (pos 1) (pos 2))
    ∷ norm-is (value (pos 1) (pos 2)) 3
    ∷ norm-is (value (pos 1) (negsuc 0)) 3
    ∷ norm-is (value (negsuc 1) (negsuc 0)) 3
    -- "(7,8) modulo 15 is (7,8), norm 57; (−8,−7) ties and loses."
    ∷ remainder (value (pos 15) (pos 0)) (value (pos 7) (pos 8)) (value (pos 7) (pos 8))
    ∷ remainder (value (pos 15) (pos 0)) (value (negsuc 7) (negsuc 6)) (value (pos 7) (pos 8))
    ∷ norm-is (value (pos 7) (pos 8)) 57
    ∷ norm-is (value (negsuc 7) (negsuc 6)) 57
    -- "7 modulo 15 is 7." "8 modulo 15 is −7."
    ∷ remainder (value (pos 15) (pos 0)) (value (pos 7) (pos 0)) (value (pos 7) (pos 0))
    ∷ remainder (value (pos 15) (pos 0)) (value (pos 8) (pos 0)) (value (negsuc 6) (pos 0))
    -- "(1,1) modulo 2 is (−1,−1)." "(−1,0) modulo 2 is (1,0)."
    ∷ remainder_2 (value (pos 1) (pos 1)) (value (negsuc 0) (negsuc 0))
    ∷ remainder_2 (value (negsuc 0) (pos 0)) (value (pos 1) (pos 0))
    -- "Norm of (11,86) is 6,571." "Norm of (0,81) is 6,561."
    ∷ norm-is (value (pos 11) (pos 86)) 6571
    ∷ norm-is (value (pos 0) (pos 81)) 6561
    -- "N = 3, q = 15, s = 3, t = 1: accepted, 196 below 225." "t = 2: refusal 6, 256."
    ∷ refusal (set 3 (pos 15) (pos 0) 3 1) 0
    ∷ bound-is (set 3 (pos 15) (pos 0) 3 1) 196
    ∷ norm-is (value (pos 15) (pos 0)) 225
    ∷ refusal (set 3 (pos 15) (pos 0) 3 2) 6
    ∷ bound-is (set 3 (pos 15) (pos 0) 3 2) 256
    -- "f = F2 = Fq = 1; g = φ = (1,0),(0,1),(−1,−1). Then h = g. Message byte B0 hexadecimal seals to (7,0),(−1,5),(−6,−6)." "That opens to B0."
    ∷ public_key_of small one one one triple triple
    ∷ seals small triple triple (0xb0 ∷ []) sealed
    ∷ opens small one one sealed (0xb0 ∷ [])
    -- "The same sealed array opens to B0 with f having (0,1) at X and F2 having (−1,−1) at X²."
    ∷ opens small (pos 0 ∷ pos 0 ∷ pos 0 ∷ pos 1 ∷ pos 0 ∷ pos 0 ∷ []) (pos 0 ∷ pos 0 ∷ pos 0 ∷ pos 0 ∷ negsuc 0 ∷ negsuc 0 ∷ []) sealed (0xb0 ∷ [])
    -- "Its file"; "The program, given the 64-byte file of the key with f = 1 and this one, prints `0 B0`."
    ∷ stored 3 small sealed sealed_file
    ∷ stored 1 small triple public_file
    ∷ stored 2 small (one ++ (one ++ (one ++ triple))) key_file
    ∷ prints (key_file ++ sealed_file) (0x30 ∷ 0x20 ∷ 0x42 ∷ 0x30 ∷ 0x0a ∷ [])
    ∷ []

abbrev pub RowsHold : Type 0
RowsHold = All rows
