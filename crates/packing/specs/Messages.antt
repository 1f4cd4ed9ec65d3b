-- Messages (document 01, 'Key, sealing, opening').
use Rattle.std.specs.Prelude.{Bool, not, cond, ◌&&◌, ◌||◌, List, [], ◌∷◌, ℕ, zero, suc, ◌+◌, ◌-◌, ◌*◌, ◌/◌, ◌%◌, ◌^◌, eqb, ltb, ℤ, pos, negsuc, get_or}
use Rattle.eisenstein.specs.Values.{ℤ[ω], value}
use Rattle.eisenstein.specs.Reduction.{bit}
use Rattle.polynomials.specs.Polynomials.{Polynomial, all}

-- "A message is 2N bits in N/4 bytes, rounded up, highest bit first."
abbrev pub message_bytes : ℕ → ℕ
message_bytes N = (N + 3) / 4

unfoldable pub bit_of : List ℕ → ℕ → ℕ
bit_of message k = get_or message (k / 8) 0 / 2 ^ (7 - k % 8) % 2

-- "Pair i, bits a then b, is coefficient (a, b) of m, but 11 is (−1,−1)."
unfoldable pub pair : ℕ → ℕ → ℤ[ω]
pair a b = cond (eqb a 1 && eqb b 1) (value (negsuc 0) (negsuc 0)) (value (pos a) (pos b))

unfoldable pub packed : List ℕ → Polynomial
packed message i = pair (bit_of message (2 * i)) (bit_of message (2 * i + 1))

-- "Spare low bits of the last byte are zero": those from bit 2N on.
unfoldable pub spare_bit_set : ℕ → List ℕ → Bool
spare_bit_set N message = not (all (8 * message_bytes N) (λ k. ltb k (2 * N) || eqb (bit_of message k) 0))

-- The other way: bit k of the polynomial m, and the bytes of its bits.
unfoldable pub message_bit : ℕ → Polynomial → ℕ → ℕ
message_bit N m k = cond (ltb k (2 * N)) (bit (cond (eqb (k % 2) 0) (m (k / 2)).a (m (k / 2)).b)) 0

unfoldable pub byte : (ℕ → ℕ) → ℕ → ℕ
byte b j =
    128 * b (8 * j) + 64 * b (8 * j + 1) + 32 * b (8 * j + 2) + 16 * b (8 * j + 3) + 8 * b (8 * j + 4) + 4 * b (8 * j + 5) + 2 * b (8 * j + 6) + b (8 * j + 7)

-- the list of f 0 to f (n − 1)
unfoldable pub listed : ℕ → (ℕ → ℕ) → List ℕ
listed zero f = []
listed (suc n) f = f 0 ∷ listed n (λ i. f (suc i))

unfoldable pub unpacked : ℕ → Polynomial → List ℕ
unpacked N m = listed (message_bytes N) (byte (message_bit N m))
