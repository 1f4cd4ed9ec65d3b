-- Classes modulo 2 (document 02, wish 6), each by its number.
use Rattle.std.specs.Prelude.{cond, List, [], ◌∷◌, ℕ, zero, suc, ◌+◌, ◌*◌, ◌%◌, eqb, pos, negsuc, get_or}
use Rattle.std.specs.Int.Bits.{bit_xor}
use Rattle.eisenstein.specs.Values.{ℤ[ω], value, 𝟘}
use Rattle.eisenstein.specs.Reduction.{bit}

-- "in the order 0, 1, ω, −1 − ω": the four values that are reduced modulo 2, one of each class.
abbrev pub remainders : List ℤ[ω]
remainders = 𝟘 ∷ value (pos 1) (pos 0) ∷ value (pos 0) (pos 1) ∷ value (negsuc 0) (negsuc 0) ∷ []

unfoldable pub remainder_of : ℕ → ℤ[ω]
remainder_of k = get_or remainders k 𝟘

-- The number of a value's class, from the last bits of its parts.
unfoldable pub class_of : ℤ[ω] → ℕ
class_of x = bit x.a + 2 * bit x.b

-- "the sixteen products modulo 2 stand as four rows of four": in row i, entry j is the class of class i times class j.
abbrev pub products : List (List ℕ)
products =
    (0 ∷ 0 ∷ 0 ∷ 0 ∷ [])
    ∷ (0 ∷ 1 ∷ 2 ∷ 3 ∷ [])
    ∷ (0 ∷ 2 ∷ 3 ∷ 1 ∷ [])
    ∷ (0 ∷ 3 ∷ 1 ∷ 2 ∷ [])
    ∷ []

-- "and every such product is read from them"
unfoldable pub product : ℕ → ℕ → ℕ
product i j = get_or (get_or products i []) j 0

-- The sum of two classes: the exclusive or of their numbers.
abbrev pub plus : ℕ → ℕ → ℕ
plus i j = bit_xor i j

-- The sum of the classes x 0 to x (n − 1).
unfoldable pub sum : ℕ → (ℕ → ℕ) → ℕ
sum zero x = 0
sum (suc n) x = plus (sum n x) (x n)

-- Document 01's convolution of classes: "In a convolution modulo 2 only these classes are multiplied."
unfoldable pub convolution : ℕ → (ℕ → ℕ) → (ℕ → ℕ) → ℕ → ℕ
convolution N x y i = sum N (λ j. sum N (λ k. cond (eqb ((j + k) % N) i) (product (x j) (y k)) 0))
