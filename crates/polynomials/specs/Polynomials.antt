-- Polynomials (document 01, 'The ring', 'Parameters' and 'Key, sealing, opening').
use Rattle.std.specs.Prelude.{Bool, true, false, not, cond, ◌&&◌, ◌||◌, List, [], ◌∷◌, ℕ, zero, suc, ◌+◌, ◌*◌, ◌%◌, eqb, ℤ, pos, get_or}
use Rattle.eisenstein.specs.Values.{ℤ[ω], value, 𝟘, units, unit, ◌+ω◌, ◌*ω◌, same}
use Rattle.eisenstein.specs.Reduction.{mod_q, mod2}

-- A polynomial by its coefficients: coefficient i for each i below N.
abbrev pub Polynomial : Type 0
Polynomial = ℕ → ℤ[ω]

-- "A polynomial is N coefficients, lent as 2N signed 32-bit numbers a0, b0, a1, b1 and so on."
unfoldable pub coefficient : List ℤ → Polynomial
coefficient l i = value (get_or l (2 * i) (pos 0)) (get_or l (2 * i + 1) (pos 0))

unfoldable pub array : ℕ → Polynomial → List ℤ
array zero x = []
array (suc n) x = (x 0).a ∷ (x 0).b ∷ array n (λ i. x (suc i))

-- The sum of x 0 to x (n − 1).
unfoldable pub sum : ℕ → Polynomial → ℤ[ω]
sum zero x = 𝟘
sum (suc n) x = sum n x +ω x n

-- "Coefficient i of a convolution is the sum of products of coefficients j and k with (j + k) mod N = i."
unfoldable pub convolution : ℕ → Polynomial → Polynomial → Polynomial
convolution N x y i = sum N (λ j. sum N (λ k. cond (eqb ((j + k) % N) i) (x j *ω y k) 𝟘))

-- "1 is the polynomial with first coefficient (1,0) and the others zero."
unfoldable pub one : Polynomial
one i = cond (eqb i 0) (value (pos 1) (pos 0)) 𝟘

-- Whether t holds of every number below n, and of how many.
unfoldable pub all : ℕ → (ℕ → Bool) → Bool
all zero t = true
all (suc n) t = all n t && t n

unfoldable pub count : ℕ → (ℕ → Bool) → ℕ
count zero t = 0
count (suc n) t = count n t + cond (t n) 1 0

-- "exactly t nonzero coefficients, each a unit"
unfoldable pub nonzero : ℤ[ω] → Bool
nonzero x = not (same x 𝟘)

unfoldable pub among : List ℤ[ω] → ℤ[ω] → Bool
among [] x = false
among (u ∷ us) x = same x u || among us x

abbrev pub zeros_and_units : ℕ → Polynomial → Bool
zeros_and_units N x = all N (λ i. not (nonzero (x i)) || among units (x i))

unfoldable pub units_only : ℕ → ℕ → Polynomial → Bool
units_only N t x = eqb (count N (λ i. nonzero (x i))) t && zeros_and_units N x

-- How many coefficients are unit k.
unfoldable pub unit_count : ℕ → Polynomial → (k : ℕ) → ℕ
unit_count N x k = count N (λ i. same (x i) (unit k))

unfoldable pub equally_many : ℕ → Polynomial → (j k l : ℕ) → Bool
equally_many N x j k l = eqb (unit_count N x j) (unit_count N x k) && eqb (unit_count N x k) (unit_count N x l)

-- The set of g and φ. Document 02, wish 3: "equally many of units 0, 2 and 4, and equally many of units 1, 3 and 5"
unfoldable pub whole_triples : ℕ → ℕ → Polynomial → Bool
whole_triples N s x = units_only N s x && (equally_many N x 0 2 4 && equally_many N x 1 3 5)

-- Reduced modulo q, and modulo 2: each coefficient is its own remainder.
unfoldable pub reduced_q : ℕ → ℤ[ω] → Polynomial → Bool
reduced_q N q x = all N (λ i. same (mod_q q (x i)) (x i))

unfoldable pub reduced2 : ℕ → Polynomial → Bool
reduced2 N x = all N (λ i. same (mod2 (x i)) (x i))

-- Congruent modulo q, and modulo 2: the coefficients have the same remainders.
unfoldable pub congruent_q : ℕ → ℤ[ω] → Polynomial → Polynomial → Bool
congruent_q N q x y = all N (λ i. same (mod_q q (x i)) (mod_q q (y i)))

unfoldable pub congruent2 : ℕ → Polynomial → Polynomial → Bool
congruent2 N x y = all N (λ i. same (mod2 (x i)) (mod2 (y i)))
