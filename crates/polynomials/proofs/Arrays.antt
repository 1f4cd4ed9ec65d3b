-- Arrays of 2N numbers and their coefficients.
use mathlib.Core.Path.{◌≡◌, refl, sym, ◌∙◌, ap, ap₂, subst}
use mathlib.Core.List.{List, [], ◌∷◌}
use mathlib.Core.Logic.{◌≢◌}
use Prim.Native.Nat.{ℕ, zero, suc, ◌+◌, ◌*◌, ◌<◌}
use native.Mathlib.Omega.{arith}
use lib.IntN.{ℤ, pos}
use lib.ListN.{length, get_or, set, length-set}
use lib.Seq.{get_or-set_same, get_or-set_other}
use Rattle.eisenstein.specs.Values.{ℤ[ω], value}
use Rattle.polynomials.specs.Polynomials.{Polynomial, coefficient, array}

-- the coefficients after the first
pub coefficient_later : (a b : ℤ) (l : List ℤ) (i : ℕ) → coefficient (a ∷ b ∷ l) (suc i) ≡ coefficient l i
unfolding coefficient
coefficient_later a b l i =
    ap₂ value (ap (λ (k : ℕ). get_or (a ∷ b ∷ l) k (pos 0)) {x = 2 * suc i} {y = suc (suc (2 * i))} (omega arith))
    (ap (λ (k : ℕ). get_or (a ∷ b ∷ l) k (pos 0)) {x = 2 * suc i + 1} {y = suc (suc (2 * i + 1))} (omega arith))

coefficient-first : (a b : ℤ) (l : List ℤ) → coefficient (a ∷ b ∷ l) 0 ≡ value a b
unfolding coefficient
coefficient-first a b l = refl

pub coefficient-array : (N : ℕ) (x : Polynomial) (i : ℕ) → i < N → coefficient (array N x) i ≡ x i
unfolding array
coefficient-array zero x i h = absurd (omega arith)
coefficient-array (suc n) x zero h = coefficient-first (x 0).a (x 0).b (array n (λ i. x (suc i)))
coefficient-array (suc n) x (suc i) h = coefficient_later (x 0).a (x 0).b (array n (λ i. x (suc i))) i ∙ coefficient-array n (λ i. x (suc i)) i (omega arith)

pub array_length : (N : ℕ) (x : Polynomial) → length (array N x) ≡ 2 * N
unfolding array
array_length zero x = refl
array_length (suc n) x = omega (arith, array_length n (λ i. x (suc i)))

pub array_same : (N : ℕ) {x y : Polynomial} → ((i : ℕ) → i < N → x i ≡ y i) → array N x ≡ array N y
unfolding array
array_same zero h = refl
array_same (suc n) {x} {y} h =
    ap₂ (λ (z : ℤ[ω]) (l : List ℤ). z.a ∷ z.b ∷ l) (h 0 (omega arith)) (array_same n (λ i l. h (suc i) (omega arith)))

-- an array of the right length is that of its coefficients
pub array_coefficients : (N : ℕ) (l : List ℤ) → length l ≡ 2 * N → array N (coefficient l) ≡ l
unfolding array
array_coefficients zero [] h = refl
array_coefficients zero (a ∷ l) h = absurd (omega arith)
array_coefficients (suc n) [] h = absurd (omega arith)
array_coefficients (suc n) (a ∷ []) h = absurd (omega arith)
array_coefficients (suc n) (a ∷ b ∷ l) h =
    ap₂ (λ (z : ℤ[ω]) (r : List ℤ). z.a ∷ z.b ∷ r) (coefficient-first a b l)
    (array_same n (λ i p. coefficient_later a b l i) ∙ array_coefficients n l (omega arith))

-- ---- an array after one coefficient is stored

pub stored_at_lem : (l : List ℤ) (i : ℕ) (a b : ℤ) → 2 * i + 1 < length l → coefficient (set (set l (2 * i) a) (2 * i + 1) b) i ≡ value a b
unfolding coefficient
stored_at_lem l i a b h =
    ap₂ value (get_or-set_other (set l (2 * i) a) (2 * i + 1) (2 * i) b (pos 0) (λ e. omega arith) ∙ get_or-set_same l (2 * i) a (pos 0) (omega arith))
    (get_or-set_same (set l (2 * i) a) (2 * i + 1) b (pos 0) (subst (λ (n : ℕ). 2 * i + 1 < n) (sym (length-set l (2 * i) a)) h))

pub stored_elsewhere : (l : List ℤ) (i k : ℕ) (a b : ℤ) → k ≢ i → coefficient (set (set l (2 * i) a) (2 * i + 1) b) k ≡ coefficient l k
unfolding coefficient
stored_elsewhere l i k a b ne = ap₂ value (past (2 * k) (λ e. ne (omega arith)) (λ e. ne (omega arith))) (past (2 * k + 1) (λ e. ne (omega arith)) (λ e. ne (omega arith)))
  where
    past : (m : ℕ) → (m ≡ 2 * i → ⊥) → (m ≡ 2 * i + 1 → ⊥) → get_or (set (set l (2 * i) a) (2 * i + 1) b) m (pos 0) ≡ get_or l m (pos 0)
    past m p q = get_or-set_other (set l (2 * i) a) (2 * i + 1) m b (pos 0) q ∙ get_or-set_other l (2 * i) m a (pos 0) p

-- coefficients known one by one make up an array
pub array_by_coefficients : (N : ℕ) (l : List ℤ) (x : Polynomial) → length l ≡ 2 * N → ((i : ℕ) → i < N → coefficient l i ≡ x i) → l ≡ array N x
array_by_coefficients N l x e h = sym (array_coefficients N l e) ∙ array_same N h

pub stored_length : (l : List ℤ) (i : ℕ) (a b : ℤ) → length (set (set l (2 * i) a) (2 * i + 1) b) ≡ length l
stored_length l i a b = length-set (set l (2 * i) a) (2 * i + 1) b ∙ length-set l (2 * i) a
