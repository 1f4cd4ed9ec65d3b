-- What membership in the sets of f, g and φ tells of a polynomial, and being reduced: each coefficient's norm is at most 1, and a product with such a polynomial is bounded by its count of units.
use mathlib.Core.Path.{◌≡◌, refl, sym, ap₂, subst}
use mathlib.Core.Bool.{Bool, true, false, not, cond, ◌&&◌, ◌||◌}
use mathlib.Core.List.{List, [], ◌∷◌}
use mathlib.Core.Logic.{⊎_elim}
use Prim.Native.Nat.{ℕ, zero, suc, ◌+◌, ◌*◌, ◌<◌}
use native.Mathlib.Omega.{arith}
use native.Mathlib.Decide.{ℕ_discrete}
use native.Mathlib.Nat.{one-mul, zero-mul}
use borrow.Author.Tests.{not-false}
use lib.Dec.{T, eqb, eqb→eq, leb, leb→le}
use mir.Facts.{and_yes, yes_and, or_yes}
use Rattle.eisenstein.specs.Values.{ℤ[ω], 𝟘, units, norm, ◌*ω◌, same, same_ℤ}
use Rattle.eisenstein.specs.Reduction.{mod_q, mod2, bit}
use Rattle.eisenstein.proofs.Equality.{same_yes, same_true}
use Rattle.eisenstein.proofs.Modulo2.{by_bits, mod2_by_bits}
use Rattle.polynomials.specs.Polynomials.{Polynomial, all, count, nonzero, among, units_only, whole_triples, reduced_q, reduced2, convolution}
use Rattle.polynomials.proofs.Rings.{Group}
use Rattle.polynomials.proofs.Sums.{total}
use Rattle.polynomials.proofs.Convolutions.{conv, conv_single}
use Rattle.polynomials.proofs.Cyclic.{cyclic}
use Rattle.polynomials.proofs.Eisenstein.{ring, convolution-is}
use Rattle.polynomials.proofs.Bounds.{Within, within_zero, within_mul, within_total}

norm-small : (u v : Bool) → T (leb (norm (by_bits u v)) 1)
unfolding norm
norm-small true true = tt
norm-small true false = tt
norm-small false true = tt
norm-small false false = tt

bits_unit : (u v : Bool) → T (not (nonzero (by_bits u v)) || among units (by_bits u v))
unfolding nonzero among same same_ℤ
bits_unit true true = tt
bits_unit true false = tt
bits_unit false true = tt
bits_unit false false = tt

-- ---- a test of every index

pub all_at : (n : ℕ) (t : ℕ → Bool) → T (all n t) → (i : ℕ) → i < n → T (t i)
unfolding all
all_at zero t h i l = absurd (omega arith)
all_at (suc n) t h i l = go (ℕ_discrete i n) (all_at n t (and_yes (all n t) (t n) h).0 i)
  where
    go : Dec (i ≡ n) → (i < n → T (t i)) → T (t i)
    go (yes e) r = subst (λ (k : ℕ). T (t k)) (sym e) (and_yes (all n t) (t n) h).1
    go (no e) r = r (omega arith)

pub at_all : (n : ℕ) (t : ℕ → Bool) → ((i : ℕ) → i < n → T (t i)) → T (all n t)
unfolding all
at_all zero t h = tt
at_all (suc n) t h = yes_and (all n t) (t n) (at_all n t (λ i l. h i (omega arith))) (h n (omega arith))

pub all_same : (n : ℕ) {t u : ℕ → Bool} → ((i : ℕ) → i < n → t i ≡ u i) → all n t ≡ all n u
unfolding all
all_same zero h = refl
all_same (suc n) h = ap₂ ◌&&◌ (all_same n (λ i p. h i (omega arith))) (h n (omega arith))

pub count_same : (n : ℕ) {t u : ℕ → Bool} → ((i : ℕ) → i < n → t i ≡ u i) → count n t ≡ count n u
unfolding count
count_same zero h = refl
count_same (suc n) h = ap₂ (λ (k : ℕ) (t : Bool). k + cond t 1 0) (count_same n (λ i l. h i (omega arith))) (h n (omega arith))

-- ---- units

-- a test of each value in a list
abbrev pub each : (ℤ[ω] → Bool) → List ℤ[ω] → Bool
each p [] = true
each p (u ∷ us) = p u && each p us

among_each : (p : ℤ[ω] → Bool) (us : List ℤ[ω]) (x : ℤ[ω]) → T (each p us) → T (among us x) → T (p x)
unfolding among
among_each p [] x h t = absurd t
among_each p (u ∷ us) x h t =
    let k = and_yes (p u) (each p us) h in
    ⊎_elim (λ e. subst (λ (y : ℤ[ω]). T (p y)) (sym (same_yes x u e)) k.0) (λ m. among_each p us x k.1 m) (or_yes (same x u) (among us x) t)

zero_same : (x : ℤ[ω]) → T (not (nonzero x)) → T (same x 𝟘)
unfolding nonzero
zero_same x t = go (same x 𝟘) t
  where
    go : (b : Bool) → T (not (not b)) → T b
    go true t = tt
    go false t = absurd t

-- what zero and the six units pass is passed by every coefficient that is zero or a unit
pub seven_pass : (p : ℤ[ω] → Bool) → T (each p (𝟘 ∷ units)) → (x : ℤ[ω]) → T (not (nonzero x) || among units x) → T (p x)
seven_pass p h x t =
    let k = and_yes (p 𝟘) (each p units) h in
    ⊎_elim (λ z. subst (λ (y : ℤ[ω]). T (p y)) (sym (same_yes x 𝟘 (zero_same x z))) k.0) (λ m. among_each p units x k.1 m) (or_yes (not (nonzero x)) (among units x) t)

pub unit-norm : (x : ℤ[ω]) → T (among units x) → norm x ≡ 1
unfolding norm
unit-norm x t = eqb→eq (norm x) 1 (among_each (λ y. eqb (norm y) 1) units x tt t)

-- a coefficient of such a polynomial: zero, or a unit
zero_or_unit : (x : ℤ[ω]) (c : Bool) → nonzero x ≡ c → T (not c || among units x) → Within (cond c 1 0) x
unfolding nonzero
zero_or_unit x true e t = record { within = omega (arith, unit-norm x t) }
zero_or_unit x false e t =
    subst (Within 0) (sym (same_yes x 𝟘 (subst T (sym (not-false (same x 𝟘) e)) tt))) within_zero

pub unit_or_zero : (N t : ℕ) (x : Polynomial) → T (units_only N t x) → (i : ℕ) → i < N → Within (cond (nonzero (x i)) 1 0) (x i)
unfolding units_only
unit_or_zero N t x h i l =
    zero_or_unit (x i) (nonzero (x i)) refl
    (all_at N (λ i. not (nonzero (x i)) || among units (x i)) (and_yes (eqb (count N (λ i. nonzero (x i))) t) _ h).1 i l)

pub units-within : (N t : ℕ) (x : Polynomial) → T (units_only N t x) → (i : ℕ) → i < N → Within 1 (x i)
units-within N t x h i l = go (nonzero (x i)) (unit_or_zero N t x h i l)
  where
    go : (c : Bool) → Within (cond c 1 0) (x i) → Within 1 (x i)
    go true w = w
    go false w = record { within = omega (arith, w.within) }

pub units-count : (N t : ℕ) (x : Polynomial) → T (units_only N t x) → count N (λ i. nonzero (x i)) ≡ t
unfolding units_only
units-count N t x h = eqb→eq _ t (and_yes (eqb (count N (λ i. nonzero (x i))) t) _ h).0

pub triples_units : (N s : ℕ) (x : Polynomial) → T (whole_triples N s x) → T (units_only N s x)
unfolding whole_triples
triples_units N s x h = (and_yes (units_only N s x) _ h).0

-- ---- reduced: each coefficient is its own remainder

pub reduced_q_at : (N : ℕ) (q : ℤ[ω]) (x : Polynomial) → T (reduced_q N q x) → (i : ℕ) → i < N → mod_q q (x i) ≡ x i
unfolding reduced_q
reduced_q_at N q x h i l = same_yes (mod_q q (x i)) (x i) (all_at N (λ i. same (mod_q q (x i)) (x i)) h i l)

pub reduced2_at : (N : ℕ) (x : Polynomial) → T (reduced2 N x) → (i : ℕ) → i < N → mod2 (x i) ≡ x i
unfolding reduced2
reduced2_at N x h i l = same_yes (mod2 (x i)) (x i) (all_at N (λ i. same (mod2 (x i)) (x i)) h i l)

pub at_reduced_q : (N : ℕ) (q : ℤ[ω]) (x : Polynomial) → ((i : ℕ) → i < N → mod_q q (x i) ≡ x i) → T (reduced_q N q x)
unfolding reduced_q
at_reduced_q N q x h = at_all N (λ i. same (mod_q q (x i)) (x i)) (λ i l. subst T (sym (same_true (h i l))) tt)

pub at_reduced2 : (N : ℕ) (x : Polynomial) → ((i : ℕ) → i < N → mod2 (x i) ≡ x i) → T (reduced2 N x)
unfolding reduced2
at_reduced2 N x h = at_all N (λ i. same (mod2 (x i)) (x i)) (λ i l. subst T (sym (same_true (h i l))) tt)

pub mod2-within : (x : ℤ[ω]) → Within 1 (mod2 x)
mod2-within x = subst (Within 1) (sym (mod2_by_bits x)) (go (eqb (bit x.a) 1) (eqb (bit x.b) 1))
  where
    small : (y : ℤ[ω]) → T (leb (norm y) 1) → Within 1 y
    small y t = record { within = leb→le (norm y) 1 t }

    go : (u v : Bool) → Within 1 (by_bits u v)
    go true true = small (by_bits true true) (norm-small true true)
    go true false = small (by_bits true false) (norm-small true false)
    go false true = small (by_bits false true) (norm-small false true)
    go false false = small (by_bits false false) (norm-small false false)

-- a remainder modulo 2 is zero or a unit
pub mod2-unit : (x : ℤ[ω]) → T (not (nonzero (mod2 x)) || among units (mod2 x))
mod2-unit x = subst (λ (y : ℤ[ω]). T (not (nonzero y) || among units y)) (sym (mod2_by_bits x)) (bits_unit (eqb (bit x.a) 1) (eqb (bit x.b) 1))

pub reduced2-within : (N : ℕ) (x : Polynomial) → T (reduced2 N x) → (i : ℕ) → i < N → Within 1 (x i)
reduced2-within N x h i l = subst (Within 1) (reduced2_at N x h i l) (mod2-within (x i))

-- ---- a product with t units, over any group of indices

module _ {n : ℕ} (G : Group n) where
  open G use {over, over_closed}

  pub conv_within : (t b : ℕ) (x y : Polynomial) → T (units_only n t x) → ((k : ℕ) → k < n → Within b (y k)) → (i : ℕ) → i < n → Within (t * b) (conv ring G x y i)
  conv_within t b x y h k i l =
      subst (Within (t * b)) (sym (conv_single ring G x y i l))
      (subst (λ (m : ℕ). Within (m * b) (total ring n terms)) (units-count n t x h) (within_total n b (λ j. nonzero (x j)) terms term))
    where
      terms : ℕ → ℤ[ω]
      terms j = x j *ω y (over j i)

      scaled : (c : Bool) → cond c 1 0 * b ≡ cond c b 0
      scaled true = one-mul b
      scaled false = zero-mul b

      term : (j : ℕ) → j < n → Within (cond (nonzero (x j)) b 0) (x j *ω y (over j i))
      term j m =
          subst (λ (w : ℕ). Within w (x j *ω y (over j i))) (scaled (nonzero (x j)))
          (within_mul (cond (nonzero (x j)) 1 0) b (unit_or_zero n t x h j m) (k (over j i) (over_closed m l)))

pub convolution-within : (N t b : ℕ) (x y : Polynomial) → T (units_only N t x) → ((k : ℕ) → k < N → Within b (y k)) → (i : ℕ) → i < N → Within (t * b) (convolution N x y i)
convolution-within N t b x y h k i l = subst (Within (t * b)) (sym (convolution-is N x y i)) (conv_within (cyclic N) t b x y h k i l)
