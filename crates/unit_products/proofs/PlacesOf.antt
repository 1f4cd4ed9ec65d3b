-- A list of the places at which a polynomial is a unit, as it grows.
use mathlib.Core.Path.{◌≡◌, refl, sym, ◌∙◌, ap, ap₂, subst}
use mathlib.Core.Bool.{Bool, true, false, cond}
use mathlib.Core.List.{List}
use Prim.Native.Nat.{ℕ, ◌+◌, ◌<◌}
use native.Mathlib.Omega.{arith}
use native.Mathlib.Decide.{ℕ_discrete}
use lib.IntN.{pos}
use lib.ListN.{get_or, set}
use lib.Seq.{get_or-set_other}
use Rattle.eisenstein.specs.Values.{ℤ[ω], value, 𝟘, same, ◌+ω◌, ◌*ω◌}
use Rattle.eisenstein.proofs.Solver.{ringω, ◌≐◌, ◌⊞◌, ◌⊠◌, conω}
use Rattle.polynomials.specs.Polynomials.{Polynomial, sum}
use Rattle.polynomials.proofs.Eisenstein.{sum_same}
use Rattle.arrays.proofs.Scans.{sum_more}
use Rattle.unit_products.specs.Rotations.{is, Places}

is_so : (u x : ℤ[ω]) (t : Bool) → same x u ≡ t → is u x ≡ cond t (value (pos 1) (pos 0)) 𝟘
unfolding is
is_so u x t e = ap (λ (b : Bool). cond b (value (pos 1) (pos 0)) 𝟘) e

times_one : (x : ℤ[ω]) → x ≡ value (pos 1) (pos 0) *ω x
unfolding ◌*ω◌
times_one = ringω 1 (λ x. x ≐ conω (value (pos 1) (pos 0)) ⊠ x) tt

plus_zeros : (x y : ℤ[ω]) → x ≡ x +ω 𝟘 *ω y
unfolding ◌+ω◌ ◌*ω◌
plus_zeros = ringω 2 (λ x y. x ≐ x ⊞ conω 𝟘 ⊠ y) tt

module _ (u : ℤ[ω]) (x : Polynomial) where
  pub places_none : (l : List ℕ) → Places 0 u x l 0
  unfolding sum
  places_none l = record { few = omega arith; below = λ m p. absurd (omega arith); sums = λ f. refl }

  -- a place written after them
  pub places_kept : {n count : ℕ} (l : List ℕ) (v : ℕ) → Places n u x l count → Places n u x (set l count v) count
  places_kept {n} {count} l v h = record {
    few = h.few;
    below = λ m p. subst (λ (k : ℕ). k < n) (sym (kept m p)) (h.below m p);
    sums = λ f. sum_same count (λ m p. ap f (kept m p)) ∙ h.sums f;
  }
    where
      kept : (m : ℕ) → m < count → get_or (set l count v) m 0 ≡ get_or l m 0
      kept m p = get_or-set_other l count m v 0 (λ e. absurd (omega arith))

  -- the next place counts
  pub places_more : {n count : ℕ} (l : List ℕ) → Places n u x l count → get_or l count 0 ≡ n → same (x n) u ≡ true → Places (n + 1) u x l (count + 1)
  places_more {n} {count} l h e t = record {
    few = omega (arith, h.few);
    below = λ m p. go m (ℕ_discrete m count) p;
    sums = λ f.
        sum_more (λ m. f (get_or l m 0)) count
        ∙ ap₂ ◌+ω◌ (h.sums f) (ap f e ∙ times_one (f n) ∙ ap (λ (z : ℤ[ω]). z *ω f n) (sym (is_so u (x n) true t)))
        ∙ sym (sum_more (λ j. is u (x j) *ω f j) n);
  }
    where
      go : (m : ℕ) → Dec (m ≡ count) → m < count + 1 → get_or l m 0 < n + 1
      go m (yes q) p = omega (arith, ap (λ (k : ℕ). get_or l k 0) q, e)
      go m (no q) p = omega (arith, h.below m (omega arith))

  -- it does not
  pub places_same : {n count : ℕ} (l : List ℕ) → Places n u x l count → same (x n) u ≡ false → Places (n + 1) u x l count
  places_same {n} {count} l h t = record {
    few = omega (arith, h.few);
    below = λ m p. omega (arith, h.below m p);
    sums = λ f.
        h.sums f
        ∙ plus_zeros (sum n (λ j. is u (x j) *ω f j)) (f n)
        ∙ ap (λ (z : ℤ[ω]). sum n (λ j. is u (x j) *ω f j) +ω z *ω f n) (sym (is_so u (x n) false t))
        ∙ sym (sum_more (λ j. is u (x j) *ω f j) n);
  }
