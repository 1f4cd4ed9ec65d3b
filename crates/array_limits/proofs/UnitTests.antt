-- Zeros and units by the size of their parts: each at most 1, and at most 1 apart.
use mathlib.Core.Path.{◌≡◌, refl, sym, ◌∙◌, ap₂, subst}
use mathlib.Core.Bool.{Bool, true, false, not, ◌&&◌, ◌||◌}
use mathlib.Core.List.{List}
use Prim.Native.Nat.{ℕ, zero, suc, ◌+◌, ◌*◌, ◌≤◌}
use native.Mathlib.Omega.{arith}
use borrow.Author.Tests.{eq-eqb}
use lib.Dec.{T, ltb}
use lib.IntN.{ℤ, pos, negsuc, nat_abs, ◌-ℤ◌}
use lib.ListN.{length}
use Rattle.eisenstein.specs.Values.{ℤ[ω], value, units, same, same_ℤ}
use Rattle.polynomials.specs.Polynomials.{coefficient, all, count, zeros_and_units, units_only, nonzero, among}
use Rattle.polynomials.proofs.Members.{all_same, units-within}
use Rattle.arrays.specs.Arrays.{AllWithin, all_within}
use Rattle.arrays.proofs.Sizes.{from_parts, within_parts, all-within}

-- the parts of x are at most 1 apart
abbrev pub together : ℤ[ω] → Bool
together x = not (ltb 1 (nat_abs (x.a -ℤ x.b)))

-- whether x is 0 or a unit
abbrev pub unit : ℤ[ω] → Bool
unit x = not (nonzero x) || among units x

-- where the parts are small, that they are together decides
pub by_parts : (x : ℤ[ω]) → nat_abs x.a ≤ 1 → nat_abs x.b ≤ 1 → unit x ≡ together x
unfolding nonzero among same same_ℤ
by_parts x p q = go x.a x.b p q
  where
    at_0 : (b : ℤ) → nat_abs b ≤ 1 → unit (value (pos 0) b) ≡ together (value (pos 0) b)
    at_0 (pos zero) q = refl
    at_0 (pos (suc zero)) q = refl
    at_0 (pos (suc (suc m))) q = absurd (omega arith)
    at_0 (negsuc zero) q = refl
    at_0 (negsuc (suc m)) q = absurd (omega arith)

    at_1 : (b : ℤ) → nat_abs b ≤ 1 → unit (value (pos 1) b) ≡ together (value (pos 1) b)
    at_1 (pos zero) q = refl
    at_1 (pos (suc zero)) q = refl
    at_1 (pos (suc (suc m))) q = absurd (omega arith)
    at_1 (negsuc zero) q = refl
    at_1 (negsuc (suc m)) q = absurd (omega arith)

    below_0 : (b : ℤ) → nat_abs b ≤ 1 → unit (value (negsuc 0) b) ≡ together (value (negsuc 0) b)
    below_0 (pos zero) q = refl
    below_0 (pos (suc zero)) q = refl
    below_0 (pos (suc (suc m))) q = absurd (omega arith)
    below_0 (negsuc zero) q = refl
    below_0 (negsuc (suc m)) q = absurd (omega arith)

    go : (a b : ℤ) → nat_abs a ≤ 1 → nat_abs b ≤ 1 → unit (value a b) ≡ together (value a b)
    go (pos zero) b p q = at_0 b q
    go (pos (suc zero)) b p q = at_1 b q
    go (pos (suc (suc m))) b p q = absurd (omega arith)
    go (negsuc zero) b p q = below_0 b q
    go (negsuc (suc m)) b p q = absurd (omega arith)

module _ (n : ℕ) (l : List ℤ) where
  pub all_together : AllWithin 1 l → all n (λ i. together (coefficient l i)) ≡ zeros_and_units n (coefficient l)
  unfolding coefficient
  all_together h = all_same n (λ i p. sym (by_parts (coefficient l i) (h (2 * i)) (h (2 * i + 1))))

  units_are : zeros_and_units n (coefficient l) ≡ true → T (units_only n (count n (λ i. nonzero (coefficient l i))) (coefficient l))
  unfolding units_only
  units_are e = let k = count n (λ i. nonzero (coefficient l i)) in subst T (sym (ap₂ ◌&&◌ (eq-eqb k k refl) e)) tt

  pub not_within : length l ≡ 2 * n → all_within 1 l ≡ false → false ≡ zeros_and_units n (coefficient l)
  not_within e f = go (zeros_and_units n (coefficient l)) refl
    where
      go : (b : Bool) → zeros_and_units n (coefficient l) ≡ b → false ≡ b
      go false g = refl
      go true g = absurd (subst T (sym (all-within 1 l (from_parts 1 n l e (λ i p. within_parts (coefficient l i) (units-within n (count n (λ i. nonzero (coefficient l i))) (coefficient l) (units_are g) i p)))) ∙ f) tt)
