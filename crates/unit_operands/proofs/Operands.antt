-- The test of a product's operands, from the facts and back, and what a product that was formed gives.
use mathlib.Core.Path.{◌≡◌, sym, ◌∙◌, ap, ap₂, subst}
use mathlib.Core.Bool.{Bool, true, false, cond, ◌&&◌}
use mathlib.Core.List.{List}
use Prim.Native.Nat.{ℕ, ◌*◌, ◌≤◌}
use borrow.Author.Tests.{le-leb, eq-eqb}
use lib.Dec.{T, leb, leb→le, eqb→eq}
use lib.IntN.{ℤ}
use lib.ListN.{length}
use mir.Facts.{and_yes}
use Rattle.eisenstein.proofs.Equality.{is_true}
use Rattle.polynomials.specs.Polynomials.{coefficient, zeros_and_units}
use Rattle.arrays.specs.Arrays.{full, units_array, Small, all_small}
use Rattle.arrays.proofs.Sizes.{all-within, are_within}
use Rattle.unit_operands.specs.Operands.{Forms, multipliable, Operands}

-- ---- the operands

module _ (N : ℕ) (x y : List ℤ) where
  pub multipliable_holds : (room : ℕ) → N ≤ 1024 → length x ≡ 2 * N → length y ≡ 2 * N → room ≡ 2 * N → zeros_and_units N (coefficient x) ≡ true → Small y → multipliable N x y room ≡ true
  unfolding multipliable units_array
  multipliable_holds room n e f g u s =
      ap₂ ◌&&◌ (ap₂ ◌&&◌ (le-leb N 1024 n) (ap₂ ◌&&◌ (eq-eqb _ _ e) u)) (ap₂ ◌&&◌ (eq-eqb _ _ f) (ap₂ ◌&&◌ (eq-eqb _ _ g) (all-within 5461 y s)))

  pub operands_of : (out : List ℤ) → multipliable N x y (length out) ≡ true → Operands N x y out
  unfolding multipliable units_array
  operands_of out h =
      let a = and_yes (units_array N x) (full N (length y) && (full N (length out) && all_small y)) (subst T (sym h) tt) in
      let b = and_yes (leb N 1024) (full N (length x) && zeros_and_units N (coefficient x)) a.0 in
      let c = and_yes (full N (length x)) (zeros_and_units N (coefficient x)) b.1 in
      let d = and_yes (full N (length y)) (full N (length out) && all_small y) a.1 in
      let e = and_yes (full N (length out)) (all_small y) d.1 in
      record {
        N_small = leb→le N 1024 b.0;
        x_long = eqb→eq (length x) (2 * N) c.0;
        y_long = eqb→eq (length y) (2 * N) d.0;
        out_long = eqb→eq (length out) (2 * N) e.0;
        units = is_true (zeros_and_units N (coefficient x)) c.1;
        y_small = are_within 5461 y e.1;
      }

-- ---- what was formed

module _ {A : Type 0} {can : Bool} (v old : A) where
  pub was_formed : {r : Bool} {new : A} → can ≡ true → Forms can v r old new → (r ≡ true) × (new ≡ v)
  was_formed e f = (f.0 ∙ e, f.1 ∙ ap (λ (t : Bool). cond t v old) e)

  pub was_not_formed : {r : Bool} {new : A} → can ≡ false → Forms can v r old new → new ≡ old
  was_not_formed e f = f.1 ∙ ap (λ (t : Bool). cond t v old) e

  pub formed : {new : A} → can ≡ true → new ≡ v → Forms can v true old new
  formed e g = (sym e, g ∙ sym (ap (λ (t : Bool). cond t v old) e))

  pub not_formed : {new : A} → can ≡ false → new ≡ old → Forms can v false old new
  not_formed e g = (sym e, g ∙ sym (ap (λ (t : Bool). cond t v old) e))
