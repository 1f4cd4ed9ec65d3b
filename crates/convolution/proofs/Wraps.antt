-- A product of two arrays, wrapped at N.
use mathlib.Core.Path.{◌≡◌, sym, ◌∙◌, ap₂, subst}
use mathlib.Core.List.{List}
use Prim.Native.Nat.{ℕ, ◌+◌, ◌*◌, ◌/◌, ◌^◌, ◌≤◌, ◌<◌}
use native.Mathlib.Omega.{arith}
use native.Mathlib.Nat.{le_trans}
use lib.Dec.{lit≤}
use lib.IntN.{ℤ, pos, nat_abs}
use lib.ListN.{length, get_or}
use Rattle.eisenstein.specs.Values.{◌+ω◌}
use Rattle.polynomials.specs.Polynomials.{coefficient, convolution}
use Rattle.arrays.specs.Arrays.{AllWithin, Small}
use Rattle.arrays.proofs.Sizes.{PartsAtMost}
use Rattle.halving.specs.Products.{product, wrapped}
use Rattle.halving.proofs.Promises.{wrapped_is_convolution}
use Rattle.halved_products.specs.Conditions.{Reducible}
use Rattle.halved_products.proofs.Bounds.{product-within, convolution_reducible, num_within}

within : (x : List ℤ) → Small x → AllWithin (2 ^ 23) x
within x h k = le_trans (h k) (lit≤ tt)

module _ (n : ℕ) (x y w : List ℤ) (few : n ≤ 1024) (x_long : length x ≡ 2 * n) (y_long : length y ≡ 2 * n) (x_small : Small x) (y_small : Small y) (formed : (i : ℕ) → i < 2 * n → coefficient w i ≡ product (coefficient x) (coefficient y) i) where
  pub wraps : (i : ℕ) → i < n → wrapped n (coefficient w) i ≡ convolution n (coefficient x) (coefficient y) i
  unfolding wrapped
  wraps i p = ap₂ ◌+ω◌ (formed i (omega arith)) (formed (n + i) (omega arith)) ∙ wrapped_is_convolution n x y x_long y_long i p

  pub reducible : (i : ℕ) → i < n → Reducible (wrapped n (coefficient w) i)
  reducible i p = subst Reducible (sym (wraps i p)) (convolution_reducible n x y few x_small y_small i p)

  pub numbers_small : (k : ℕ) → k < 4 * n → nat_abs (get_or w k (pos 0)) ≤ 2 ^ 59
  numbers_small k p = num_within w (2 ^ 59) k (subst (PartsAtMost (2 ^ 59)) (sym (formed (k / 2) (omega arith))) (product-within x y (within x x_small) (within y y_small) (k / 2) (omega arith)))
