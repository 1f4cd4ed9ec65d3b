-- What the test of a product's lengths says.
use mathlib.Core.Path.{◌≡◌, sym, subst}
use mathlib.Core.Bool.{true, ◌&&◌}
use Prim.Native.Nat.{ℕ, ◌*◌}
use lib.Dec.{T}
use Rattle.integers.proofs.Tests.{are_equal_3}
use Rattle.arrays.specs.Arrays.{full}

module _ (N x y room : ℕ) where
  pub fit_facts : (full N x && (full N y && full N room)) ≡ true → (x ≡ 2 * N) × (y ≡ 2 * N) × (room ≡ 2 * N)
  fit_facts h = are_equal_3 x (2 * N) y (2 * N) room (2 * N) (subst T (sym h) tt)
