-- The test of a product's operands, from the facts and back.
use mathlib.Core.Path.{◌≡◌, sym, ap₂, subst}
use mathlib.Core.Bool.{true, ◌&&◌}
use mathlib.Core.List.{List}
use Prim.Native.Nat.{ℕ, ◌-◌, ◌*◌, ◌≤◌}
use native.Mathlib.Omega.{arith}
use native.Mathlib.Nat.{le_trans, mul-le-mul}
use borrow.Author.Tests.{le-leb, eq-eqb}
use lib.Dec.{T, leb, leb→le, eqb→eq, lit≤}
use lib.IntN.{ℤ}
use lib.ListN.{length}
use mir.Facts.{and_yes}
use Rattle.arrays.specs.Arrays.{full, Small, all_small}
use Rattle.arrays.proofs.Sizes.{all-within, are_within}
use Rattle.halving.specs.Operands.{lengths_fit, fit_for_halving}
use Rattle.halved_products.specs.Conditions.{Factors, Halvable}

halvable : (n : ℕ) (x : List ℤ) → n ≤ 1024 → Small x → Halvable n x
halvable n x p h k = le_trans (mul-le-mul {m₁ = n - 1} {m₂ = 1023} (h k) (omega arith)) (lit≤ tt)

module _ (N : ℕ) (x y w : List ℤ) where
  pub fit_holds : Factors N x y w → Small x → Small y → fit_for_halving N x y (length w) ≡ true
  unfolding fit_for_halving lengths_fit
  fit_holds f p q =
      ap₂ ◌&&◌
      (ap₂ ◌&&◌ (le-leb 2 N f.0) (ap₂ ◌&&◌ (le-leb N 1024 f.1) (ap₂ ◌&&◌ (eq-eqb _ _ f.2) (ap₂ ◌&&◌ (eq-eqb _ _ f.3) (ap₂ ◌&&◌ (le-leb (length w) 65536 f.5) (le-leb (17 * N) (2 * length w) f.4))))))
      (ap₂ ◌&&◌ (all-within 5461 x p) (all-within 5461 y q))

  pub factors_of : fit_for_halving N x y (length w) ≡ true → Factors N x y w × Halvable N x × Halvable N y
  unfolding fit_for_halving lengths_fit
  factors_of h =
      let a = and_yes (lengths_fit N (length x) (length y) (length w)) (all_small x && all_small y) (subst T (sym h) tt) in
      let s = and_yes (all_small x) (all_small y) a.1 in
      let b = and_yes (leb 2 N) _ a.0 in
      let c = and_yes (leb N 1024) _ b.1 in
      let d = and_yes (full N (length x)) _ c.1 in
      let e = and_yes (full N (length y)) _ d.1 in
      let f = and_yes (leb (length w) 65536) _ e.1 in
      let n = leb→le N 1024 c.0 in
      ((leb→le 2 N b.0, n, eqb→eq (length x) (2 * N) d.0, eqb→eq (length y) (2 * N) e.0, leb→le (17 * N) (2 * length w) f.1, leb→le (length w) 65536 f.0), halvable N x n (are_within 5461 x s.0), halvable N y n (are_within 5461 y s.1))
