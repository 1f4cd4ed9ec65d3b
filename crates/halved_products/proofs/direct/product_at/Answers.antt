-- `product_at` meets its contract: past coefficient n fewer products have both their coefficients.
use mathlib.Core.Path.{◌≡◌, sym, ◌∙◌}
use mathlib.Core.List.{List}
use Prim.Native.Nat.{ℕ, ◌+◌, ◌-◌, ◌*◌, ◌^◌, ◌≤◌, ◌<◌}
use native.Mathlib.Omega.{arith}
use lib.IntN.{ℤ}
use lib.ListN.{length}
use Rattle.eisenstein.specs.Values.{ℤ[ω], ◌*ω◌}
use Rattle.polynomials.specs.Polynomials.{coefficient, sum}
use Rattle.halving.specs.Products.{product}
use Rattle.halving.proofs.Products.{product-low, product_high, coefficient-past}
use Rattle.halved_products.proofs.direct.product_at.Goals as goal

-- at most 16 products
few : (k n : ℕ) (a : ℕ) → n ≤ 16 → k ≤ n → a ≤ k * 2 ^ 49 → a ≤ 2 ^ 53
few k n a p q h = omega arith

module _ (n : ℕ) (x y : List ℤ) (i : ℕ) {v : ℤ[ω]} where
  early : v ≡ sum (i + 1 - 0) (λ j. coefficient x (0 + j) *ω coefficient y (i - (0 + j))) → v ≡ product (coefficient x) (coefficient y) i
  early e = e ∙ sym (product-low (coefficient x) (coefficient y) i)

  late : length x ≡ 2 * n → length y ≡ 2 * n → n ≤ i → i < 2 * n → v ≡ sum (n - (i + 1 - n)) (λ j. coefficient x (i + 1 - n + j) *ω coefficient y (i - (i + 1 - n + j))) → v ≡ product (coefficient x) (coefficient y) i
  late p q r s e = e ∙ sym (product_high n (coefficient x) (coefficient y) (coefficient-past n x p) (coefficient-past n y q) i r s)

pub returns-then-i-n : goal.returns-then-i-n
returns-then-i-n c =
    let e = c.dot.ensures in
    (early c.args.n c.args.x.now c.args.y.now c.args.i e.0, few (c.args.i + 1 - 0) c.args.n _ c.requires.n_bound.0 (omega arith) e.1, few (c.args.i + 1 - 0) c.args.n _ c.requires.n_bound.0 (omega arith) e.2)

pub returns-else-i-n : goal.returns-else-i-n
returns-else-i-n c =
    let e = c.dot-else-i-n.ensures in
    (late c.args.n c.args.x.now c.args.y.now c.args.i c.requires.n_bound.2 c.requires.n_bound.3 (omega arith) c.requires.n_bound.1 e.0, few (c.args.n - (c.args.i + 1 - c.args.n)) c.args.n _ c.requires.n_bound.0 (omega arith) e.1, few (c.args.n - (c.args.i + 1 - c.args.n)) c.args.n _ c.requires.n_bound.0 (omega arith) e.2)
