-- `product` meets its contract: the four numbers are the coefficients' parts, and no step overflows.
use mathlib.Core.Path.{◌≡◌, sym, ◌∙◌, ap₂, subst}
use mathlib.Core.List.{List, [], ◌∷◌}
use Prim.Native.Nat.{ℕ, ◌+◌, ◌*◌, ◌≤◌, ◌^◌}
use lib.IntN.{ℤ, pos, nat_abs, ◌-ℤ◌, ◌*ℤ◌}
use lib.ListN.{get_or}
use mir.Syntax.{w64}
use Rattle.integers.proofs.Ring.{Expr, var, ◌⊝◌, ◌⊗◌}
use Rattle.integers.proofs.Machine.{Leaf, given, fits, exact, size_read}
use Rattle.eisenstein.specs.Values.{ℤ[ω], value, ◌*ω◌}
use Rattle.eisenstein.proofs.Solver.{ringω, parts, ◌≐◌, ◌⊠◌}
use Rattle.polynomials.specs.Polynomials.{coefficient}
use Rattle.arrays.specs.Arrays.{AllWithin}
use Rattle.halved_products.proofs.direct.product.Goals as goal
use Rattle.halved_products.proofs.direct.product.Goals.{After-at-yb}

-- a number that was read is within the arrays' bound
read_bound : (l : List ℤ) (k : ℕ) {z : ℤ} → AllWithin (2 ^ 23) l → z ≡ get_or l k (pos 0) → nat_abs z ≤ 2 ^ 23
read_bound l k h e = subst (λ (z : ℤ). nat_abs z ≤ 2 ^ 23) (sym e) (h k)

abbrev ρ : After-at-yb → List Leaf
ρ c =
    given c.at-xa.result (2 ^ 23) (read_bound c.args.x.now (2 * c.args.j) c.requires.all_within c.at-xa.ensures.0)
    ∷ given c.at-xb.result (2 ^ 23) (read_bound c.args.x.now (2 * c.args.j + 1) c.requires.all_within c.at-xb.ensures.0)
    ∷ given c.at-ya.result (2 ^ 23) (read_bound c.args.y.now (2 * c.args.k) c.requires.all_within_2 c.at-ya.ensures.0)
    ∷ given c.at-yb.result (2 ^ 23) (read_bound c.args.y.now (2 * c.args.k + 1) c.requires.all_within_2 c.at-yb.ensures.0)
    ∷ []

abbrev xa : Expr
xa = var 0

abbrev xb : Expr
xb = var 1

abbrev ya : Expr
ya = var 2

abbrev yb : Expr
yb = var 3

abbrev a : Expr
a = xa ⊗ ya ⊝ xb ⊗ yb

abbrev b : Expr
b = xa ⊗ ya ⊝ (xa ⊝ xb) ⊗ (ya ⊝ yb)

-- what is computed is the product
by_three : (x y : ℤ[ω]) → value ((x.a *ℤ y.a) -ℤ (x.b *ℤ y.b)) ((x.a *ℤ y.a) -ℤ ((x.a -ℤ x.b) *ℤ (y.a -ℤ y.b))) ≡ x *ω y
unfolding ◌*ω◌
by_three = ringω 2 (λ x y. parts (x.a ⊗ y.a ⊝ x.b ⊗ y.b) (x.a ⊗ y.a ⊝ (x.a ⊝ x.b) ⊗ (y.a ⊝ y.b)) ≐ x ⊠ y) tt

x_is : (c : After-at-yb) → value c.at-xa.result c.at-xb.result ≡ coefficient c.args.x.now c.args.j
unfolding coefficient
x_is c = ap₂ value c.at-xa.ensures.0 c.at-xb.ensures.0

y_is : (c : After-at-yb) → value c.at-ya.result c.at-yb.result ≡ coefficient c.args.y.now c.args.k
unfolding coefficient
y_is c = ap₂ value c.at-ya.ensures.0 c.at-yb.ensures.0

pub overflow_mul-first : goal.overflow_mul-first
overflow_mul-first c = fits w64 (ρ c) (xa ⊗ ya) tt

pub overflow_mul-result : goal.overflow_mul-result
overflow_mul-result c = fits w64 (ρ c) (xb ⊗ yb) tt

pub overflow_sub-result : goal.overflow_sub-result
overflow_sub-result c = fits w64 (ρ c) a tt

pub overflow_mul-result-2 : goal.overflow_mul-result-2
overflow_mul-result-2 c = fits w64 (ρ c) ((xa ⊝ xb) ⊗ (ya ⊝ yb)) tt

pub overflow_sub-result-4 : goal.overflow_sub-result-4
overflow_sub-result-4 c = fits w64 (ρ c) b tt

pub returns : goal.returns
returns c = (
  ap₂ value (exact w64 (ρ c) a tt) (exact w64 (ρ c) b tt) ∙ by_three _ _ ∙ ap₂ ◌*ω◌ (x_is c) (y_is c),
  size_read w64 (ρ c) a (2 ^ 49) tt tt,
  size_read w64 (ρ c) b (2 ^ 49) tt tt,
)
