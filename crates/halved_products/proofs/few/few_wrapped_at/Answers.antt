-- `few_wrapped_at` meets its contract.
use mathlib.Core.Path.{◌∙◌, ap₂}
use mathlib.Core.List.{List, [], ◌∷◌}
use Prim.Native.Nat.{◌^◌}
use mir.Syntax.{w64}
use Rattle.integers.proofs.Ring.{Expr, var, ◌⊕◌}
use Rattle.integers.proofs.Machine.{Leaf, given, exact}
use Rattle.eisenstein.specs.Values.{value, ◌+ω◌}
use Rattle.halving.specs.Products.{wrapped}
use Rattle.halving.proofs.Promises.{wrapped_is_convolution}
use Rattle.halved_products.proofs.few.few_wrapped_at.Goals as goal
use Rattle.halved_products.proofs.few.few_wrapped_at.Goals.{After-product_at-later}

abbrev ρ : After-product_at-later → List Leaf
ρ c =
    let early = c.product_at-early in
    let later = c.product_at-later in
    given early.result.a (2 ^ 53) early.ensures.1
    ∷ given early.result.b (2 ^ 53) early.ensures.2
    ∷ given later.result.a (2 ^ 53) later.ensures.1
    ∷ given later.result.b (2 ^ 53) later.ensures.2
    ∷ []

abbrev a : Expr
a = var 0 ⊕ var 2

abbrev b : Expr
b = var 1 ⊕ var 3

pub returns : goal.returns
unfolding wrapped ◌+ω◌
returns c =
    let d = (goal.at.returns c).After-product_at-later in
    ap₂ value (exact w64 (ρ d) a tt) (exact w64 (ρ d) b tt)
    ∙ ap₂ ◌+ω◌ c.product_at-early.ensures.0 c.product_at-later.ensures.0
    ∙ wrapped_is_convolution c.args.n c.args.x.now c.args.y.now c.requires.i_lt_n.2 c.requires.i_lt_n.3 c.args.i c.requires.i_lt_n.0
