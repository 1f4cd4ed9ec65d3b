-- `multiply_few` meets its contract.
use mathlib.Core.Path.{refl, ◌∙◌}
use native.Mathlib.Omega.{arith}
use borrow.Author.Rules.{rules}
use mir.Syntax.{w64}
use Rattle.eisenstein.proofs.Pairs.{pair_read}
use Rattle.arrays.proofs.Changing.{stored_next}
use Rattle.halved_products.proofs.halves.multiply_few.Goals as goal

pub loop-i-preserved : goal.loop-i-preserved
loop-i-preserved c =
    let v = c.product_at-v in
    stored_next c.loop-i.invariant refl (omega (arith, c.loop-i.invariant.long)) (pair_read {w = w64} {a = v.result.a} {b = v.result.b} (search rules) (search rules) ∙ v.ensures.0)
