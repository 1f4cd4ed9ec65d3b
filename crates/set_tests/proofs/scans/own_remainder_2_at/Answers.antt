-- `own_remainder_2_at` meets its contract.
use mathlib.Core.Path.{◌∙◌, ap, ap₂}
use borrow.Author.Rules.{rules}
use Rattle.eisenstein.specs.Values.{value, same}
use Rattle.eisenstein.specs.Reduction.{mod2}
use Rattle.arrays.proofs.Sizes.{coefficient_read}
use Rattle.set_tests.proofs.Sized.{wide}
use Rattle.set_tests.proofs.scans.own_remainder_2_at.Goals as goal

pub returns : goal.returns
returns c = let x = coefficient_read c.args.x.now c.args.i c.at-a.ensures c.at-b.ensures in
    let r = c.remainder_2-r.result in
    c.equal.ensures ∙ ap₂ same (ap₂ value (wide {z = r.a} (search rules) c.from.ensures) (wide {z = r.b} (search rules) c.from-2.ensures) ∙ c.remainder_2-r.ensures ∙ ap mod2 x) x
