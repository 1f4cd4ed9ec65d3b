-- `out_of_range` meets its contract.
use mathlib.Core.Path.{sym, ap, ◌∙◌}
use mathlib.Core.Bool.{Bool, ◌||◌}
use borrow.Author.Tests.{lt-ltb, le-ltb}
use lib.Dec.{ltb}
use Rattle.parameters.specs.Sets.{outside}
use Rattle.parameters.proofs.out_of_range.Goals as goal

pub returns-then-x-low : goal.returns-then-x-low
unfolding outside
returns-then-x-low c = let e = lt-ltb _ _ c.if-x-low.true in e ∙ sym (ap (λ (t : Bool). t || ltb c.args.high c.args.x) e)

pub returns-else-x-low : goal.returns-else-x-low
unfolding outside
returns-else-x-low c = sym (ap (λ (t : Bool). t || ltb c.args.high c.args.x) (le-ltb _ _ c.if-x-low.false))
