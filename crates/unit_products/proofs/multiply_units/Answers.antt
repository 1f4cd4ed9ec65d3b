-- `multiply_units` meets its contract.
use mathlib.Core.Path.{◌≡◌, sym, ◌∙◌}
use mathlib.Core.Bool.{true}
use lib.ListN.{length}
use Rattle.unit_operands.specs.Operands.{multipliable}
use Rattle.unit_operands.proofs.Operands.{operands_of}
use Rattle.unit_products.proofs.multiply_units.Goals as goal
use Rattle.unit_products.proofs.multiply_units.Goals.{Else-not-multipliable}

can : (c : Else-not-multipliable) → multipliable c.args.n c.args.x.now c.args.y.now (length c.args.out.now) ≡ true
can c = sym c.multipliable.ensures ∙ c.if-not-multipliable.false

pub convolve_units-requires : goal.convolve_units-requires
convolve_units-requires c = operands_of c.args.n c.args.x.now c.args.y.now c.args.out.now (can (goal.at.convolve_units-requires c).Else-not-multipliable)
