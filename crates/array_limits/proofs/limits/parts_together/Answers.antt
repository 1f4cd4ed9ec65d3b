-- `parts_together` meets its contract. The loop's invariant: whether the parts of every coefficient so far are together.
use mathlib.Core.Path.{ap}
use mathlib.Core.Bool.{not}
use Rattle.arrays.proofs.Scans.{every_none, every_more}
use Rattle.array_limits.proofs.limits.parts_together.Goals as goal
use Rattle.array_limits.proofs.limits.parts_together.Invariants.{test}

pub loop-i-init : goal.loop-i-init
loop-i-init c = every_none (test c.args.x.now)

pub loop-i-preserved : goal.loop-i-preserved
loop-i-preserved c = every_more (test c.args.x.now) c.loop-i.i c.loop-i.invariant (ap not c.parts_apart_at.ensures)
