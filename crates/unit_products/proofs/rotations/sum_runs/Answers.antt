-- `sum_runs` meets its contract. The loop's invariant: the block has the sums as far as they were formed.
use mathlib.Core.Path.{◌∙◌}
use native.Mathlib.Omega.{arith}
use lib.Dec.{lit<}
use lib.IntN.{pos}
use mir.Syntax.{w16}
use mir.Facts.{to_z-of_z}
use Rattle.integers.proofs.Machine.{sfits_within}
use Rattle.arrays.proofs.Changing.{set_next}
use Rattle.unit_products.proofs.rotations.sum_runs.Goals as goal

pub loop-k-preserved : goal.loop-k-preserved
loop-k-preserved c = let h = c.sum_of_six.ensures in
    set_next (pos 0) c.loop-k.invariant (omega arith) (to_z-of_z {w = w16} (sfits_within c.sum_of_six.result h.1 (lit< tt)) ∙ h.0)
