-- `add_six` meets its contract. The loop's invariant: the runs are added to the parts so far.
use mathlib.Core.Path.{◌≡◌}
use lib.IntN.{pos, ◌+ℤ◌}
use lib.ListN.{length, get_or}
use Rattle.arrays.proofs.Changing.{Changed}
use Rattle.unit_products.specs.Rotations.{six_at}
use Rattle.unit_products.proofs.rotations.add_six.Given as goal

abbrev pub invariant-loop-from : goal.invariant-loop-from
invariant-loop-from l = (length l.block ≡ length l.initial.block) × Changed (λ m i. get_or m i (pos 0)) (λ i. get_or l.initial.sums i (pos 0) +ℤ six_at l.twice l.starts i) l.initial.sums l.sums l.from
