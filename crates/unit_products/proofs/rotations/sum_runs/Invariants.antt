-- `sum_runs` meets its contract. The loop's invariant: the block has the sums as far as they were formed.
use Prim.Native.Nat.{◌+◌}
use lib.IntN.{pos}
use lib.ListN.{get_or}
use Rattle.arrays.proofs.Changing.{Changed}
use Rattle.unit_products.specs.Rotations.{six_at}
use Rattle.unit_products.proofs.rotations.sum_runs.Given as goal

abbrev pub invariant-loop-k : goal.invariant-loop-k
invariant-loop-k l = Changed (λ m i. get_or m i (pos 0)) (λ i. six_at l.twice l.starts (l.from + i)) l.initial.block l.block l.k
