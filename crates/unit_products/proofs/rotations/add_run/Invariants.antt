-- `add_run` meets its contract. The loop's invariant: the run is added as far as it was walked.
use lib.IntN.{pos, ◌+ℤ◌}
use lib.ListN.{get_or}
use Rattle.arrays.proofs.Changing.{Changed}
use Rattle.unit_products.proofs.rotations.add_run.Given as goal

abbrev pub invariant-loop-k : goal.invariant-loop-k
invariant-loop-k l = Changed (λ m i. get_or m i (pos 0)) (λ i. get_or l.initial.sums i (pos 0) +ℤ get_or l.numbers i (pos 0)) l.initial.sums l.sums l.k
