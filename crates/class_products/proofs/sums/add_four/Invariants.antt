-- `add_four` meets its contract. The loop's invariant: the runs are added as far as they were walked.
use lib.ListN.{get_or}
use Rattle.arrays.proofs.Changing.{Changed}
use Rattle.class_products.specs.Steps.{four}
use Rattle.class_products.proofs.sums.add_four.Given as goal

abbrev pub invariant-loop-k : goal.invariant-loop-k
invariant-loop-k l = Changed (λ m i. get_or m i 0) (four l.rows l.starts l.initial.sums) l.initial.sums l.sums l.k
