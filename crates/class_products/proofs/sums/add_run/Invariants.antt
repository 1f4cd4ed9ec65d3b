-- `add_run` meets its contract. The loop's invariant: the run is added as far as it was walked.
use lib.ListN.{get_or}
use Rattle.arrays.proofs.Changing.{Changed}
use Rattle.classes.specs.Classes.{plus}
use Rattle.class_products.proofs.sums.add_run.Given as goal

abbrev pub invariant-loop-k : goal.invariant-loop-k
invariant-loop-k l = Changed (λ m i. get_or m i 0) (λ i. plus (get_or l.initial.sums i 0) (get_or l.run i 0)) l.initial.sums l.sums l.k
