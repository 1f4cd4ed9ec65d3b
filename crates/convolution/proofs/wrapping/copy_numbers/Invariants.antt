-- `copy_numbers` meets its contract. The loop's invariant: the first k numbers are those of x.
use lib.IntN.{pos}
use lib.ListN.{get_or}
use Rattle.arrays.proofs.Changing.{Changed}
use Rattle.convolution.proofs.wrapping.copy_numbers.Given as goal

abbrev pub invariant-loop-k : goal.invariant-loop-k
invariant-loop-k l = Changed (λ m i. get_or m i (pos 0)) (λ i. get_or l.x i (pos 0)) l.initial.out l.out l.k
