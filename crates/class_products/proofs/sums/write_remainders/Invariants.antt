-- `write_remainders` meets its contract. The loop's invariant: the values so far are written.
use Prim.Native.Nat.{◌%◌}
use lib.ListN.{get_or}
use Rattle.polynomials.specs.Polynomials.{coefficient}
use Rattle.arrays.proofs.Changing.{Changed}
use Rattle.classes.specs.Classes.{remainder_of}
use Rattle.class_products.proofs.sums.write_remainders.Given as goal

abbrev pub invariant-loop-i : goal.invariant-loop-i
invariant-loop-i l = Changed coefficient (λ k. remainder_of (get_or l.sums k 0 % 4)) l.initial.out l.out l.i
