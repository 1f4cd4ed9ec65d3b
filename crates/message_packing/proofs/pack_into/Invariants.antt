-- `pack_into` meets its contract. The loop's invariant: the coefficients that are stored are right.
use Rattle.polynomials.specs.Polynomials.{coefficient}
use Rattle.packing.specs.Messages.{packed}
use Rattle.arrays.proofs.Changing.{Changed}
use Rattle.message_packing.proofs.pack_into.Given as goal

abbrev pub invariant-loop-i : goal.invariant-loop-i
invariant-loop-i l = Changed coefficient (packed l.message) l.initial.m l.m l.i
