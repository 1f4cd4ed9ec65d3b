-- `unpack_into` meets its contract. The loop's invariant: the bytes that are written are right.
use lib.ListN.{get_or}
use Rattle.polynomials.specs.Polynomials.{coefficient}
use Rattle.packing.specs.Messages.{message_bit, byte}
use Rattle.arrays.proofs.Changing.{Changed}
use Rattle.message_unpacking.proofs.messages.unpack_into.Given as goal

abbrev pub invariant-loop-j : goal.invariant-loop-j
invariant-loop-j l = Changed (λ l i. get_or l i 0) (byte (message_bit l.n (coefficient l.m))) l.initial.message l.message l.j
