-- `pad` meets its contract. The loop's invariant: the bytes that are written are right.
use lib.ListN.{get_or}
use Rattle.arrays.proofs.Changing.{Changed}
use Rattle.packing.specs.Messages.{byte}
use Rattle.short_messages.specs.ShortMessages.{padded_bit}
use Rattle.short_messages.proofs.pad.Given as goal

abbrev pub invariant-loop-j : goal.invariant-loop-j
invariant-loop-j l = Changed (λ l i. get_or l i 0) (byte (padded_bit l.message)) l.initial.out l.out l.j
