-- `pad` meets its contract. The loop's invariant: the bytes that are written are right.
use mathlib.Core.Path.{sym, ◌∙◌}
use native.Mathlib.Omega.{arith}
use lib.ListN.{length}
use lib.Seq.{ext_get_or}
use Rattle.packing.specs.Messages.{byte, listed}
use Rattle.packing.proofs.RoundTrips.{listed_length, listed_at}
use Rattle.short_messages.specs.ShortMessages.{padded_bit}
use Rattle.short_messages.proofs.pad.Goals as goal
use Rattle.short_messages.proofs.pad.Goals.{Start}

pub returns : goal.returns
returns c = let f = c.loop-j.invariant in
    let s = (goal.at.returns c).Start in
    let n = length s.args.out.now in
    let b = byte (padded_bit s.args.message.now) in
    ext_get_or 0 c.loop-j.out (listed n b) (f.long ∙ sym (listed_length n b))
    (λ i h. f.new i (omega arith) ∙ sym (listed_at n b i (omega (arith, h, f.long))))
