-- `stop` meets its contract.
use Rattle.std.proofs.Common.{sym, ◌∙◌, arith}
use Rattle.bundles.proofs.Entries.{stops_count, stop_is}
use Rattle.bundle_stops.proofs.EntryStopsStopList.stop.Goals as goal

pub returns-then-k-from : goal.returns-then-k-from
returns-then-k-from c h =
    let file = c.args.self.now.file.now in
    c.stop_of.ensures.0 ∙ sym (stop_is file c.args.k (omega (arith, h, stops_count file)))

pub returns-else-k-from : goal.returns-else-k-from
returns-else-k-from c h = absurd (omega (arith, h, c.from.ensures, c.if-k-from.false, c.args.self.now.counted, stops_count c.args.self.now.file.now))
