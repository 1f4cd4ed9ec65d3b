-- `count` meets its contract.
use Rattle.std.proofs.Common.{sym, ◌∙◌}
use Rattle.bundles.proofs.Entries.{stops_count}
use Rattle.bundle_stops.proofs.EntryStopsStopList.count.Goals as goal

pub returns : goal.returns
returns c = c.from.ensures ∙ c.args.self.now.counted ∙ sym (stops_count c.args.self.now.file.now)
