-- `stop_in` meets its contract.
use Rattle.bundles.specs.Bundles.{stop_in}
use Rattle.bundle_stops.proofs.stop_in.Goals as goal

pub returns : goal.returns
unfolding stop_in
returns c = c.unsigned_at.ensures
