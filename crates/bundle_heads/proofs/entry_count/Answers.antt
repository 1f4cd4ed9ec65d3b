-- `entry_count` meets its contract.
use Rattle.bundles.specs.Bundles.{count_of}
use Rattle.bundle_heads.proofs.entry_count.Goals as goal

pub returns : goal.returns
unfolding count_of
returns c = c.unsigned_at.ensures
