-- `coefficient_count` meets its contract.
use Rattle.heads.specs.Heads.{head_of}
use Rattle.bundle_heads.proofs.coefficient_count.Goals as goal

pub returns : goal.returns
unfolding head_of
returns c = c.unsigned_at.ensures
