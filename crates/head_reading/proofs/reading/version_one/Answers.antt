-- `version_one` meets its contract.
use mathlib.Core.Path.{ap}
use Prim.Native.Nat.{ℕ}
use lib.Dec.{eqb}
use Rattle.heads.specs.Heads.{version}
use Rattle.head_reading.specs.Calls.{version_one}
use Rattle.head_reading.proofs.reading.version_one.Goals as goal

pub returns : goal.returns
unfolding version_one
returns c = ap (λ (n : ℕ). eqb n version) c.unsigned_at.ensures.0
