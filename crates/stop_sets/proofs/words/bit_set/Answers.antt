-- `bit_set` meets its contract.
use mathlib.Core.Path.{refl}
use Rattle.stop_sets.specs.Words.{bit}
use Rattle.stop_sets.proofs.words.bit_set.Goals as goal

pub returns : goal.returns
unfolding bit
returns c = refl
