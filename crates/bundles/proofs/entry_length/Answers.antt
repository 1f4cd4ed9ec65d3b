-- `entry_length` meets its contract.
use mathlib.Core.Path.{refl}
use borrow.Author.Rules.{rules}
use Rattle.bundles.specs.Bundles.{entry_length}
use Rattle.bundles.proofs.entry_length.Goals as goal

pub returns : goal.returns
unfolding entry_length
returns c = refl
