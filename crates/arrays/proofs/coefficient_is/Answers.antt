-- `coefficient_is` meets its contract.
use mathlib.Core.Path.{◌∙◌, ap₂}
use Rattle.eisenstein.specs.Values.{same}
use Rattle.eisenstein.proofs.Pairs.{pair_read}
use Rattle.arrays.proofs.Sizes.{coefficient_read}
use Rattle.arrays.proofs.coefficient_is.Goals as goal

pub returns : goal.returns
returns c =
    c.equal.ensures
    ∙ ap₂ same (coefficient_read c.args.x.now c.args.i c.at.ensures c.at-2.ensures) (pair_read c.ranges.a c.ranges.b)
