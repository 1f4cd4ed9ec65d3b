-- `coefficient_is` meets its contract.
use mathlib.Core.Path.{ap₂}
use mathlib.Core.Bool.{◌&&◌}
use Prim.Native.Nat.{◌+◌, ◌*◌}
use borrow.Author.Rules.{rules}
use lib.IntN.{pos}
use lib.ListN.{get_or}
use mir.Syntax.{w32}
use Rattle.eisenstein.specs.Values.{same}
use Rattle.eisenstein.proofs.Equality.{same_bits}
use Rattle.polynomials.specs.Polynomials.{coefficient}
use Rattle.unit_products.proofs.places.coefficient_is.Goals as goal

pub returns : goal.returns
unfolding same coefficient
returns c = ap₂ ◌&&◌
    (same_bits {w = w32} (get_or c.args.x.now (2 * c.args.i) (pos 0)) c.args.u.a (search rules) (search rules))
    (same_bits {w = w32} (get_or c.args.x.now (2 * c.args.i + 1) (pos 0)) c.args.u.b (search rules) (search rules))
