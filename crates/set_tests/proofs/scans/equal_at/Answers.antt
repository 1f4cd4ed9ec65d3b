-- `equal_at` meets its contract.
use mathlib.Core.Path.{ap₂}
use mathlib.Core.Bool.{◌&&◌}
use Prim.Native.Nat.{◌+◌, ◌*◌}
use borrow.Author.Rules.{rules}
use lib.IntN.{pos}
use lib.ListN.{get_or}
use Rattle.eisenstein.specs.Values.{same}
use Rattle.eisenstein.proofs.Equality.{same_bits}
use Rattle.polynomials.specs.Polynomials.{coefficient}
use Rattle.set_tests.proofs.scans.equal_at.Goals as goal

pub returns : goal.returns
unfolding same coefficient
returns c = ap₂ ◌&&◌
    (same_bits (get_or c.args.x.now (2 * c.args.i) (pos 0)) c.args.a (search rules) c.ranges.a)
    (same_bits (get_or c.args.x.now (2 * c.args.i + 1) (pos 0)) c.args.b (search rules) c.ranges.b)
