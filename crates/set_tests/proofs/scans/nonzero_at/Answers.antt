-- `nonzero_at` meets its contract.
use mathlib.Core.Path.{ap}
use mathlib.Core.Bool.{not}
use Rattle.polynomials.specs.Polynomials.{nonzero}
use Rattle.set_tests.proofs.scans.nonzero_at.Goals as goal

pub returns : goal.returns
unfolding nonzero
returns c = ap not c.equal_at.ensures
