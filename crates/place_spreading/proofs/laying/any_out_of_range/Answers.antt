-- `any_out_of_range` meets its contract.
use mathlib.Core.Path.{◌≡◌}
use mathlib.Core.Bool.{true, false}
use borrow.Author.Rules.{rules}
use borrow.Author.Tests.{tests}
use Rattle.std.proofs.lemmas.Iterator.{cases_from_any, YieldsList-from_slice}
use Rattle.placed_units.specs.PlacedUnits.{out_of_range}
use Rattle.place_spreading.proofs.Records.{any_out}
use Rattle.place_spreading.proofs.laying.any_out_of_range.Goals as goal

pub returns : goal.returns
returns c =
    any_out c.args.n c.args.places.now c.any.result
    (cases_from_any _ _ _ (λ r. out_of_range c.args.n r ≡ true) (λ r. out_of_range c.args.n r ≡ false) c.any.ensures.ran (YieldsList-from_slice c.args.places.now cc) (λ r q k. search (rules, tests)) (λ r q k. search (rules, tests)))
