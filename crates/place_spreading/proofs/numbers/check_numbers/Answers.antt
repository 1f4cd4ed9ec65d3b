-- `check_numbers` meets its contract: both tests of 7 are one.
use mathlib.Core.Path.{sym, ◌∙◌, ap}
use mathlib.Core.Bool.{Bool, not}
use mathlib.Core.List.{List, [], ◌∷◌}
use Prim.Native.Nat.{◌*◌}
use lib.Dec.{eqb, ltb}
use Rattle.refusals.specs.Outcomes.{Check, ◌if◌, outcome}
use Rattle.refusals.proofs.Checks.{passed_all, refused_first}
use Rattle.refusals.proofs.Errors.{passed_on}
use Rattle.parameters.specs.Sets.{set_of, parameter_checks}
use Rattle.placed_ephemerals.specs.Calls.{not_all_there}
use Rattle.placed_ephemerals.proofs.Layouts.{joined_7}
use Rattle.place_spreading.proofs.numbers.check_numbers.Goals as goal
use Rattle.place_spreading.proofs.numbers.check_numbers.Goals.{Start}

abbrev both_7 : Start → List Check
both_7 s = not_all_there s.args.given s.args.count ∷ 7 if not (eqb s.args.count s.args.p.s) ∷ []

pub returns-in_err-check : goal.returns-in_err-check
returns-in_err-check c =
    passed_on _ _ c.from_residual.ensures.1
    ∙ sym (refused_first (parameter_checks (set_of c.args.p)) (both_7 (goal.at.returns-in_err-check c).Start) (tt {0}) _ (sym c.in_err-check.ensures))

pub returns : goal.returns
returns c =
    c.when.ensures
    ∙ ap (λ (b : Bool). outcome (7 if not b ∷ []) (tt {0})) c.all_there.ensures
    ∙ sym (joined_7 (ltb c.args.given (2 * c.args.count)) (eqb c.args.count c.args.p.s) [] (tt {0}))
    ∙ sym (passed_all (parameter_checks (set_of c.args.p)) (both_7 (goal.at.returns c).Start) (tt {0}) (sym c.in_ok-check.ensures))
