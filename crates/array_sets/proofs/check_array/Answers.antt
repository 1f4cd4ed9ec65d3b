-- `check_array` meets its contract: the parameter set's checks, then those of the array.
use mathlib.Core.Path.{sym, ◌∙◌, ap}
use mathlib.Core.List.{List}
use Rattle.refusals.proofs.Errors.{passed_on}
use Rattle.refusals.specs.Outcomes.{Check, outcome}
use Rattle.refusals.proofs.Checks.{passed_all, refused_first}
use Rattle.parameters.specs.Sets.{ParameterSet, set_of, parameter_checks}
use Rattle.parameters.specs.declared.Parameters.{Parameters}
use Rattle.parameters.proofs.CheckedAnswers.{checked_passes, checked_refuses}
use Rattle.array_sets.specs.Sets.{array_checks, array_check}
use Rattle.array_sets.proofs.check_array.Goals as goal
use Rattle.array_sets.proofs.check_array.Goals.{Start}

abbrev P : Start → ParameterSet
P s = set_of s.args.p

abbrev checks : Start → List Check
checks s = array_checks (P s) s.args.which s.args.x.now

pub returns : goal.returns
unfolding array_check
returns c =
    let s = (goal.at.returns c).Start in
    let a = checked_passes s.args.p c.in_ok-p.p.parameters c.in_ok-p.ensures in
    c.array_refusal.ensures
    ∙ ap (λ (p : Parameters). outcome (array_checks (set_of p) s.args.which s.args.x.now) (tt {0})) a.1
    ∙ sym (passed_all (parameter_checks (P s)) (checks s) tt a.0)

pub returns-in_err-p : goal.returns-in_err-p
unfolding array_check
returns-in_err-p c =
    let s = (goal.at.returns-in_err-p c).Start in
    passed_on _ _ c.from_residual.ensures.1 ∙ sym (refused_first (parameter_checks (P s)) (checks s) tt _ (checked_refuses s.args.p _ c.in_err-p.ensures))
