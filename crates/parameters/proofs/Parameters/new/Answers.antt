-- `Parameters::new` meets its contract.
use Rattle.std.specs.Prelude.{Result}
use Rattle.refusals.proofs.Errors.{err_is}
use Rattle.refusals.specs.declared.Refusal.{Refusal}
use mathlib.Core.Path.{◌≡◌, sym, ◌∙◌, ap, ap₂}
use lib.IntN.{ℤ}
use mir.Facts.{to_z-of_z}
use Rattle.refusals.specs.Outcomes.{done, outcome}
use Rattle.refusals.specs.Numbers.{answered}
use Rattle.refusals.proofs.Checks.{carried, carried_done, carried_refused, outcome_carried}
use Rattle.parameters.specs.Sets.{ParameterSet, set, parameter_checks, parameters, made}
use Rattle.parameters.proofs.Parameters.new.Goals as goal
use Rattle.parameters.proofs.Parameters.new.Goals.{After-check_numbers, Start}

abbrev P : Start → ParameterSet
P c = set c.args.n c.args.c c.args.d c.args.s c.args.t

-- the maker's outcome is that of the checks, with the set for its value
from_check : (c : After-check_numbers) → parameters (P c.before) ≡ carried (λ _. P c.before) (answered c.check_numbers.result)
unfolding parameters
from_check c =
    let s = c.before in
    outcome_carried (λ _. P s) (parameter_checks (P s)) tt
    ∙ ap (carried (λ _. P s)) (sym (c.check_numbers.ensures ∙ ap₂ (λ (u v : ℤ). outcome (parameter_checks (set s.args.n u v s.args.s s.args.t)) tt) (to_z-of_z s.ranges.c) (to_z-of_z s.ranges.d)))

pub returns : goal.returns
returns c = let r = (goal.at.returns c).After-check_numbers in
    let s = r.before in
    ap₂ (λ (u v : ℤ). done (set s.args.n u v s.args.s s.args.t)) (to_z-of_z s.ranges.c) (to_z-of_z s.ranges.d)
    ∙ sym (from_check r ∙ ap (λ (a : Result (Unit {0}) Refusal). carried (λ _. P s) (answered a)) c.in_ok-check_numbers.was ∙ carried_done (λ _. P s) tt)

pub returns-in_err-check_numbers : goal.returns-in_err-check_numbers
returns-in_err-check_numbers c = let r = (goal.at.returns-in_err-check_numbers c).After-check_numbers in
    ap made (err_is _ _ c.from_residual.ensures.1)
    ∙ sym (from_check r ∙ ap (λ (a : Result (Unit {0}) Refusal). carried (λ _. P r.before) (answered a)) c.in_err-check_numbers.was ∙ carried_refused (λ _. P r.before) _)
