-- `seal_short` meets its contract.
use mathlib.Core.Path.{subst}
use mathlib.Core.List.{◌++◌}
use lib.ListN.{length}
use Rattle.refusals.proofs.Errors.{gives_passed_on}
use Rattle.refusals.specs.Outcomes.{number, Gives}
use Rattle.refusals.specs.Numbers.{answered}
use Rattle.refusals.proofs.Checks.{refused_first}
use Rattle.parameters.specs.declared.Parameters.{Parameters}
use Rattle.parameters.specs.Sets.{set_of, parameter_checks}
use Rattle.parameters.proofs.CheckedAnswers.{checked_passes, checked_refuses}
use Rattle.short_scheme.specs.Calls.{short_sealing_checks, short_sealing}
use Rattle.short_sealing.proofs.seal_short.Goals as goal

pub returns-in_err-p : goal.returns-in_err-p
unfolding short_sealing
returns-in_err-p c =
    let p = set_of c.args.p in
    let checks = short_sealing_checks p c.args.h.now c.args.phi.now (length c.args.message.now) (length c.args.e.now) in
    gives_passed_on (parameter_checks p ++ checks) _ c.args.e.now _ _ c.from_residual.ensures.1
    (refused_first (parameter_checks p) checks tt _ (checked_refuses c.args.p _ c.in_err-p.ensures))

pub returns : goal.returns
returns c =
    subst (λ (p : Parameters). Gives (short_sealing (set_of p) c.args.h.now c.args.phi.now c.args.message.now (length c.args.e.now)) (number (answered c.seal_checked.result)) c.args.e.now c.seal_checked.new.e)
    (checked_passes c.args.p c.in_ok-p.p.parameters c.in_ok-p.ensures).1
    c.seal_checked.ensures
