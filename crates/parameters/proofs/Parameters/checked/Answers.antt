-- `Parameters::checked` meets its contract: what `check` answers, with the set itself for its value.
use mathlib.Core.Path.{sym, ◌∙◌, ap}
use Rattle.refusals.proofs.Checks.{done_with, refused_with}
use Rattle.refusals.proofs.Errors.{err_is}
use Rattle.parameters.specs.Sets.{set_of, parameter_checks}
use Rattle.parameters.specs.Checked.{checked}
use Rattle.parameters.proofs.Parameters.checked.Goals as goal

pub returns : goal.returns
returns c = sym (done_with (parameter_checks (set_of c.args.self)) c.args.self (sym c.in_ok-check.ensures))

pub returns-in_err-check : goal.returns-in_err-check
returns-in_err-check c =
    ap checked (err_is _ _ c.from_residual.ensures.1) ∙ sym (refused_with (parameter_checks (set_of c.args.self)) c.args.self _ (sym c.in_err-check.ensures))
