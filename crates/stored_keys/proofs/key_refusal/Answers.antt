-- `key_refusal` meets its contract: the parameter set's checks, then those of the numbers.
use mathlib.Core.Path.{sym, ◌∙◌, ap}
use Rattle.refusals.proofs.Errors.{passed_on}
use Rattle.refusals.specs.Outcomes.{number}
use Rattle.parameters.specs.declared.Parameters.{Parameters}
use Rattle.parameters.specs.Sets.{set_of}
use Rattle.parameters.proofs.CheckedAnswers.{checked_passes, checked_refuses}
use Rattle.stored_keys.specs.Keys.{stored_key_check}
use Rattle.stored_keys.proofs.EarlyRefusals.{set_refused}
use Rattle.stored_keys.proofs.key_refusal.Goals as goal

pub returns-in_err-p : goal.returns-in_err-p
returns-in_err-p c =
    ap number (passed_on _ _ c.from_residual.ensures.1)
    ∙ sym (ap number (set_refused (set_of c.args.p) c.args.numbers.now _ (checked_refuses c.args.p _ c.in_err-p.ensures)))

pub returns : goal.returns
returns c =
    c.accepted_key_refusal.ensures
    ∙ ap (λ (p : Parameters). number (stored_key_check (set_of p) c.args.numbers.now)) (checked_passes c.args.p c.in_ok-p.p.parameters c.in_ok-p.ensures).1
