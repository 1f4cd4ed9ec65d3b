-- `open_entry` meets its contract: the parameters' refusals, then the part's.
use mathlib.Core.Path.{refl, ap, subst}
use lib.ListN.{length}
use Rattle.refusals.specs.Outcomes.{number, Gives}
use Rattle.refusals.specs.Numbers.{answered}
use Rattle.refusals.proofs.Checks.{gives_same}
use Rattle.refusals.proofs.Errors.{passed_on}
use Rattle.parameters.specs.declared.Parameters.{Parameters}
use Rattle.parameters.specs.Sets.{set_of}
use Rattle.parameters.proofs.CheckedAnswers.{checked_passes, checked_refuses}
use Rattle.entry_opening.specs.Calls.{opening_entry}
use Rattle.entry_opening.proofs.Promises.{parameters_refused}
use Rattle.entry_opening.proofs.open_entry.Goals as goal

pub returns-in_err-p : goal.returns-in_err-p
returns-in_err-p c = gives_same c.args.message.now
    (parameters_refused (set_of c.args.p) c.args.f.now c.args.f2.now c.args.part.now (length c.args.message.now) (checked_refuses c.args.p _ c.in_err-p.ensures)) (ap number (passed_on _ _ c.from_residual.ensures.1), refl)

pub returns : goal.returns
returns c =
    subst (λ (p : Parameters). Gives (opening_entry (set_of p) c.args.f.now c.args.f2.now c.args.part.now (length c.args.message.now)) (number (answered c.open_checked.result)) c.args.message.now c.open_checked.new.message)
    (checked_passes c.args.p c.in_ok-p.p.parameters c.in_ok-p.ensures).1
    c.open_checked.ensures
