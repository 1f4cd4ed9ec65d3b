-- `seal` meets its contract.
use mathlib.Core.Path.{sym}
use mathlib.Core.List.{List, ◌++◌}
use lib.IntN.{ℤ}
use lib.ListN.{length}
use Rattle.refusals.proofs.Errors.{gives_passed_on}
use Rattle.refusals.specs.Outcomes.{Check, Passes}
use Rattle.refusals.proofs.Checks.{gives_done}
use Rattle.parameters.specs.Sets.{set_of, parameter_checks}
use Rattle.polynomials.specs.Polynomials.{coefficient, array}
use Rattle.packing.specs.Messages.{packed}
use Rattle.etru.specs.Scheme.{sealed}
use Rattle.etru.specs.Calls.{sealing_checks, sealing}
use Rattle.sealing.proofs.seal.Goals as goal
use Rattle.sealing.proofs.seal.Goals.{Start}

abbrev checks : Start → List Check
checks s = parameter_checks (set_of s.args.p) ++ sealing_checks (set_of s.args.p) s.args.h.now s.args.phi.now s.args.message.now (length s.args.e.now)

abbrev value_of : Start → List ℤ
value_of s = array s.args.p.n (sealed (set_of s.args.p) (coefficient s.args.h.now) (coefficient s.args.phi.now) (packed s.args.message.now))

pub returns : goal.returns
unfolding sealing
returns c =
    let all_passed : Passes (checks (goal.at.returns c).Start) = sym c.in_ok-sealing_refusal.ensures in
    gives_done (checks (goal.at.returns c).Start) (value_of (goal.at.returns c).Start) c.args.e.now _ all_passed c.seal_into.ensures

pub returns-in_err-sealing_refusal : goal.returns-in_err-sealing_refusal
unfolding sealing
returns-in_err-sealing_refusal c = gives_passed_on (checks (goal.at.returns-in_err-sealing_refusal c).Start) (value_of (goal.at.returns-in_err-sealing_refusal c).Start) c.args.e.now _ _ c.from_residual.ensures.1 (sym c.in_err-sealing_refusal.ensures)
