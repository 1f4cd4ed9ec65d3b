-- `check_key` meets its contract.
use mathlib.Core.Path.{sym}
use mathlib.Core.List.{List, ◌++◌}
use lib.IntN.{ℤ}
use lib.ListN.{length}
use Rattle.refusals.proofs.Errors.{gives_passed_on}
use Rattle.refusals.specs.Outcomes.{Check, Passes}
use Rattle.refusals.proofs.Checks.{gives_done}
use Rattle.parameters.specs.Sets.{set_of, parameter_checks}
use Rattle.polynomials.specs.Polynomials.{coefficient, array}
use Rattle.etru.specs.Scheme.{public_key}
use Rattle.etru.specs.Calls.{key_checks, key_check}
use Rattle.key_check.proofs.check_key.Goals as goal
use Rattle.key_check.proofs.check_key.Goals.{Start}

abbrev checks : Start → List Check
checks s = parameter_checks (set_of s.args.p) ++ key_checks (set_of s.args.p) s.args.f.now s.args.f2.now s.args.fq.now s.args.g.now (length s.args.h.now)

abbrev value_of : Start → List ℤ
value_of s = array s.args.p.n (public_key (set_of s.args.p) (coefficient s.args.fq.now) (coefficient s.args.g.now))

pub returns : goal.returns
unfolding key_check
returns c =
    let all_passed : Passes (checks (goal.at.returns c).Start) = sym c.in_ok-key_refusal.ensures in
    gives_done (checks (goal.at.returns c).Start) (value_of (goal.at.returns c).Start) c.args.h.now _ all_passed c.write_public_key.ensures

pub returns-in_err-key_refusal : goal.returns-in_err-key_refusal
unfolding key_check
returns-in_err-key_refusal c = gives_passed_on (checks (goal.at.returns-in_err-key_refusal c).Start) (value_of (goal.at.returns-in_err-key_refusal c).Start) c.args.h.now _ _ c.from_residual.ensures.1 (sym c.in_err-key_refusal.ensures)
