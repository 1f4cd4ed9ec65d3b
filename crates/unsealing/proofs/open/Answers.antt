-- `open` meets its contract.
use mathlib.Core.Path.{sym}
use mathlib.Core.List.{List, ◌++◌}
use Prim.Native.Nat.{ℕ}
use lib.ListN.{length}
use Rattle.refusals.proofs.Errors.{gives_passed_on}
use Rattle.refusals.specs.Outcomes.{Check, Passes}
use Rattle.refusals.proofs.Checks.{gives_done}
use Rattle.parameters.specs.Sets.{set_of, parameter_checks}
use Rattle.polynomials.specs.Polynomials.{coefficient}
use Rattle.packing.specs.Messages.{unpacked}
use Rattle.etru.specs.Scheme.{opened}
use Rattle.etru.specs.Calls.{opening_checks, opening}
use Rattle.unsealing.proofs.open.Goals as goal
use Rattle.unsealing.proofs.open.Goals.{Start}

abbrev checks : Start → List Check
checks s = parameter_checks (set_of s.args.p) ++ opening_checks (set_of s.args.p) s.args.f.now s.args.f2.now s.args.e.now (length s.args.message.now)

abbrev value_of : Start → List ℕ
value_of s = unpacked s.args.p.n (opened (set_of s.args.p) (coefficient s.args.f.now) (coefficient s.args.f2.now) (coefficient s.args.e.now))

pub returns : goal.returns
unfolding opening
returns c =
    let all_passed : Passes (checks (goal.at.returns c).Start) = sym c.in_ok-opening_refusal.ensures in
    gives_done (checks (goal.at.returns c).Start) (value_of (goal.at.returns c).Start) c.args.message.now _ all_passed c.open_into.ensures

pub returns-in_err-opening_refusal : goal.returns-in_err-opening_refusal
unfolding opening
returns-in_err-opening_refusal c = gives_passed_on (checks (goal.at.returns-in_err-opening_refusal c).Start) (value_of (goal.at.returns-in_err-opening_refusal c).Start) c.args.message.now _ _ c.from_residual.ensures.1 (sym c.in_err-opening_refusal.ensures)
