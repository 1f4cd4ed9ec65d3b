-- `pack` meets its contract.
use mathlib.Core.Path.{sym}
use mathlib.Core.List.{List}
use lib.IntN.{ℤ}
use lib.ListN.{length}
use Rattle.refusals.proofs.Errors.{gives_passed_on}
use Rattle.refusals.specs.Outcomes.{Check, Passes}
use Rattle.refusals.proofs.Checks.{gives_done}
use Rattle.polynomials.specs.Polynomials.{array}
use Rattle.packing.specs.Messages.{packed}
use Rattle.message_packing.specs.Calls.{packing_checks, packing}
use Rattle.message_packing.proofs.Passed.{packing_passed}
use Rattle.message_packing.proofs.pack.Goals as goal
use Rattle.message_packing.proofs.pack.Goals.{Start}

abbrev checks : Start → List Check
checks s = packing_checks s.args.n s.args.message.now (length s.args.m.now)

abbrev value_of : Start → List ℤ
value_of s = array s.args.n (packed s.args.message.now)

pub pack_into-requires : goal.pack_into-requires
unfolding packing
pack_into-requires c =
    let all_passed : Passes (checks (goal.at.pack_into-requires c).Start) = sym c.in_ok-packing_refusal.ensures in
    let k = packing_passed c.args.n c.args.message.now (length c.args.m.now) (all_passed) in
    (k.0, k.2)

pub returns : goal.returns
unfolding packing
returns c =
    let all_passed : Passes (checks (goal.at.returns c).Start) = sym c.in_ok-packing_refusal.ensures in
    gives_done (checks (goal.at.returns c).Start) (value_of (goal.at.returns c).Start) c.args.m.now _ (all_passed) c.pack_into.ensures

pub returns-in_err-packing_refusal : goal.returns-in_err-packing_refusal
unfolding packing
returns-in_err-packing_refusal c = gives_passed_on (checks (goal.at.returns-in_err-packing_refusal c).Start) (value_of (goal.at.returns-in_err-packing_refusal c).Start) c.args.m.now _ _ c.from_residual.ensures.1 (sym c.in_err-packing_refusal.ensures)
