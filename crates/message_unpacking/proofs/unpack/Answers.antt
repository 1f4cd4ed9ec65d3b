-- `unpack` meets its contract.
use mathlib.Core.Path.{sym}
use mathlib.Core.List.{List}
use Prim.Native.Nat.{ℕ}
use lib.ListN.{length}
use Rattle.refusals.proofs.Errors.{gives_passed_on}
use Rattle.refusals.specs.Outcomes.{Check, Passes}
use Rattle.refusals.proofs.Checks.{gives_done}
use Rattle.polynomials.specs.Polynomials.{coefficient}
use Rattle.packing.specs.Messages.{unpacked}
use Rattle.message_unpacking.specs.Calls.{unpacking_checks, unpacking}
use Rattle.message_unpacking.proofs.Passed.{unpacking_passed}
use Rattle.message_unpacking.proofs.unpack.Goals as goal
use Rattle.message_unpacking.proofs.unpack.Goals.{Start}

abbrev checks : Start → List Check
checks s = unpacking_checks s.args.n s.args.m.now (length s.args.message.now)

abbrev value_of : Start → List ℕ
value_of s = unpacked s.args.n (coefficient s.args.m.now)

pub unpack_into-requires : goal.unpack_into-requires
unfolding unpacking
unpack_into-requires c =
    let all_passed : Passes (checks (goal.at.unpack_into-requires c).Start) = sym c.in_ok-unpacking_refusal.ensures in
    unpacking_passed c.args.n c.args.m.now (length c.args.message.now) all_passed

pub returns : goal.returns
unfolding unpacking
returns c =
    let all_passed : Passes (checks (goal.at.returns c).Start) = sym c.in_ok-unpacking_refusal.ensures in
    gives_done (checks (goal.at.returns c).Start) (value_of (goal.at.returns c).Start) c.args.message.now _ all_passed c.unpack_into.ensures

pub returns-in_err-unpacking_refusal : goal.returns-in_err-unpacking_refusal
unfolding unpacking
returns-in_err-unpacking_refusal c = gives_passed_on (checks (goal.at.returns-in_err-unpacking_refusal c).Start) (value_of (goal.at.returns-in_err-unpacking_refusal c).Start) c.args.message.now _ _ c.from_residual.ensures.1 (sym c.in_err-unpacking_refusal.ensures)
