-- `open_part` meets its contract: the checks and the message are those of the numbers that were read.
use mathlib.Core.Path.{◌≡◌, sym, ap}
use mathlib.Core.List.{List, ◌++◌}
use Prim.Native.Nat.{ℕ}
use native.Mathlib.Omega.{arith}
use lib.IntN.{ℤ}
use lib.ListN.{length}
use Rattle.refusals.proofs.Errors.{gives_passed_on}
use Rattle.refusals.specs.Outcomes.{Check, Outcome, Passes}
use Rattle.refusals.proofs.Checks.{gives_done, gives_same}
use Rattle.parameters.specs.Sets.{set_of, parameter_checks}
use Rattle.polynomials.specs.Polynomials.{coefficient}
use Rattle.packing.specs.Messages.{unpacked}
use Rattle.etru.specs.Scheme.{opened}
use Rattle.etru.specs.Calls.{opening_checks, opening}
use Rattle.files.specs.Files.{numbers_from}
use Rattle.stored_numbers.proofs.Lengths.{numbers_read}
use Rattle.entry_opening.proofs.opened.open_part.Goals as goal
use Rattle.entry_opening.proofs.opened.open_part.Goals.{Start}

abbrev opening_of : Start → List ℤ → Outcome (List ℕ)
opening_of s x = opening (set_of s.args.p) s.args.f.now s.args.f2.now x (length s.args.message.now)

pub returns : goal.returns
unfolding opening
returns c =
    let array_read : List ℤ = c.read_numbers.new.numbers in
    let checks : List Check = parameter_checks (set_of c.args.p) ++ opening_checks (set_of c.args.p) c.args.f.now c.args.f2.now array_read (length c.args.message.now) in
    let value_of : List ℕ = unpacked c.args.p.n (opened (set_of c.args.p) (coefficient c.args.f.now) (coefficient c.args.f2.now) (coefficient array_read)) in
    let is_read : array_read ≡ numbers_from c.args.part.now = numbers_read c.args.part.now c.args.x.now c.read_numbers.ensures (omega (arith, c.requires.0, c.requires.1)) in
    let of_part : opening_of (goal.at.returns c).Start (numbers_from c.args.part.now) ≡ opening_of (goal.at.returns c).Start array_read = ap (opening_of (goal.at.returns c).Start) (sym is_read) in
    let all_passed : Passes checks = sym c.in_ok-opening_refusal.ensures in
    let message = c.args.message.now in
    gives_same message of_part (gives_done checks value_of message _ all_passed c.open_over.ensures)

pub returns-in_err-opening_refusal : goal.returns-in_err-opening_refusal
unfolding opening
returns-in_err-opening_refusal c =
    let array_read : List ℤ = c.read_numbers.new.numbers in
    let checks : List Check = parameter_checks (set_of c.args.p) ++ opening_checks (set_of c.args.p) c.args.f.now c.args.f2.now array_read (length c.args.message.now) in
    let value_of : List ℕ = unpacked c.args.p.n (opened (set_of c.args.p) (coefficient c.args.f.now) (coefficient c.args.f2.now) (coefficient array_read)) in
    let is_read : array_read ≡ numbers_from c.args.part.now = numbers_read c.args.part.now c.args.x.now c.read_numbers.ensures (omega (arith, c.requires.0, c.requires.1)) in
    let of_part : opening_of (goal.at.returns-in_err-opening_refusal c).Start (numbers_from c.args.part.now) ≡ opening_of (goal.at.returns-in_err-opening_refusal c).Start array_read = ap (opening_of (goal.at.returns-in_err-opening_refusal c).Start) (sym is_read) in
    let message = c.args.message.now in
    gives_same message of_part (gives_passed_on checks value_of message _ _ c.from_residual.ensures.1 (sym c.in_err-opening_refusal.ensures))
