-- `read_entries` meets its contract: 7 for the outputs, then the entries; then both outputs are written.
use mathlib.Core.Path.{◌≡◌, sym, ◌∙◌, ap}
use mathlib.Core.Bool.{Bool, not}
use mathlib.Core.List.{List}
use Prim.Native.Nat.{ℕ, ◌*◌}
use borrow.Author.Tests.{eq-eqb}
use lib.Dec.{T}
use lib.ListN.{length}
use Rattle.refusals.proofs.Errors.{gives_passed_on}
use Rattle.refusals.specs.Outcomes.{Check, outcome, Passes}
use Rattle.refusals.proofs.Checks.{holds, holds_passed, call_refused, passed_all, gives_done, gives_refused}
use Rattle.integers.proofs.Tests.{are_equal_2}
use Rattle.parameters.specs.Sets.{ParameterSet}
use Rattle.heads.specs.Heads.{head_of}
use Rattle.unit_operands.proofs.Operands.{was_formed}
use Rattle.bundles.specs.Bundles.{count_of, entries_of}
use Rattle.bundles.specs.Calls.{right_outputs, count_checks, entries_checks, bundle_checks, output_checks}
use Rattle.bundles.proofs.MadeParameters.{made_accepted, made_refused}
use Rattle.bundle_reading.proofs.read_entries.Goals as goal
use Rattle.bundle_reading.proofs.read_entries.Goals.{Start}

abbrev file : Start → List ℕ
file s = s.args.file.now

abbrev entries : Start → List Check
entries s = entries_checks (head_of (file s)) (entries_of (file s))

abbrev checks : Start → List Check
checks s = output_checks (file s) (length s.args.stops.now) (length s.args.numbers.now)

-- the test of 7, with the head that the parameters are of
abbrev right : Start → Bool
right s = right_outputs (head_of (file s)).N (count_of (file s)) (length s.args.stops.now) (length s.args.numbers.now)

of_head : (s : Start) → right_outputs s.args.p.n (count_of (file s)) (length s.args.stops.now) (length s.args.numbers.now) ≡ right s
of_head s = ap (λ (p : ParameterSet). right_outputs p.N (count_of (file s)) (length s.args.stops.now) (length s.args.numbers.now)) s.requires.0

-- after it all is as a reader asks
as_a_reader : (s : Start) → T (right s) → outcome (checks s) (tt {0}) ≡ outcome (bundle_checks (file s)) (tt {0})
unfolding bundle_checks
as_a_reader s h = holds_passed 7 (right s) (entries s) tt h ∙ sym (passed_all (count_checks (file s)) (entries s) tt s.requires.1)

pub returns-then-not-outputs_right : goal.returns-then-not-outputs_right
returns-then-not-outputs_right c =
    let s = (goal.at.returns-then-not-outputs_right c).Start in
    let refused = call_refused 7 (entries s) tt (c.outputs_right.ensures ∙ of_head s) (ap not c.if-not-outputs_right.true) in
    record { gives = gives_refused (checks s) _ c.args.stops.now 7 refused; gives_2 = gives_refused (checks s) _ c.args.numbers.now 7 refused }

pub returns-in_err-check_bundle : goal.returns-in_err-check_bundle
returns-in_err-check_bundle c =
    let s = (goal.at.returns-in_err-check_bundle c).Start in
    let h : T (right s) = holds (c.outputs_right.ensures ∙ of_head s) (ap not c.if-not-outputs_right.false) in
    let refused = as_a_reader s h ∙ made_refused (bundle_checks (file s)) (head_of (file s)) c.in_err-check_bundle.field-0.0 c.in_err-check_bundle.ensures in
    record {
      gives = gives_passed_on (checks s) _ c.args.stops.now _ _ c.from_residual.ensures.1 refused;
      gives_2 = gives_passed_on (checks s) _ c.args.numbers.now _ _ c.from_residual.ensures.1 refused;
    }

pub returns : goal.returns
returns c =
    let s = (goal.at.returns c).Start in
    let h : T (right s) = holds (c.outputs_right.ensures ∙ of_head s) (ap not c.if-not-outputs_right.false) in
    let long : (length c.args.stops.now ≡ count_of (file s)) × (length c.args.numbers.now ≡ 2 * (head_of (file s)).N * count_of (file s)) = are_equal_2 _ _ _ _ h in
    let passes : Passes (checks s) = as_a_reader s h ∙ (made_accepted (bundle_checks (file s)) (head_of (file s)) _ c.in_ok-check_bundle.ensures).0 in
    record {
      gives = gives_done (checks s) _ c.args.stops.now _ passes (was_formed _ _ (eq-eqb _ _ long.0) c.read_stops.ensures).1;
      gives_2 = gives_done (checks s) _ c.args.numbers.now _ passes c.read_arrays.ensures;
    }
