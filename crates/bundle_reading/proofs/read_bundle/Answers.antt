-- `read_bundle` meets its contract: the head, the count and the length, then the outputs and the entries.
use mathlib.Core.Path.{sym}
use mathlib.Core.List.{List, ◌++◌}
use lib.ListN.{length}
use Rattle.refusals.proofs.Errors.{gives_passed_on}
use Rattle.refusals.specs.Outcomes.{Check}
use Rattle.refusals.proofs.Checks.{passed_all, refused_first, gives_same}
use Rattle.heads.specs.Heads.{head_of}
use Rattle.bundles.specs.Calls.{count_checks, output_checks, reading_checks, reading_parameters, reading_stops, reading_numbers}
use Rattle.bundles.proofs.MadeParameters.{made_accepted, made_refused}
use Rattle.bundle_reading.proofs.read_bundle.Goals as goal
use Rattle.bundle_reading.proofs.read_bundle.Goals.{Start}

abbrev head_checks : Start → List Check
head_checks s = count_checks s.args.file.now

abbrev outputs : Start → List Check
outputs s = output_checks s.args.file.now (length s.args.stops.now) (length s.args.numbers.now)

pub returns-in_err-p : goal.returns-in_err-p
unfolding reading_stops reading_numbers reading_checks reading_parameters
returns-in_err-p c =
    let s = (goal.at.returns-in_err-p c).Start in
    let refused = refused_first (head_checks s) (outputs s) tt _ (made_refused (head_checks s) (head_of c.args.file.now) c.in_err-p.field-0.0 c.in_err-p.ensures) in
    record {
      gives = gives_passed_on (head_checks s ++ outputs s) _ c.args.stops.now _ _ c.from_residual.ensures.1 refused;
      gives_2 = gives_passed_on (head_checks s ++ outputs s) _ c.args.numbers.now _ _ c.from_residual.ensures.1 refused;
    }

pub read_entries-requires : goal.read_entries-requires
unfolding reading_parameters
read_entries-requires c =
    let accepted = made_accepted (count_checks c.args.file.now) (head_of c.args.file.now) c.in_ok-p.p c.in_ok-p.ensures in
    (sym accepted.1, accepted.0)

pub returns : goal.returns
unfolding reading_stops reading_numbers reading_checks reading_parameters
returns c =
    let s = (goal.at.returns c).Start in
    let accepted = made_accepted (head_checks s) (head_of c.args.file.now) c.in_ok-p.p c.in_ok-p.ensures in
    record {
      gives = gives_same c.args.stops.now (passed_all (head_checks s) (outputs s) _ accepted.0) c.read_entries.ensures.gives;
      gives_2 = gives_same c.args.numbers.now (passed_all (head_checks s) (outputs s) _ accepted.0) c.read_entries.ensures.gives_2;
    }
