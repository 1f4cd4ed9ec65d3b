-- `write_bundle` meets its contract: the parameters, then what is given; then the file is written.
use mathlib.Core.Path.{◌≡◌, sym, ◌∙◌, subst}
use mathlib.Core.List.{List, ◌++◌}
use Prim.Native.Nat.{ℕ}
use lib.ListN.{length}
use Rattle.refusals.proofs.Errors.{gives_passed_on}
use Rattle.refusals.specs.Outcomes.{Check, outcome, number, Gives, Passes}
use Rattle.refusals.specs.Numbers.{answered}
use Rattle.refusals.proofs.Checks.{passed_all, refused_first, gives_done}
use Rattle.parameters.specs.declared.Parameters.{Parameters}
use Rattle.parameters.specs.declared.checked_parameters.CheckedParameters.{CheckedParameters}
use Rattle.parameters.specs.Sets.{ParameterSet, set_of, parameter_checks}
use Rattle.parameters.proofs.AcceptedParameters.{accepted_parameters}
use Rattle.parameters.proofs.CheckedAnswers.{checked_passes, checked_refuses}
use Rattle.arrays.specs.Arrays.{Small}
use Rattle.bundles.specs.Bundles.{Entry}
use Rattle.bundles.specs.Calls.{entries_given, given_checks, writing_checks, writing_bundle}
use Rattle.bundles.proofs.EntryChecks.{entries_parts}
use Rattle.bundles.proofs.GivenEntries.{given_full, given_numbers, small_numbers}
use Rattle.bundles.proofs.RoundTrips.{Written, writing_passed}
use Rattle.bundle_writing.proofs.write_bundle.Goals as goal
use Rattle.bundle_writing.proofs.write_bundle.Goals.{Start}

abbrev given : Start → Parameters → List Check
given s p = given_checks (set_of p) s.args.stops.now s.args.numbers.now (length s.args.file.now)

-- what is promised, of the set as it was given and as it is handed on
abbrev Promised : Start → ℕ → List ℕ → Parameters → Type 0
Promised s n new p = Gives (writing_bundle (set_of p) s.args.stops.now s.args.numbers.now (length s.args.file.now)) n s.args.file.now new

module _ (s : Start) (p : CheckedParameters) where
  abbrev P : ParameterSet
  P = set_of p.parameters

  abbrev checks : List Check
  checks = writing_checks P s.args.stops.now s.args.numbers.now (length s.args.file.now)

  -- the parameters have passed
  whole : outcome checks (tt {0}) ≡ outcome (given s p.parameters) (tt {0})
  unfolding writing_checks
  whole = passed_all (parameter_checks P) (given s p.parameters) tt p.passes

  written : Passes checks → Written P s.args.stops.now s.args.numbers.now (length s.args.file.now)
  written passes = writing_passed P s.args.stops.now s.args.numbers.now (length s.args.file.now) passes

  small : Passes checks → Small s.args.numbers.now
  small passes =
      let w = written passes in
      let entries : List Entry = entries_given p.parameters.n s.args.stops.now s.args.numbers.now in
      let full = given_full p.parameters.n s.args.stops.now s.args.numbers.now w.numbers_are in
      subst Small (given_numbers p.parameters.n s.args.stops.now s.args.numbers.now w.numbers_are)
      (small_numbers P entries (accepted_parameters P p.passes) full (entries_parts P entries w.entries).1)

pub returns-in_err-p : goal.returns-in_err-p
unfolding writing_bundle writing_checks
returns-in_err-p c =
    let s = (goal.at.returns-in_err-p c).Start in
    let p = parameter_checks (set_of c.args.p) in
    gives_passed_on (p ++ given s c.args.p) _ c.args.file.now _ _ c.from_residual.ensures.1 (refused_first p (given s c.args.p) tt _ (checked_refuses c.args.p _ c.in_err-p.ensures))

pub returns-in_err-given_refusal : goal.returns-in_err-given_refusal
unfolding writing_bundle
returns-in_err-given_refusal c =
    let s = (goal.at.returns-in_err-given_refusal c).Start in
    let p = c.in_ok-p.p in
    subst (Promised s (number (answered c.from_residual-in_err-given_refusal.result)) c.args.file.now) (checked_passes c.args.p p.parameters c.in_ok-p.ensures).1
    (gives_passed_on (checks s p) _ c.args.file.now _ _ c.from_residual-in_err-given_refusal.ensures.1 (whole s p ∙ sym c.in_err-given_refusal.ensures))

pub write_file-requires : goal.write_file-requires
write_file-requires c =
    let s = (goal.at.write_file-requires c).Start in
    let p = c.in_ok-p.p in
    let passes : Passes (checks s p) = whole s p ∙ sym c.in_ok-given_refusal.ensures in
    let w = written s p passes in
    record { numbers_len = w.numbers_are; file_len = (w.right_length_lem.is, w.right_length_lem.short, small s p passes) }

pub returns : goal.returns
unfolding writing_bundle
returns c =
    let s = (goal.at.returns c).Start in
    let p = c.in_ok-p.p in
    subst (Promised s 0 c.write_file.new.file) (checked_passes c.args.p p.parameters c.in_ok-p.ensures).1
    (gives_done (checks s p) _ c.args.file.now _ (whole s p ∙ sym c.in_ok-given_refusal.ensures) c.write_file.ensures)
