-- `given_refusal` meets its contract: 7, 25, then the arrays.
use mathlib.Core.Path.{◌≡◌, sym, ◌∙◌, ap}
use mathlib.Core.Bool.{not}
use Rattle.refusals.proofs.Checks.{passed, refused_by, call_passed, call_refused}
use Rattle.stop_sets.specs.Stops.{any_twice}
use Rattle.bundles.specs.Bundles.{stops_of}
use Rattle.bundles.specs.Calls.{entries_checks, entries_given}
use Rattle.bundles.proofs.GivenEntries.{given_stops}
use Rattle.bundle_writing.proofs.given_refusal.Goals as goal
use Rattle.bundle_writing.proofs.given_refusal.Goals.{Start}

-- the stops of the entries are those that were given
of_entries : (s : Start) → any_twice s.args.stops.now ≡ any_twice (stops_of (entries_given s.args.p.parameters.n s.args.stops.now s.args.numbers.now))
of_entries s = ap any_twice (sym (given_stops s.args.p.parameters.n s.args.stops.now s.args.numbers.now))

pub returns-then-not-lengths_right : goal.returns-then-not-lengths_right
returns-then-not-lengths_right c = sym (call_refused 7 _ _ c.lengths_right.ensures (ap not c.if-not-lengths_right.true))

pub returns-then-any_twice : goal.returns-then-any_twice
unfolding entries_checks
returns-then-any_twice c =
    let twice = sym (c.any_twice.ensures ∙ of_entries (goal.at.returns-then-any_twice c).Start) ∙ c.if-any_twice.true in
    sym (call_passed 7 _ _ c.lengths_right.ensures (ap not c.if-not-lengths_right.false) ∙ refused_by 25 _ _ twice)

pub returns : goal.returns
unfolding entries_checks
returns c =
    let once = sym (c.any_twice.ensures ∙ of_entries (goal.at.returns c).Start) ∙ c.if-any_twice.false in
    c.arrays_refusal.ensures ∙ sym (call_passed 7 _ _ c.lengths_right.ensures (ap not c.if-not-lengths_right.false) ∙ passed 25 _ _ once)
