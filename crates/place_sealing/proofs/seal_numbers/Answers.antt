-- `seal_numbers` meets its contract: what is asked of the numbers, then what the records give.
use mathlib.Core.Path.{◌≡◌, sym, ◌∙◌, ap}
use mathlib.Core.Bool.{Bool, not, ◌&&◌}
use mathlib.Core.List.{List, [], ◌∷◌, ◌++◌}
use lib.Dec.{eqb}
use lib.ListN.{length}
use Rattle.integers.proofs.Tests.{and_false}
use Rattle.refusals.specs.Outcomes.{Check, ◌if◌}
use Rattle.refusals.proofs.Checks.{gives_same}
use Rattle.refusals.proofs.Errors.{gives_passed_on}
use Rattle.parameters.specs.Sets.{set_of, parameter_checks}
use Rattle.polynomials.specs.Polynomials.{coefficient, array, reduced_q}
use Rattle.arrays.specs.Arrays.{full}
use Rattle.packing.specs.Messages.{message_bytes, packed, spare_bit_set}
use Rattle.etru.specs.Scheme.{sealed}
use Rattle.placed_units.specs.declared.PlacedUnit.{PlacedUnit}
use Rattle.placed_units.specs.PlacedUnits.{spread}
use Rattle.placed_units.specs.Layout.{records_from}
use Rattle.placed_ephemerals.specs.Calls.{place_checks, places_sealing_checks, places_sealing, not_all_there, numbers_sealing}
use Rattle.placed_ephemerals.proofs.Layouts.{sealing_there}
use Rattle.place_spreading.proofs.Reading.{room_part, are_there, not_there}
use Rattle.place_sealing.proofs.seal_numbers.Goals as goal

pub returns-in_err-check_numbers : goal.returns-in_err-check_numbers
unfolding numbers_sealing places_sealing_checks
returns-in_err-check_numbers c =
    let p = set_of c.args.p in
    let h = c.args.h.now in
    let numbers = c.args.numbers.now in
    let message = c.args.message.now in
    let places = records_from numbers 0 c.args.count in
    let room = length c.args.e.now in
    let bytes : Bool = eqb (length message) (message_bytes p.N) in
    let later : List Check = 12 if not (reduced_q p.N p.q (coefficient h)) ∷ place_checks p places ++ (15 if spare_bit_set p.N message ∷ []) in
    gives_passed_on (parameter_checks p ++ not_all_there (length numbers) c.args.count ∷ places_sealing_checks p h places message room)
    (array p.N (sealed p (coefficient h) (spread places) (packed message))) c.args.e.now _ _ c.from_residual.ensures.1
    (not_there p numbers c.args.count (λ t. bytes && (t && (full p.N (length h) && full p.N room))) (and_false bytes) later c.in_err-check_numbers.ensures)

pub slice_bounds-room-end : goal.slice_bounds-room-end
slice_bounds-room-end c = (are_there (set_of c.args.p) c.args.numbers.now c.args.count c.in_ok-check_numbers.ensures).1

pub slice_bounds-places-end : goal.slice_bounds-places-end
slice_bounds-places-end c = sym (room_part c.args.count (are_there (set_of c.args.p) c.args.numbers.now c.args.count c.in_ok-check_numbers.ensures).1)

pub returns : goal.returns
returns c =
    let p = set_of c.args.p in
    let h = c.args.h.now in
    let numbers = c.args.numbers.now in
    let message = c.args.message.now in
    let room = length c.args.e.now in
    let there = are_there p numbers c.args.count c.in_ok-check_numbers.ensures in
    let read : c.read_places.new.places ≡ records_from numbers 0 c.args.count = c.read_places.ensures ∙ ap (records_from numbers 0) (room_part c.args.count there.1) in
    gives_same c.args.e.now (sealing_there p numbers c.args.count there.0 h message room ∙ ap (λ (l : List PlacedUnit). places_sealing p h l message room) (sym read)) c.seal_places.ensures
