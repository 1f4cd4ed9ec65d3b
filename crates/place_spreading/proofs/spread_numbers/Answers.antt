-- `spread_numbers` meets its contract: what is asked of the numbers, then what the records give.
use mathlib.Core.Path.{◌≡◌, refl, sym, ◌∙◌, ap}
use mathlib.Core.Bool.{◌&&◌}
use mathlib.Core.List.{List, ◌∷◌, ◌++◌}
use lib.ListN.{length}
use Rattle.refusals.proofs.Checks.{gives_same}
use Rattle.refusals.proofs.Errors.{gives_passed_on}
use Rattle.parameters.specs.Sets.{set_of, parameter_checks}
use Rattle.polynomials.specs.Polynomials.{array}
use Rattle.arrays.specs.Arrays.{full}
use Rattle.placed_units.specs.declared.PlacedUnit.{PlacedUnit}
use Rattle.placed_units.specs.PlacedUnits.{spread}
use Rattle.placed_units.specs.Layout.{records_from}
use Rattle.placed_ephemerals.specs.Calls.{place_checks, spreading_checks, spreading, not_all_there, numbers_spreading}
use Rattle.placed_ephemerals.proofs.Layouts.{spreading_there}
use Rattle.place_spreading.proofs.Reading.{room_part, are_there, not_there}
use Rattle.place_spreading.proofs.spread_numbers.Goals as goal

pub returns-in_err-check_numbers : goal.returns-in_err-check_numbers
unfolding numbers_spreading spreading_checks
returns-in_err-check_numbers c =
    let p = set_of c.args.p in
    let numbers = c.args.numbers.now in
    let places = records_from numbers 0 c.args.count in
    let room = length c.args.phi.now in
    gives_passed_on (parameter_checks p ++ not_all_there (length numbers) c.args.count ∷ spreading_checks p places room) (array p.N (spread places)) c.args.phi.now _ _ c.from_residual.ensures.1
    (not_there p numbers c.args.count (λ t. t && full p.N room) refl (place_checks p places) c.in_err-check_numbers.ensures)

pub slice_bounds-room-end : goal.slice_bounds-room-end
slice_bounds-room-end c = (are_there (set_of c.args.p) c.args.numbers.now c.args.count c.in_ok-check_numbers.ensures).1

pub slice_bounds-places-end : goal.slice_bounds-places-end
slice_bounds-places-end c = sym (room_part c.args.count (are_there (set_of c.args.p) c.args.numbers.now c.args.count c.in_ok-check_numbers.ensures).1)

pub returns : goal.returns
returns c =
    let p = set_of c.args.p in
    let numbers = c.args.numbers.now in
    let room = length c.args.phi.now in
    let there = are_there p numbers c.args.count c.in_ok-check_numbers.ensures in
    let read : c.read_places.new.places ≡ records_from numbers 0 c.args.count = c.read_places.ensures ∙ ap (records_from numbers 0) (room_part c.args.count there.1) in
    gives_same c.args.phi.now (spreading_there p numbers c.args.count there.0 room ∙ ap (λ (l : List PlacedUnit). spreading p l room) (sym read)) c.spread_places.ensures
