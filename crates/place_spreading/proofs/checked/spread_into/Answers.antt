-- `spread_into` meets its contract: the array of a list that is not refused is copied to phi.
use mathlib.Core.Path.{◌≡◌, refl, sym, ◌∙◌}
use mathlib.Core.List.{List}
use Prim.Native.Nat.{◌*◌, ◌≤◌}
use native.Mathlib.Omega.{arith}
use lib.IntN.{ℤ, pos}
use lib.ListN.{length, take, replicate}
use Rattle.refusals.proofs.Errors.{gives_passed_on}
use Rattle.refusals.specs.Outcomes.{Check, Passes}
use Rattle.refusals.proofs.Checks.{gives_done}
use Rattle.parameters.specs.Sets.{set_of}
use Rattle.parameters.proofs.AcceptedParameters.{accepted_parameters}
use Rattle.polynomials.specs.Polynomials.{array}
use Rattle.arrays.proofs.Sizes.{zeros_part}
use Rattle.placed_units.specs.PlacedUnits.{spread}
use Rattle.placed_ephemerals.specs.Calls.{place_checks}
use Rattle.place_spreading.proofs.Records.{part_zeros}
use Rattle.place_spreading.proofs.checked.spread_into.Goals as goal
use Rattle.place_spreading.proofs.checked.spread_into.Goals.{Start}

abbrev checks : Start → List Check
checks s = place_checks (set_of s.args.p.parameters) s.args.places.now

abbrev value_of : Start → List ℤ
value_of s = array s.args.p.parameters.n (spread s.args.places.now)

small : (s : Start) → s.args.p.parameters.n ≤ 1024
small s = (accepted_parameters (set_of s.args.p.parameters) s.args.p.passes).N_small

-- the part of the zeros that is lent
part : (s : Start) → length (take (2 * s.args.p.parameters.n) (replicate 2048 (pos 0))) ≡ 2 * s.args.p.parameters.n
part s = zeros_part s.args.p.parameters.n _ (small s) refl

pub slice_bounds-laid-end : goal.slice_bounds-laid-end
slice_bounds-laid-end c = omega (arith, small (goal.at.slice_bounds-laid-end c).Start)

pub slice_bounds-x-end : goal.slice_bounds-x-end
slice_bounds-x-end c = sym (part (goal.at.slice_bounds-x-end c).Start)

pub lay_checked-requires : goal.lay_checked-requires
lay_checked-requires c =
    (part (goal.at.lay_checked-requires c).Start, part_zeros (2 * c.args.p.parameters.n) _ refl)

pub copy_from_slice-requires : goal.copy_from_slice-requires
copy_from_slice-requires c = omega (arith, part (goal.at.copy_from_slice-requires c).Start)

pub returns : goal.returns
returns c =
    let s = (goal.at.returns c).Start in
    let passes : Passes (checks s) = sym c.in_ok-lay_checked.ensures.refusal in
    gives_done (checks s) (value_of s) c.args.phi.now _ passes (c.copy_from_slice.ensures.after ∙ c.lay_checked.ensures.laid passes)

pub returns-in_err-lay_checked : goal.returns-in_err-lay_checked
returns-in_err-lay_checked c =
    let s = (goal.at.returns-in_err-lay_checked c).Start in
    gives_passed_on (checks s) (value_of s) c.args.phi.now _ _ c.from_residual.ensures.1 (sym c.in_err-lay_checked.ensures.refusal)
