-- `arrays_refusal` meets its contract.
use mathlib.Core.Path.{◌≡◌, refl, sym, subst}
use Prim.Native.Nat.{◌*◌, ◌≤◌}
use native.Mathlib.Omega.{arith}
use lib.IntN.{pos}
use lib.ListN.{length, take, replicate}
use Rattle.refusals.specs.Outcomes.{Passes}
use Rattle.parameters.specs.Sets.{ParameterSet, set_of, parameter_checks}
use Rattle.parameters.proofs.AcceptedParameters.{accepted_parameters}
use Rattle.arrays.proofs.Sizes.{zeros_part}
use Rattle.bundles.proofs.Counted.{counted}
use Rattle.bundle_checks.proofs.entry_arrays.arrays_refusal.Goals as goal
use Rattle.bundle_checks.proofs.entry_arrays.arrays_refusal.Goals.{Start}

few : (s : Start) → s.args.p.n ≤ 1024
few s = (accepted_parameters (set_of s.args.p) (subst (λ (p : ParameterSet). Passes (parameter_checks p)) (sym s.requires.0) (counted s.args.file.now s.requires.1).accepted)).N_small

pub slice_bounds-x-end : goal.slice_bounds-x-end
slice_bounds-x-end c = omega (arith, few (goal.at.slice_bounds-x-end c).Start)

pub slice_bounds-arrays_refusal_in-end : goal.slice_bounds-arrays_refusal_in-end
slice_bounds-arrays_refusal_in-end c =
    let part : let n = c.args.p.n in length (take (2 * n) (replicate 2048 (pos 0))) ≡ 2 * n = zeros_part c.args.p.n _ (few (goal.at.slice_bounds-arrays_refusal_in-end c).Start) refl in
    sym part

pub arrays_refusal_in-requires : goal.arrays_refusal_in-requires
arrays_refusal_in-requires c =
    let part : let n = c.args.p.n in length (take (2 * n) (replicate 2048 (pos 0))) ≡ 2 * n = zeros_part c.args.p.n _ (few (goal.at.arrays_refusal_in-requires c).Start) refl in
    (c.requires.0, c.requires.1, part)
