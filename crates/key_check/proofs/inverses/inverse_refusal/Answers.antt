-- `inverse_refusal` meets its contract.
use mathlib.Core.Path.{◌≡◌, refl, sym}
use Prim.Native.Nat.{◌*◌, ◌≤◌}
use native.Mathlib.Omega.{arith}
use lib.IntN.{pos}
use lib.ListN.{length, take, replicate}
use Rattle.parameters.specs.Sets.{set_of}
use Rattle.parameters.proofs.AcceptedParameters.{accepted_parameters}
use Rattle.arrays.proofs.Sizes.{zeros_part}
use Rattle.key_check.proofs.inverses.inverse_refusal.Goals as goal
use Rattle.key_check.proofs.inverses.inverse_refusal.Goals.{Start}

few : (s : Start) → s.args.p.n ≤ 1024
few s = (accepted_parameters (set_of s.args.p) s.requires.accepted).N_small

-- the lent part of the array
part : (s : Start) → length (take (2 * s.args.p.n) (replicate 2048 (pos 0))) ≡ 2 * s.args.p.n
part s = zeros_part s.args.p.n _ (few s) refl

pub slice_bounds-product-end : goal.slice_bounds-product-end
slice_bounds-product-end c = omega (arith, few (goal.at.slice_bounds-product-end c).Start)

pub slice_bounds-inverse_refusal_with-end : goal.slice_bounds-inverse_refusal_with-end
slice_bounds-inverse_refusal_with-end c = sym (part (goal.at.slice_bounds-inverse_refusal_with-end c).Start)

pub inverse_refusal_with-requires : goal.inverse_refusal_with-requires
inverse_refusal_with-requires c = (c.requires, part (goal.at.inverse_refusal_with-requires c).Start)
