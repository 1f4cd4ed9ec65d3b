-- `accepted_key_refusal` meets its contract.
use mathlib.Core.Path.{◌≡◌, refl, sym, ap}
use Prim.Native.Nat.{◌*◌, ◌≤◌}
use native.Mathlib.Omega.{arith}
use lib.IntN.{pos}
use lib.ListN.{length, take, replicate}
use Rattle.refusals.specs.Outcomes.{number}
use Rattle.parameters.specs.Sets.{set_of}
use Rattle.parameters.proofs.AcceptedParameters.{accepted_parameters}
use Rattle.arrays.proofs.Sizes.{zeros_part}
use Rattle.stored_keys.proofs.EarlyRefusals.{too_few}
use Rattle.stored_keys.proofs.accepted_key_refusal.Goals as goal
use Rattle.stored_keys.proofs.accepted_key_refusal.Goals.{Start}

few : (s : Start) → s.args.p.parameters.n ≤ 1024
few s = (accepted_parameters (set_of s.args.p.parameters) s.args.p.passes).N_small

-- the lent part of the array
part : (s : Start) → length (take (2 * s.args.p.parameters.n) (replicate 2048 (pos 0))) ≡ 2 * s.args.p.parameters.n
part s = zeros_part s.args.p.parameters.n _ (few s) refl

pub returns-then-numbers-k : goal.returns-then-numbers-k
returns-then-numbers-k c = sym (ap number (too_few (set_of c.args.p.parameters) c.args.numbers.now c.args.p.passes (omega (arith, c.if-numbers-k.true))))

pub slice_bounds-h-end : goal.slice_bounds-h-end
slice_bounds-h-end c = omega (arith, few (goal.at.slice_bounds-h-end c).Start)

pub slice_bounds-key_refusal_in-end : goal.slice_bounds-key_refusal_in-end
slice_bounds-key_refusal_in-end c = sym (part (goal.at.slice_bounds-key_refusal_in-end c).Start)

pub key_refusal_in-requires : goal.key_refusal_in-requires
key_refusal_in-requires c = (omega (arith, c.if-numbers-k.false), part (goal.at.key_refusal_in-requires c).Start)
