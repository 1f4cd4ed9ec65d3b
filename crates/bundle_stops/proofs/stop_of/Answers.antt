-- `stop_of` meets its contract.
use mathlib.Core.Path.{◌∙◌, ap}
use Prim.Native.Nat.{ℕ, ◌+◌, ◌*◌, ◌≤◌}
use native.Mathlib.Omega.{arith}
use native.Mathlib.Nat.{mul-le-mul}
use Rattle.bundles.specs.Bundles.{entry_length, entry_start, stop_in}
use Rattle.bundles.proofs.Lengths.{entry_length_lem}
use Rattle.bundle_stops.proofs.stop_of.Goals as goal

pub overflow_mul-width : goal.overflow_mul-width
unfolding entry_start
overflow_mul-width c =
    let small : c.entry_length-width.result * c.args.k ≤ (2 + 4 * 65535) * 65535 = let n = c.coefficient_count in
    let short : c.entry_length-width.result ≤ 2 + 4 * 65535 = omega (arith, c.entry_length-width.ensures, entry_length_lem n.result, n.ensures.1) in
    let few : c.args.k ≤ 65535 = omega (arith, c.requires) in
    mul-le-mul short few in
    omega (arith, small)

pub overflow_add-width : goal.overflow_add-width
unfolding entry_start
overflow_add-width c =
    let small : c.entry_length-width.result * c.args.k ≤ (2 + 4 * 65535) * 65535 = let n = c.coefficient_count in
    let short : c.entry_length-width.result ≤ 2 + 4 * 65535 = omega (arith, c.entry_length-width.ensures, entry_length_lem n.result, n.ensures.1) in
    let few : c.args.k ≤ 65535 = omega (arith, c.requires) in
    mul-le-mul short few in
    omega (arith, small)

pub returns : goal.returns
unfolding entry_start
returns c = (c.stop_in.ensures.0 ∙ ap (λ (l : ℕ). stop_in c.args.file.now (18 + l * c.args.k)) (c.entry_length-width.ensures ∙ ap entry_length c.coefficient_count.ensures.0), c.stop_in.ensures.1)
