-- `lengths_right` meets its contract.
use mathlib.Core.Path.{◌≡◌, sym, ◌∙◌, subst}
use mathlib.Core.Bool.{true}
use Prim.Native.Nat.{◌*◌, ◌^◌, ◌≤◌}
use native.Mathlib.Omega.{arith}
use native.Mathlib.Nat.{mul-le-mul}
use lib.Dec.{T}
use Rattle.bundles.specs.Calls.{right_length}
use Rattle.bundles.proofs.Lengths.{right, entries_long}
use Rattle.bundle_writing.proofs.lengths.lengths_right.Goals as goal
use Rattle.bundle_writing.proofs.lengths.lengths_right.Goals.{Then-right_length}

right_length_lem : (c : Then-right_length) → right_length c.args.n c.args.stops c.args.room ≡ true
right_length_lem c = sym c.right_length.ensures ∙ c.if-right_length.true

-- no more stops than a bundle has bytes
fits : (c : Then-right_length) → 2 * c.args.n * c.args.stops ≤ 2 * 2 ^ 32 * 65536
fits c =
    let r = right c.args.n c.args.stops c.args.room (subst T (sym (right_length_lem c)) tt) in
    let wide : 2 * c.args.n ≤ 2 * 2 ^ 32 = omega arith in
    let few : c.args.stops ≤ 65536 = omega (arith, r.is, r.short, entries_long c.args.n c.args.stops) in
    mul-le-mul wide few

pub overflow_mul-result-then-right_length : goal.overflow_mul-result-then-right_length
overflow_mul-result-then-right_length c = omega (arith, fits c)
