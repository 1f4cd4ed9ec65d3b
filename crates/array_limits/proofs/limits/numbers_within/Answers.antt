-- `numbers_within` meets its contract. The loop's invariant: whether every number so far is within the limit.
use mathlib.Core.Path.{◌≡◌, ◌∙◌, ap, ap₂}
use mathlib.Core.Bool.{not}
use Prim.Native.Nat.{ℕ}
use native.Mathlib.Omega.{arith}
use borrow.Author.Rules.{rules}
use lib.Dec.{ltb}
use lib.IntN.{ℤ, pos, nat_abs}
use lib.ListN.{length, get_or}
use mir.Syntax.{w32}
use mir.Val.{to_z, of_z}
use mir.Facts.{to_z-of_z}
use Rattle.polynomials.specs.Polynomials.{all}
use Rattle.arrays.specs.Arrays.{all_within}
use Rattle.arrays.proofs.Scans.{every_none, every_more}
use Rattle.array_limits.proofs.limits.numbers_within.Goals as goal
use Rattle.array_limits.proofs.limits.numbers_within.Invariants.{test}

pub loop-z-init : goal.loop-z-init
loop-z-init c = every_none (test (nat_abs (to_z w32 (of_z w32 c.args.limit))) c.args.x.now)

pub loop-z-preserved : goal.loop-z-preserved
loop-z-preserved c =
    let b : ℕ = nat_abs (to_z w32 (of_z w32 c.args.limit)) in
    let k : ℕ = c.loop-z.z-index in
    every_more (test b c.args.x.now) k c.loop-z.invariant (ap not (c.is_beyond.ensures ∙ ap (λ (z : ℤ). ltb b (nat_abs z)) (to_z-of_z {w = w32} {z = get_or c.args.x.now k (pos 0)} (search rules))))

pub returns : goal.returns
unfolding all_within
returns c =
    let e : c.loop-z.z-index ≡ length c.args.x.now = omega arith in
    c.loop-z.invariant ∙ ap₂ (λ (k : ℕ) (z : ℤ). all k (test (nat_abs z) c.args.x.now)) e (to_z-of_z c.ranges.limit)
