-- `add_six` meets its contract. The loop's invariant: the runs are added to the parts so far.
use mathlib.Core.Path.{◌≡◌, refl, ◌∙◌, ap, subst}
use Prim.Native.Nat.{ℕ, ◌+◌, ◌-◌, ◌≤◌}
use native.Mathlib.Omega.{arith}
use borrow.Rule.Slice.PartMut.{put_mid}
use lib.IntN.{ℤ, pos, ◌+ℤ◌}
use lib.ListN.{length, get_or}
use Rattle.arrays.proofs.Changing.{Changed}
use Rattle.unit_products.specs.Rotations.{six_at}
use Rattle.unit_products.proofs.RotatedSums.{changed_added}
use Rattle.unit_products.proofs.Blocks.{part_long, part_at, part_changed}
use Rattle.unit_products.proofs.rotations.add_six.Goals as goal
use Rattle.unit_products.proofs.rotations.add_six.Goals.{After-add_part}

-- the sums after one part more
so_far : (c : After-add_part) (end : ℕ) → c.min-end.result ≡ end → Changed (λ m i. get_or m i (pos 0)) (λ i. get_or c.args.sums.now i (pos 0) +ℤ six_at c.args.twice.now c.args.starts.now i) c.args.sums.now (put_mid c.loop-from.from (c.min-end.result - c.loop-from.from) c.loop-from.sums c.add_part.new.sums) end
so_far c end e =
    let k : ℕ = c.loop-from.from in
    let m : ℕ = c.min-end.result - k in
    let inside : k + m ≤ length c.loop-from.sums = omega arith in
    let all : k + m ≡ end = omega arith in
    let part = c.add_part.ensures.1 in
    subst (λ (i : ℕ). Changed (λ m i. get_or m i (pos 0)) (λ i. get_or c.args.sums.now i (pos 0) +ℤ six_at c.args.twice.now c.args.starts.now i) c.args.sums.now (put_mid k m c.loop-from.sums c.add_part.new.sums) i) all
    (part_changed k m c.add_part.new.sums c.loop-from.invariant.1 (part.long ∙ part_long k m c.loop-from.sums inside) inside
    (λ j q. part.inside j (omega (arith, part_long k m c.loop-from.sums inside)) ∙ ap (λ (z : ℤ). z +ℤ six_at c.args.twice.now c.args.starts.now (k + j)) (part_at k m c.loop-from.sums inside j q ∙ c.loop-from.invariant.1.old (k + j) (omega arith))))

pub loop-from-preserved : goal.loop-from-preserved
loop-from-preserved c = (c.add_part.ensures.0 ∙ c.loop-from.invariant.0, so_far (goal.at.loop-from-preserved c).After-add_part (c.loop-from.from + 256) (omega arith))

pub returns-2 : goal.returns-2
returns-2 c = (c.add_part.ensures.0 ∙ c.loop-from.invariant.0, changed_added (so_far (goal.at.returns-2 c).After-add_part c.min-end.result refl) (omega arith))
