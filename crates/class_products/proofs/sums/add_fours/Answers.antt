-- `add_fours` meets its contract. The loop's invariant: the sums are those of the runs so far.
use mathlib.Core.Path.{◌≡◌, refl, ◌∙◌, subst}
use Prim.Native.Nat.{ℕ, ◌+◌, ◌-◌, ◌%◌}
use native.Mathlib.Omega.{arith}
use lib.ListN.{length}
use Rattle.class_products.specs.Steps.{Sums}
use Rattle.class_products.proofs.RunSums.{sums_none, sums_four}
use Rattle.class_products.proofs.sums.add_fours.Goals as goal
use Rattle.class_products.proofs.sums.add_fours.Goals.{After-add_four}

pub loop-m-init : goal.loop-m-init
loop-m-init c = (omega arith, refl, refl, sums_none c.args.rows.now c.args.starts.now c.args.sums.now c.requires.1)

-- the sums after four more
so_far : (c : After-add_four) (end : ℕ) → c.loop-m.m + 4 ≡ end → Sums c.args.rows.now c.args.starts.now end c.add_four.new.sums
so_far c end e =
    subst (λ (k : ℕ). Sums c.args.rows.now c.args.starts.now k c.add_four.new.sums) e
    (sums_four c.args.rows.now c.args.starts.now c.loop-m.m c.from.ensures c.from-in-loop-m.ensures c.from-in-loop-m-2.ensures c.from-in-loop-m-3.ensures c.loop-m.invariant.3 c.add_four.ensures)

pub loop-m-preserved : goal.loop-m-preserved
loop-m-preserved c =
    let m : ℕ = c.loop-m.m in
    let fourth : (m + 4) % 4 ≡ 0 = omega (arith, c.loop-m.invariant.1) in
    (omega arith, fourth, c.add_four.ensures.long ∙ c.loop-m.invariant.2, so_far (goal.at.loop-m-preserved c).After-add_four (c.loop-m.m + 4) refl)

pub returns-2 : goal.returns-2
returns-2 c =
    let count : ℕ = length c.args.starts.now in
    (omega arith, c.add_four.ensures.long ∙ c.loop-m.invariant.2, so_far (goal.at.returns-2 c).After-add_four (count - count % 4) (omega (arith, c.loop-m.invariant.1)))
