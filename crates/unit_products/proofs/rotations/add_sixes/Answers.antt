-- `add_sixes` meets its contract. The loop's invariant: the rotations by the places so far are added.
use mathlib.Core.Path.{◌≡◌, refl, ◌∙◌, subst}
use native.Mathlib.Omega.{arith}
use Prim.Native.Nat.{ℕ, ◌+◌, ◌%◌}
use lib.ListN.{length, get_or}
use Rattle.unit_products.specs.Rotations.{Rotated}
use Rattle.unit_products.proofs.RotatedSums.{none_summed, six_summed}
use Rattle.unit_products.proofs.rotations.add_sixes.Goals as goal
use Rattle.unit_products.proofs.rotations.add_sixes.Goals.{After-add_six}

pub loop-m-init : goal.loop-m-init
loop-m-init c = (omega arith, refl, refl, none_summed c.args.n c.args.twice.now c.requires.0.twice_below (λ k. get_or c.args.places.now k 0) 0 c.args.sums.now refl)

-- the sums after six more
so_far : (c : After-add_six) (end : ℕ) → c.loop-m.m + 6 ≡ end → Rotated c.args.n c.args.twice.now (λ k. get_or c.args.places.now k 0) end c.args.sums.now c.add_six.new.sums
so_far c end e =
    subst (λ (k : ℕ). Rotated c.args.n c.args.twice.now (λ k. get_or c.args.places.now k 0) k c.args.sums.now c.add_six.new.sums) e
    (six_summed c.args.n c.args.twice.now c.requires.0.twice_below (λ k. get_or c.args.places.now k 0) c.loop-m.m c.args.sums.now c.loop-m.sums c.add_six.new.sums c.requires.0.long c.loop-m.invariant.3
    (rw (c.start.ensures, c.start-in-loop-m.ensures, c.start-in-loop-m-2.ensures, c.start-in-loop-m-3.ensures, c.start-in-loop-m-4.ensures, c.start-in-loop-m-5.ensures) at c.add_six.ensures.1))

pub loop-m-preserved : goal.loop-m-preserved
loop-m-preserved c =
    let m : ℕ = c.loop-m.m in
    let sixth : (m + 6) % 6 ≡ 0 = omega (arith, c.loop-m.invariant.1) in
    (omega arith, sixth, c.add_six.ensures.0 ∙ c.loop-m.invariant.2, so_far (goal.at.loop-m-preserved c).After-add_six (c.loop-m.m + 6) refl)

pub returns : goal.returns
returns c = (c.loop-m.invariant.2, subst (λ (k : ℕ). Rotated c.args.n c.args.twice.now (λ k. get_or c.args.places.now k 0) k c.args.sums.now c.loop-m.sums) (omega arith) c.loop-m.invariant.3)

pub returns-2 : goal.returns-2
returns-2 c = (c.add_six.ensures.0 ∙ c.loop-m.invariant.2, so_far (goal.at.returns-2 c).After-add_six (length c.args.places.now) (omega (arith, c.requires.2, c.loop-m.invariant.1)))
