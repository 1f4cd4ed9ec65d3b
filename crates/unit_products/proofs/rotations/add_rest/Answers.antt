-- `add_rest` meets its contract. The loop's invariant: the rotations by the places so far are added.
use mathlib.Core.Path.{refl, ◌∙◌, ap}
use Prim.Native.Nat.{ℕ, ◌+◌, ◌-◌, ◌≤◌}
use native.Mathlib.Omega.{arith}
use lib.IntN.{pos}
use lib.ListN.{length, get_or, take, drop}
use Rattle.unit_products.specs.Rotations.{Added}
use Rattle.unit_products.proofs.RotatedSums.{none_summed, one_summed}
use Rattle.unit_products.proofs.Blocks.{part_at, added_same}
use Rattle.unit_products.proofs.rotations.add_rest.Goals as goal

pub loop-place-init : goal.loop-place-init
loop-place-init c = none_summed c.args.n c.args.twice.now c.requires.0.twice_below (λ m. get_or c.args.places.now m 0) 0 c.args.sums.now refl

pub loop-place-preserved : goal.loop-place-preserved
loop-place-preserved c =
    let m : ℕ = c.loop-place.place-index in
    let t = c.args.twice.now in
    let a : ℕ = c.start.result in
    let rest : ℕ = length t - a in
    let inside : a + rest ≤ length t = omega (arith, c.requires.0.twice_long) in
    let added : Added (λ k. get_or (take rest (drop a t)) k (pos 0)) c.loop-place.sums c.add_run.new.sums = c.add_run.ensures in
    one_summed c.args.n t c.requires.0.twice_below (λ m. get_or c.args.places.now m 0) m (m + 1) c.args.sums.now c.loop-place.sums c.add_run.new.sums c.requires.0.long refl c.loop-place.invariant
    (added_same (λ k p. part_at a rest t inside k (omega (arith, c.requires.0.twice_long, c.requires.0.long)) ∙ ap (λ (a : ℕ). get_or t (a + k) (pos 0)) c.start.ensures) added)
