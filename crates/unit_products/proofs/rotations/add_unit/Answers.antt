-- `add_unit` meets its contract.
use mathlib.Core.Path.{◌≡◌, ◌∙◌}
use Prim.Native.Nat.{ℕ, ◌-◌, ◌%◌}
use native.Mathlib.Omega.{arith}
use lib.ListN.{length, get_or, take, drop, length-drop}
use lib.Seq.{get_or-take, get_or-drop, length-take-le}
use Rattle.eisenstein.specs.Values.{value}
use Rattle.polynomials.specs.Polynomials.{coefficient}
use Rattle.unit_products.specs.Rotations.{Places, Rotated}
use Rattle.unit_products.proofs.RotatedSums.{rotated_same, unit_summed}
use Rattle.unit_products.proofs.rotations.add_unit.Goals as goal

pub returns : goal.returns
returns c =
    let n : ℕ = c.args.n in
    let twice = c.args.twice.now in
    let places = c.places_of-count.new.places in
    let count : ℕ = c.places_of-count.result in
    let sixes : ℕ = count - count % 6 in
    let listed : Places n (value c.args.u.a c.args.u.b) (coefficient c.args.x.now) places count = c.places_of-count.ensures.1 in
    let long : length (take sixes places) ≡ sixes = length-take-le sixes places (omega (arith, listed.few, c.places_of-count.ensures.0)) in
    let rest_long : length (take (count - sixes) (drop sixes places)) ≡ count - sixes = length-take-le (count - sixes) (drop sixes places) (omega (arith, length-drop sixes places, listed.few, c.places_of-count.ensures.0)) in
    let first : Rotated n twice (λ m. get_or (take sixes places) m 0) sixes c.args.sums.now c.add_sixes.new.sums = rw long at c.add_sixes.ensures.1 in
    let second : Rotated n twice (λ m. get_or (take (count - sixes) (drop sixes places)) m 0) (count - sixes) c.add_sixes.new.sums c.add_rest.new.sums = rw rest_long at c.add_rest.ensures in
    let small = c.requires.1.twice_below in (
      c.places_of-count.ensures.0,
      c.add_sixes.ensures.0,
      unit_summed n twice small places count sixes c.requires.1.N_small listed (omega arith)
          (rotated_same n twice small (λ k p. get_or-take sixes places k 0 p) first)
          (rotated_same n twice small (λ k p. get_or-take (count - sixes) (drop sixes places) k 0 p ∙ get_or-drop sixes places k 0) second),
    )
