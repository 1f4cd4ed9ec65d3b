-- `add_rest` meets its contract. The loop's invariant: the rotations by the places so far are added.
use lib.ListN.{get_or}
use Rattle.unit_products.specs.Rotations.{Rotated}
use Rattle.unit_products.proofs.rotations.add_rest.Given as goal

abbrev pub invariant-loop-place : goal.invariant-loop-place
invariant-loop-place l = Rotated l.n l.twice (λ k. get_or l.places k 0) l.place-index l.initial.sums l.sums
