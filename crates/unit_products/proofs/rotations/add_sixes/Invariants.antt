-- `add_sixes` meets its contract. The loop's invariant: the rotations by the places so far are added.
use mathlib.Core.Path.{◌≡◌}
use Prim.Native.Nat.{◌%◌, ◌≤◌}
use lib.ListN.{length, get_or}
use Rattle.unit_products.specs.Rotations.{Rotated}
use Rattle.unit_products.proofs.rotations.add_sixes.Given as goal

abbrev pub invariant-loop-m : goal.invariant-loop-m
invariant-loop-m l = (l.m ≤ length l.places) × (l.m % 6 ≡ 0) × (length l.block ≡ length l.initial.block) × Rotated l.n l.twice (λ k. get_or l.places k 0) l.m l.initial.sums l.sums
