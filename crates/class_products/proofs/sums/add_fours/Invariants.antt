-- `add_fours` meets its contract. The loop's invariant: the sums are those of the runs so far.
use mathlib.Core.Path.{◌≡◌}
use Prim.Native.Nat.{◌%◌, ◌≤◌}
use lib.ListN.{length}
use Rattle.class_products.specs.Steps.{Sums}
use Rattle.class_products.proofs.sums.add_fours.Given as goal

abbrev pub invariant-loop-m : goal.invariant-loop-m
invariant-loop-m l = (l.m ≤ l.fours) × (l.m % 4 ≡ 0) × (length l.sums ≡ length l.initial.sums) × Sums l.rows l.starts l.m l.sums
