-- `add_rest` meets its contract. The loop's invariant: the sums are those of the runs so far.
use mathlib.Core.Path.{◌≡◌}
use Prim.Native.Nat.{◌+◌}
use lib.ListN.{length}
use Rattle.class_products.specs.Steps.{Sums}
use Rattle.class_products.proofs.sums.add_rest.Given as goal

abbrev pub invariant-loop-start : goal.invariant-loop-start
invariant-loop-start l = (length l.sums ≡ length l.initial.sums) × Sums l.rows l.starts (l.done + l.start-index) l.sums
