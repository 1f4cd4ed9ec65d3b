-- `starts_of` meets its contract. The loop's invariant: the runs that the classes so far bring are listed.
use mathlib.Core.Path.{◌≡◌}
use Prim.Native.Nat.{◌≤◌}
use lib.ListN.{length, get_or}
use Rattle.class_products.specs.Steps.{Starts}
use Rattle.class_products.proofs.starts.starts_of.Given as goal

abbrev pub invariant-loop-j : goal.invariant-loop-j
invariant-loop-j l = (l.count ≤ l.j) × (length l.starts ≡ length l.initial.starts) × Starts (length l.classes) l.j (λ m. get_or l.classes m 0) l.starts l.count
