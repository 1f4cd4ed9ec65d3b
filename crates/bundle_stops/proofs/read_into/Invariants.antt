-- `read_into` meets its contract. The loop's invariant: the stops that are read are right.
use mathlib.Core.List.{List}
use Prim.Native.Nat.{ℕ}
use lib.ListN.{get_or}
use Rattle.arrays.proofs.Changing.{Changed}
use Rattle.bundles.specs.Bundles.{stops_of, entries_of}
use Rattle.bundle_stops.proofs.read_into.Given as goal

-- the first k stops are those of the file
abbrev pub Filled : (file stops₀ stops : List ℕ) → ℕ → Type 0
Filled file stops₀ stops k = Changed (λ l i. get_or l i 0) (λ i. get_or (stops_of (entries_of file)) i 0) stops₀ stops k

abbrev pub invariant-loop-k : goal.invariant-loop-k
invariant-loop-k l = Filled l.file l.initial.stops l.stops l.k
