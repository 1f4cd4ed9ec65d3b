-- `write_entries` meets its contract. The loop's invariant: the entries before entry k are written one after another.
use mathlib.Core.Path.{◌≡◌}
use mathlib.Core.List.{◌++◌}
use Prim.Native.Nat.{◌*◌}
use lib.ListN.{take, drop}
use Rattle.bundles.specs.Bundles.{entry_length, entries_bytes}
use Rattle.bundles.specs.Calls.{entries_given}
use Rattle.bundle_writing.proofs.writing.write_entries.Given as goal

abbrev pub invariant-loop-k : goal.invariant-loop-k
invariant-loop-k l = l.out ≡ entries_bytes (take l.k (entries_given l.n l.stops l.numbers)) ++ drop (entry_length l.n * l.k) l.initial.out
