-- `read_arrays` meets its contract. The loop's invariant: the arrays of the entries before entry k, which stands at the place, are read one after another.
use mathlib.Core.Path.{◌≡◌}
use mathlib.Core.List.{◌++◌}
use Prim.Native.Nat.{◌*◌}
use lib.ListN.{take, drop}
use Rattle.heads.specs.Heads.{head_of}
use Rattle.bundles.specs.Bundles.{numbers_of, entry_start, entries_of}
use Rattle.bundle_reading.proofs.entry_numbers.read_arrays.Given as goal

abbrev pub invariant-loop-k : goal.invariant-loop-k
invariant-loop-k l = (l.at ≡ entry_start (head_of l.file).N l.k) × (l.numbers ≡ numbers_of (take l.k (entries_of l.file)) ++ drop (2 * (head_of l.file).N * l.k) l.initial.numbers)
