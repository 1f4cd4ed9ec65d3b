-- `arrays_refusal_in` meets its contract. The loop's invariant: the checks that are left are those from entry k on, which stands at the place.
use mathlib.Core.Path.{◌≡◌}
use lib.ListN.{length}
use Rattle.refusals.specs.Outcomes.{outcome}
use Rattle.heads.specs.Heads.{head_of}
use Rattle.bundles.specs.Bundles.{entry_start, entries_of}
use Rattle.bundles.specs.Calls.{arrays_checks}
use Rattle.bundles.proofs.EntryChecks.{from_entry}
use Rattle.bundle_checks.proofs.entry_arrays.arrays_refusal_in.Given as goal

abbrev pub invariant-loop-k : goal.invariant-loop-k
invariant-loop-k l = (length l.x ≡ length l.initial.x) × (l.at ≡ entry_start (head_of l.file).N l.k)
    × (outcome (arrays_checks (head_of l.file) (entries_of l.file)) (tt {0}) ≡ outcome (from_entry (head_of l.file) (entries_of l.file) l.k) (tt {0}))
