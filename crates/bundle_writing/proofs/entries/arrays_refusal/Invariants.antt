-- `arrays_refusal` meets its contract. The loop's invariant: what is refused is what the checks from entry k on refuse.
use mathlib.Core.Path.{◌≡◌}
use Rattle.refusals.specs.Outcomes.{outcome}
use Rattle.parameters.specs.Sets.{set_of}
use Rattle.bundles.specs.Calls.{arrays_checks, entries_given}
use Rattle.bundles.proofs.EntryChecks.{from_entry}
use Rattle.bundle_writing.proofs.entries.arrays_refusal.Given as goal

abbrev pub invariant-loop-k : goal.invariant-loop-k
invariant-loop-k l = outcome (arrays_checks (set_of l.p.parameters) (entries_given l.p.parameters.n l.stops l.numbers)) (tt {0}) ≡ outcome (from_entry (set_of l.p.parameters) (entries_given l.p.parameters.n l.stops l.numbers) l.k) (tt {0})
