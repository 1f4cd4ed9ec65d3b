-- The loop's invariant: what is refused is what the checks from array k on refuse.
use Rattle.std.proofs.Common.{◌≡◌}
use Rattle.refusals.specs.Outcomes.{outcome}
use Rattle.parameters.specs.Sets.{set_of}
use Rattle.files.specs.Calls.{set_checks}
use Rattle.files.proofs.SetChecks.{from_array}
use Rattle.file_writing.proofs.contents.sets_refusal.Given as goal

abbrev pub invariant-loop-k : goal.invariant-loop-k
invariant-loop-k l = outcome (set_checks (set_of l.p.parameters) l.set-items l.numbers) (tt {0}) ≡ outcome (from_array (set_of l.p.parameters) l.set-items l.numbers l.k) (tt {0})
