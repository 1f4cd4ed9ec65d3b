-- `entries_refusal` meets its contract: 25, then the arrays.
use mathlib.Core.Path.{sym, ◌∙◌}
use Rattle.refusals.proofs.Checks.{passed, refused_by}
use Rattle.heads.specs.Heads.{head_of}
use Rattle.bundles.specs.Bundles.{entries_of}
use Rattle.bundles.specs.Calls.{arrays_checks, entries_checks}
use Rattle.bundle_checks.proofs.entries_refusal.Goals as goal

pub returns-then-any_stop_twice : goal.returns-then-any_stop_twice
unfolding entries_checks
returns-then-any_stop_twice c = sym (refused_by 25 _ tt (sym c.any_stop_twice.ensures ∙ c.if-any_stop_twice.true))

pub returns : goal.returns
unfolding entries_checks
returns c = let file = c.args.file.now in
    c.arrays_refusal.ensures ∙ sym (passed 25 (arrays_checks (head_of file) (entries_of file)) tt (sym c.any_stop_twice.ensures ∙ c.if-any_stop_twice.false))
