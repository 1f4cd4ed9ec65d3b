-- `array_refusal` meets its contract: each test is the definition's, in its order.
use mathlib.Core.Path.{◌≡◌, sym, ◌∙◌}
use mathlib.Core.Bool.{Bool, not}
use mathlib.Core.List.{List, [], ◌∷◌}
use Prim.Native.Nat.{◌*◌}
use borrow.Author.Tests.{ne_eqb}
use lib.ListN.{length}
use mir.Facts.{yes_eqb}
use Rattle.refusals.specs.Outcomes.{Check, ◌if◌, outcome}
use Rattle.refusals.proofs.Checks.{holds_passed, fails_refused, call_passed, call_refused, none_left}
use Rattle.parameters.specs.Sets.{set_of}
use Rattle.arrays.specs.Arrays.{full}
use Rattle.array_sets.specs.Sets.{in_set, not_in_set, array_checks}
use Rattle.array_sets.proofs.sets.array_refusal.Goals as goal
use Rattle.array_sets.proofs.sets.array_refusal.Goals.{Else-x-p, Start}
use mathlib.Core.Path.{ap}

abbrev test_7 : Start → Bool
test_7 s = full s.args.p.parameters.n (length s.args.x.now)

abbrev from_set : Start → List Check
from_set s = not_in_set s.args.which if not (in_set (set_of s.args.p.parameters) s.args.which s.args.x.now) ∷ []

after_7 : (c : Else-x-p) → outcome (7 if not (test_7 c.before.before) ∷ from_set c.before.before) (tt {0}) ≡ outcome (from_set c.before.before) (tt {0})
after_7 c = holds_passed 7 (test_7 c.before.before) _ tt (yes_eqb c.if-x-p.false)

pub returns-then-x-p : goal.returns-then-x-p
unfolding array_checks
returns-then-x-p c = sym (fails_refused 7 _ _ tt (ne_eqb (length c.args.x.now) (2 * c.args.p.parameters.n) c.if-x-p.true))

pub returns-then-not-in_set : goal.returns-then-not-in_set
unfolding array_checks
returns-then-not-in_set c = c.not_in_set.ensures
    ∙ sym
    (after_7 (goal.at.returns-then-not-in_set c).Else-x-p
    ∙ call_refused (not_in_set c.args.which) _ tt c.in_set.ensures (ap not c.if-not-in_set.true))

pub returns : goal.returns
unfolding array_checks
returns c = sym
    (after_7 (goal.at.returns c).Else-x-p ∙ call_passed (not_in_set c.args.which) _ tt c.in_set.ensures (ap not c.if-not-in_set.false) ∙ none_left tt)
