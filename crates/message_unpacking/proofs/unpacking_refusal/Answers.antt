-- `unpacking_refusal` meets its contract: each test is the definition's, in its order.
use mathlib.Core.Path.{◌≡◌, sym, ◌∙◌}
use mathlib.Core.Bool.{Bool, not, ◌&&◌}
use mathlib.Core.List.{List, [], ◌∷◌}
use Prim.Native.Nat.{◌*◌}
use borrow.Author.Rules.{rules}
use lib.Dec.{eqb}
use lib.ListN.{length}
use Rattle.refusals.specs.Outcomes.{Check, ◌if◌, outcome}
use Rattle.refusals.proofs.Checks.{refused_by, passed, none_left, call_passed, call_refused}
use Rattle.parameters.specs.Sets.{outside}
use Rattle.polynomials.specs.Polynomials.{coefficient, reduced2}
use Rattle.packing.specs.Messages.{message_bytes}
use Rattle.message_unpacking.specs.Calls.{unpacking_checks}
use Rattle.message_unpacking.proofs.unpacking_refusal.Goals as goal
use Rattle.message_unpacking.proofs.unpacking_refusal.Goals.{Else-not-message_and_array_full, Else-out_of_range, Start}
use mathlib.Core.Path.{ap}

-- the tests, and the checks from each of them on
abbrev test_7 : Start → Bool
test_7 s = eqb s.args.room (message_bytes s.args.n) && eqb (length s.args.m.now) (2 * s.args.n)

abbrev from_11 : Start → List Check
from_11 s = 11 if not (reduced2 s.args.n (coefficient s.args.m.now)) ∷ []

abbrev from_7 : Start → List Check
from_7 s = 7 if not (test_7 s) ∷ from_11 s

abbrev from_1 : Start → List Check
from_1 s = 1 if outside 3 1024 s.args.n ∷ from_7 s

-- the checks that have been passed
after_1 : (c : Else-out_of_range) → outcome (from_1 c.before.before) (tt {0}) ≡ outcome (from_7 c.before.before) (tt {0})
after_1 c = passed 1 _ tt (sym c.out_of_range.ensures ∙ c.if-out_of_range.false)

after_7 : (c : Else-not-message_and_array_full) → outcome (from_1 c.before.before.before.before) (tt {0}) ≡ outcome (from_11 c.before.before.before.before) (tt {0})
after_7 c = after_1 c.before.before ∙ call_passed 7 _ tt c.message_and_array_full.ensures (ap not c.if-not-message_and_array_full.false)

pub returns-then-out_of_range : goal.returns-then-out_of_range
unfolding unpacking_checks
returns-then-out_of_range c = sym (refused_by 1 _ tt (sym c.out_of_range.ensures ∙ c.if-out_of_range.true))

pub returns-then-not-message_and_array_full : goal.returns-then-not-message_and_array_full
unfolding unpacking_checks
returns-then-not-message_and_array_full c = sym (after_1 (goal.at.returns-then-not-message_and_array_full c).Else-out_of_range ∙ call_refused 7 _ tt c.message_and_array_full.ensures (ap not c.if-not-message_and_array_full.true))

pub returns-then-not-reduced_modulo_2 : goal.returns-then-not-reduced_modulo_2
unfolding unpacking_checks
returns-then-not-reduced_modulo_2 c = sym (after_7 (goal.at.returns-then-not-reduced_modulo_2 c).Else-not-message_and_array_full ∙ call_refused 11 _ tt c.reduced_modulo_2.ensures (ap not c.if-not-reduced_modulo_2.true))

pub returns : goal.returns
unfolding unpacking_checks
returns c = sym (after_7 (goal.at.returns c).Else-not-message_and_array_full ∙ call_passed 11 _ tt c.reduced_modulo_2.ensures (ap not c.if-not-reduced_modulo_2.false) ∙ none_left tt)
