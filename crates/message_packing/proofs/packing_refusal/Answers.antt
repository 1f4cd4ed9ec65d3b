-- `packing_refusal` meets its contract: each test is the definition's, in its order.
use mathlib.Core.Path.{◌≡◌, sym, ◌∙◌}
use mathlib.Core.Bool.{Bool, not, ◌&&◌}
use mathlib.Core.List.{List, [], ◌∷◌}
use Prim.Native.Nat.{◌*◌}
use borrow.Author.Rules.{rules}
use lib.Dec.{eqb}
use lib.ListN.{length}
use Rattle.refusals.specs.Outcomes.{Check, ◌if◌, outcome}
use Rattle.refusals.proofs.Checks.{refused_by, passed, none_left, call_passed, call_refused}
use Rattle.parameters.specs.Sets.{outside}
use Rattle.packing.specs.Messages.{message_bytes, spare_bit_set}
use Rattle.message_packing.specs.Calls.{packing_checks}
use Rattle.message_packing.proofs.packing_refusal.Goals as goal
use Rattle.message_packing.proofs.packing_refusal.Goals.{Start}
use mathlib.Core.Path.{ap}

-- the tests, and the checks from each of them on
abbrev test_7 : Start → Bool
test_7 s = eqb (length s.args.message.now) (message_bytes s.args.n) && eqb s.args.room (2 * s.args.n)

abbrev from_15 : Start → List Check
from_15 s = 15 if spare_bit_set s.args.n s.args.message.now ∷ []

abbrev from_7 : Start → List Check
from_7 s = 7 if not (test_7 s) ∷ from_15 s

abbrev from_1 : Start → List Check
from_1 s = 1 if outside 3 1024 s.args.n ∷ from_7 s

pub returns-then-out_of_range : goal.returns-then-out_of_range
unfolding packing_checks
returns-then-out_of_range c = sym (refused_by 1 _ tt (sym c.out_of_range.ensures ∙ c.if-out_of_range.true))

pub returns-then-not-message_and_array_full : goal.returns-then-not-message_and_array_full
unfolding packing_checks
returns-then-not-message_and_array_full c =
    let after_1 : outcome (from_1 (goal.at.returns-then-not-message_and_array_full c).Start) (tt {0}) ≡ outcome (from_7 (goal.at.returns-then-not-message_and_array_full c).Start) (tt {0}) = passed 1 _ tt (sym c.out_of_range.ensures ∙ c.if-out_of_range.false) in
    sym (after_1 ∙ call_refused 7 _ tt c.message_and_array_full.ensures (ap not c.if-not-message_and_array_full.true))

pub returns-then-spare_bit_set : goal.returns-then-spare_bit_set
unfolding packing_checks
returns-then-spare_bit_set c =
    let after_1 : outcome (from_1 (goal.at.returns-then-spare_bit_set c).Start) (tt {0}) ≡ outcome (from_7 (goal.at.returns-then-spare_bit_set c).Start) (tt {0}) = passed 1 _ tt (sym c.out_of_range.ensures ∙ c.if-out_of_range.false) in
    let after_7 : outcome (from_1 (goal.at.returns-then-spare_bit_set c).Start) (tt {0}) ≡ outcome (from_15 (goal.at.returns-then-spare_bit_set c).Start) (tt {0}) = after_1 ∙ call_passed 7 _ tt c.message_and_array_full.ensures (ap not c.if-not-message_and_array_full.false) in
    sym (after_7 ∙ refused_by 15 _ tt (sym c.spare_bit_set.ensures ∙ c.if-spare_bit_set.true))

pub returns : goal.returns
unfolding packing_checks
returns c =
    let after_1 : outcome (from_1 (goal.at.returns c).Start) (tt {0}) ≡ outcome (from_7 (goal.at.returns c).Start) (tt {0}) = passed 1 _ tt (sym c.out_of_range.ensures ∙ c.if-out_of_range.false) in
    let after_7 : outcome (from_1 (goal.at.returns c).Start) (tt {0}) ≡ outcome (from_15 (goal.at.returns c).Start) (tt {0}) = after_1 ∙ call_passed 7 _ tt c.message_and_array_full.ensures (ap not c.if-not-message_and_array_full.false) in
    sym (after_7 ∙ passed 15 _ tt (sym c.spare_bit_set.ensures ∙ c.if-spare_bit_set.false) ∙ none_left tt)
