-- `head_refusal` meets its contract: each test is the definition's, in its order.
use mathlib.Core.Path.{◌≡◌, sym, ◌∙◌, ap}
use mathlib.Core.Bool.{Bool, not, ◌&&◌}
use mathlib.Core.List.{List, [], ◌∷◌}
use borrow.Author.Tests.{lt-ltb, le-ltb}
use lib.Dec.{ltb, eqb}
use lib.ListN.{length, get_or}
use Rattle.refusals.specs.Outcomes.{Check, ◌if◌, outcome}
use Rattle.refusals.proofs.Checks.{refused_by, passed, fails_refused, none_left}
use Rattle.heads.specs.Kinds.{known_kind}
use Rattle.heads.specs.Heads.{head_length}
use Rattle.head_reading.specs.Calls.{marked, version_one, head_checks}
use Rattle.head_reading.proofs.reading.head_refusal.Goals as goal
use Rattle.head_reading.proofs.reading.head_refusal.Goals.{Start}

-- the tests, and the checks from each of them on
abbrev test_17 : Start → Bool
test_17 s = marked s.args.file.now

abbrev test_18 : Start → Bool
test_18 s = version_one s.args.file.now

abbrev test_19 : Start → Bool
test_19 s = known_kind s.args.kind && eqb (get_or s.args.file.now 5 0) s.args.kind

abbrev from_19 : Start → List Check
from_19 s = 19 if not (test_19 s) ∷ []

abbrev from_18 : Start → List Check
from_18 s = 18 if not (test_18 s) ∷ from_19 s

abbrev from_17 : Start → List Check
from_17 s = 17 if not (test_17 s) ∷ from_18 s

abbrev from_16 : Start → List Check
from_16 s = 16 if ltb (length s.args.file.now) head_length ∷ from_17 s

pub returns-then-file-lt-HEAD_BYTES : goal.returns-then-file-lt-HEAD_BYTES
unfolding head_checks
returns-then-file-lt-HEAD_BYTES c = sym (refused_by 16 (from_17 (goal.at.returns-then-file-lt-HEAD_BYTES c).Start) tt (lt-ltb (length c.args.file.now) head_length c.if-file-lt-HEAD_BYTES.true))

pub returns-then-not-marked_eiz : goal.returns-then-not-marked_eiz
unfolding head_checks
returns-then-not-marked_eiz c =
    let tested_17 : test_17 (goal.at.returns-then-not-marked_eiz c).Start ≡ c.marked_eiz.result = sym c.marked_eiz.ensures in
    let after_16 : outcome (from_16 (goal.at.returns-then-not-marked_eiz c).Start) (tt {0}) ≡ outcome (from_17 (goal.at.returns-then-not-marked_eiz c).Start) (tt {0}) = passed 16 (from_17 (goal.at.returns-then-not-marked_eiz c).Start) tt (le-ltb (length c.args.file.now) head_length c.if-file-lt-HEAD_BYTES.false) in
    sym (after_16 ∙ fails_refused 17 (test_17 (goal.at.returns-then-not-marked_eiz c).Start) (from_18 (goal.at.returns-then-not-marked_eiz c).Start) tt (tested_17 ∙ c.if-not-marked_eiz.true))

pub returns-then-not-version_one : goal.returns-then-not-version_one
unfolding head_checks
returns-then-not-version_one c =
    let tested_18 : test_18 (goal.at.returns-then-not-version_one c).Start ≡ c.version_one.result = sym c.version_one.ensures in
    let tested_17 : test_17 (goal.at.returns-then-not-version_one c).Start ≡ c.marked_eiz.result = sym c.marked_eiz.ensures in
    let after_16 : outcome (from_16 (goal.at.returns-then-not-version_one c).Start) (tt {0}) ≡ outcome (from_17 (goal.at.returns-then-not-version_one c).Start) (tt {0}) = passed 16 (from_17 (goal.at.returns-then-not-version_one c).Start) tt (le-ltb (length c.args.file.now) head_length c.if-file-lt-HEAD_BYTES.false) in
    let after_17 : outcome (from_16 (goal.at.returns-then-not-version_one c).Start) (tt {0}) ≡ outcome (from_18 (goal.at.returns-then-not-version_one c).Start) (tt {0}) = after_16 ∙ passed 17 (from_18 (goal.at.returns-then-not-version_one c).Start) tt (ap not (tested_17 ∙ c.if-not-marked_eiz.false)) in
    sym (after_17 ∙ fails_refused 18 (test_18 (goal.at.returns-then-not-version_one c).Start) (from_19 (goal.at.returns-then-not-version_one c).Start) tt (tested_18 ∙ c.if-not-version_one.true))

pub returns-then-not-kind_wanted : goal.returns-then-not-kind_wanted
unfolding head_checks
returns-then-not-kind_wanted c =
    let tested_19 : test_19 (goal.at.returns-then-not-kind_wanted c).Start ≡ c.kind_wanted.result = sym c.kind_wanted.ensures in
    let tested_18 : test_18 (goal.at.returns-then-not-kind_wanted c).Start ≡ c.version_one.result = sym c.version_one.ensures in
    let tested_17 : test_17 (goal.at.returns-then-not-kind_wanted c).Start ≡ c.marked_eiz.result = sym c.marked_eiz.ensures in
    let after_16 : outcome (from_16 (goal.at.returns-then-not-kind_wanted c).Start) (tt {0}) ≡ outcome (from_17 (goal.at.returns-then-not-kind_wanted c).Start) (tt {0}) = passed 16 (from_17 (goal.at.returns-then-not-kind_wanted c).Start) tt (le-ltb (length c.args.file.now) head_length c.if-file-lt-HEAD_BYTES.false) in
    let after_17 : outcome (from_16 (goal.at.returns-then-not-kind_wanted c).Start) (tt {0}) ≡ outcome (from_18 (goal.at.returns-then-not-kind_wanted c).Start) (tt {0}) = after_16 ∙ passed 17 (from_18 (goal.at.returns-then-not-kind_wanted c).Start) tt (ap not (tested_17 ∙ c.if-not-marked_eiz.false)) in
    let after_18 : outcome (from_16 (goal.at.returns-then-not-kind_wanted c).Start) (tt {0}) ≡ outcome (from_19 (goal.at.returns-then-not-kind_wanted c).Start) (tt {0}) = after_17 ∙ passed 18 (from_19 (goal.at.returns-then-not-kind_wanted c).Start) tt (ap not (tested_18 ∙ c.if-not-version_one.false)) in
    sym (after_18 ∙ fails_refused 19 (test_19 (goal.at.returns-then-not-kind_wanted c).Start) [] tt (tested_19 ∙ c.if-not-kind_wanted.true))

pub returns : goal.returns
unfolding head_checks
returns c =
    let tested_19 : test_19 (goal.at.returns c).Start ≡ c.kind_wanted.result = sym c.kind_wanted.ensures in
    let tested_18 : test_18 (goal.at.returns c).Start ≡ c.version_one.result = sym c.version_one.ensures in
    let tested_17 : test_17 (goal.at.returns c).Start ≡ c.marked_eiz.result = sym c.marked_eiz.ensures in
    let after_16 : outcome (from_16 (goal.at.returns c).Start) (tt {0}) ≡ outcome (from_17 (goal.at.returns c).Start) (tt {0}) = passed 16 (from_17 (goal.at.returns c).Start) tt (le-ltb (length c.args.file.now) head_length c.if-file-lt-HEAD_BYTES.false) in
    let after_17 : outcome (from_16 (goal.at.returns c).Start) (tt {0}) ≡ outcome (from_18 (goal.at.returns c).Start) (tt {0}) = after_16 ∙ passed 17 (from_18 (goal.at.returns c).Start) tt (ap not (tested_17 ∙ c.if-not-marked_eiz.false)) in
    let after_18 : outcome (from_16 (goal.at.returns c).Start) (tt {0}) ≡ outcome (from_19 (goal.at.returns c).Start) (tt {0}) = after_17 ∙ passed 18 (from_19 (goal.at.returns c).Start) tt (ap not (tested_18 ∙ c.if-not-version_one.false)) in
    sym (after_18 ∙ passed 19 [] tt (ap not (tested_19 ∙ c.if-not-kind_wanted.false)) ∙ none_left tt)
