-- `read_head` meets its contract: the checks of the head, then those of the parameters.
use mathlib.Core.Path.{◌≡◌, sym, ◌∙◌, ap}
use Rattle.refusals.proofs.Errors.{err_is}
use Rattle.parameters.specs.Sets.{made}
use Rattle.refusals.specs.Outcomes.{outcome, Passes}
use Rattle.refusals.specs.Numbers.{answered}
use Rattle.refusals.proofs.Checks.{passed_all, refused_first}
use Rattle.parameters.specs.Sets.{parameter_checks, parameters}
use Rattle.heads.specs.Heads.{head_of}
use Rattle.head_reading.specs.Calls.{head_checks, reading_head}
use Rattle.head_reading.proofs.HeadChecks.{head_passed}
use Rattle.head_reading.proofs.read_head.Goals as goal

pub head_parameters-requires : goal.head_parameters-requires
unfolding reading_head parameters
head_parameters-requires c =
    let refusal_is : answered c.head_refusal.result ≡ outcome (head_checks c.args.kind c.args.file.now) (tt {0}) = c.head_refusal.ensures in
    let passed : Passes (head_checks c.args.kind c.args.file.now) = sym refusal_is ∙ ap answered c.in_ok-head_refusal.was in
    (head_passed c.args.kind c.args.file.now passed).long

pub returns : goal.returns
unfolding reading_head parameters
returns c =
    let refusal_is : answered c.head_refusal.result ≡ outcome (head_checks c.args.kind c.args.file.now) (tt {0}) = c.head_refusal.ensures in
    let passed : Passes (head_checks c.args.kind c.args.file.now) = sym refusal_is ∙ ap answered c.in_ok-head_refusal.was in
    c.head_parameters.ensures
    ∙ sym (passed_all (head_checks c.args.kind c.args.file.now) (parameter_checks (head_of c.args.file.now)) (head_of c.args.file.now) passed)

pub returns-in_err-head_refusal : goal.returns-in_err-head_refusal
unfolding reading_head parameters
returns-in_err-head_refusal c =
    let refusal_is : answered c.head_refusal.result ≡ outcome (head_checks c.args.kind c.args.file.now) (tt {0}) = c.head_refusal.ensures in
    ap made (err_is _ _ c.from_residual.ensures.1) ∙ sym (refused_first (head_checks c.args.kind c.args.file.now) (parameter_checks (head_of c.args.file.now)) (head_of c.args.file.now) _ (sym refusal_is ∙ ap answered c.in_err-head_refusal.was))
