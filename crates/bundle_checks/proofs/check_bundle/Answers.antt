-- `check_bundle` meets its contract: the head, the count and the length, then the entries.
use mathlib.Core.Path.{sym, ◌∙◌, ap}
use mathlib.Core.List.{List}
use Prim.Native.Nat.{ℕ}
use Rattle.refusals.proofs.Errors.{err_is}
use Rattle.refusals.specs.Outcomes.{Check, done}
use Rattle.refusals.proofs.Checks.{passed_all, refused_first, done_with, refused_with}
use Rattle.parameters.specs.Sets.{made}
use Rattle.heads.specs.Heads.{head_of}
use Rattle.bundles.specs.Bundles.{entries_of}
use Rattle.bundles.specs.Calls.{count_checks, entries_checks, bundle_checks, reading_parameters}
use Rattle.bundles.proofs.MadeParameters.{made_accepted, made_refused}
use Rattle.bundle_checks.proofs.check_bundle.Goals as goal

abbrev entries : List ℕ → List Check
entries file = entries_checks (head_of file) (entries_of file)

pub returns-in_err-p : goal.returns-in_err-p
unfolding bundle_checks reading_parameters
returns-in_err-p c =
    let file = c.args.file.now in
    ap made (err_is _ _ c.from_residual.ensures.1)
    ∙ sym (refused_first (count_checks file) (entries file) (head_of file) _ (made_refused (count_checks file) (head_of file) c.in_err-p.field-0.0 c.in_err-p.ensures))

pub entries_refusal-requires : goal.entries_refusal-requires
unfolding reading_parameters
entries_refusal-requires c =
    let file = c.args.file.now in
    let accepted = made_accepted (count_checks file) (head_of file) c.in_ok-p.p c.in_ok-p.ensures in
    (sym accepted.1, accepted.0)

pub returns-in_err-entries_refusal : goal.returns-in_err-entries_refusal
unfolding bundle_checks reading_parameters
returns-in_err-entries_refusal c =
    let file = c.args.file.now in
    let accepted = made_accepted (count_checks file) (head_of file) c.in_ok-p.p c.in_ok-p.ensures in
    ap made (err_is _ _ c.from_residual-in_err-entries_refusal.ensures.1)
    ∙ sym (passed_all (count_checks file) (entries file) (head_of file) accepted.0 ∙ refused_with (entries file) (head_of file) _ (sym c.in_err-entries_refusal.ensures))

pub returns : goal.returns
unfolding bundle_checks reading_parameters
returns c =
    let file = c.args.file.now in
    let accepted = made_accepted (count_checks file) (head_of file) c.in_ok-p.p c.in_ok-p.ensures in
    ap done (sym accepted.1)
    ∙ sym (passed_all (count_checks file) (entries file) (head_of file) accepted.0 ∙ done_with (entries file) (head_of file) (sym c.in_ok-entries_refusal.ensures))
