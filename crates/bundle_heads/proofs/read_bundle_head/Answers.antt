-- `read_bundle_head` meets its contract: the head and its parameters, then 7.
use mathlib.Core.Path.{◌≡◌, sym, ◌∙◌, ap}
use mathlib.Core.Bool.{Bool, not}
use mathlib.Core.List.{List, [], ◌∷◌}
use Prim.Native.Nat.{ℕ}
use lib.ListN.{length}
use Rattle.refusals.proofs.Errors.{err_is}
use Rattle.refusals.specs.Outcomes.{Check, outcome, ◌if◌}
use Rattle.refusals.proofs.Checks.{passed_all, refused_first, call_passed, call_refused, none_left}
use Rattle.parameters.specs.Sets.{ParameterSet, made}
use Rattle.heads.specs.Heads.{head_of}
use Rattle.head_reading.specs.Calls.{reading_head}
use Rattle.bundles.specs.Bundles.{count_of}
use Rattle.bundles.specs.Calls.{right_length, bundle_head_checks, count_checks, reading_parameters}
use Rattle.bundles.proofs.MadeParameters.{made_accepted, made_refused}
use Rattle.bundle_heads.proofs.read_bundle_head.Goals as goal

-- 7 with the parameters p
abbrev length_check : List ℕ → ParameterSet → List Check
length_check file p = 7 if not (right_length p.N (count_of file) (length file)) ∷ []

-- 7 is asked with the parameters that were read
abbrev tested : {t : Bool} (file : List ℕ) (n count : ℕ) → t ≡ right_length n count (length file) → count ≡ count_of file → t ≡ right_length n (count_of file) (length file)
tested file n count e f = e ∙ ap (λ (k : ℕ). right_length n k (length file)) f

pub returns-then-not-right_length : goal.returns-then-not-right_length
unfolding reading_parameters count_checks reading_head
returns-then-not-right_length c =
    let file = c.args.file.now in
    let p = c.in_ok-p.p in
    let k = made_accepted (bundle_head_checks file) (head_of file) p c.in_ok-p.ensures in
    sym
    (passed_all (bundle_head_checks file) (length_check file (head_of file)) (head_of file) k.0
    ∙ ap (λ (q : ParameterSet). outcome (length_check file q) q) k.1
    ∙ call_refused 7 [] _ (tested file p.n _ c.right_length.ensures c.entry_count.ensures.0) (ap not c.if-not-right_length.true))

pub returns : goal.returns
unfolding reading_parameters count_checks reading_head
returns c =
    let file = c.args.file.now in
    let p = c.in_ok-p.p in
    let k = made_accepted (bundle_head_checks file) (head_of file) p c.in_ok-p.ensures in
    sym
    (passed_all (bundle_head_checks file) (length_check file (head_of file)) (head_of file) k.0
    ∙ ap (λ (q : ParameterSet). outcome (length_check file q) q) k.1
    ∙ call_passed 7 [] _ (tested file p.n _ c.right_length.ensures c.entry_count.ensures.0) (ap not c.if-not-right_length.false) ∙ none_left _)

pub returns-in_err-p : goal.returns-in_err-p
unfolding reading_parameters count_checks reading_head
returns-in_err-p c =
    let file = c.args.file.now in
    ap made (err_is _ _ c.from_residual.ensures.1) ∙ sym (refused_first (bundle_head_checks file) (length_check file (head_of file)) (head_of file) _ (made_refused (bundle_head_checks file) (head_of file) c.in_err-p.field-0.0 c.in_err-p.ensures))
