-- What a `?` hands on: the same refusal.
use Rattle.std.specs.Prelude.{◌≡◌, Result, Err}
use Rattle.std.proofs.Common.{◌∙◌, ap, sym, subst, List}
use Rattle.std.specs.Result.{IsErrAnd}
use Rattle.std.proofs.lemmas.Result.{err_from_is_err_and}
use Rattle.refusals.specs.Outcomes.{Check, Outcome, refused, outcome, number, Gives}
use Rattle.refusals.specs.Numbers.{number_of, answered}
use Rattle.refusals.specs.declared.Refusal.{Refusal}
use Rattle.refusals.proofs.Checks.{gives_refused}

-- a `?` returns the refusal itself
pub err_is : {A : Type 0} (r : Result A Refusal) (e : Refusal) → IsErrAnd r (λ y. y ≡ e) → r ≡ Err e
err_is r e h = let p = err_from_is_err_and r h in p.1 ∙ ap Err p.2

pub passed_on : {A : Type 0} (r : Result A Refusal) (e : Refusal) → IsErrAnd r (λ y. y ≡ e) → answered r ≡ refused (number_of e)
passed_on r e h = ap answered (err_is r e h)

pub gives_passed_on : {A B : Type 0} (cs : List Check) (v old : A) (r : Result B Refusal) (e : Refusal) → IsErrAnd r (λ y. y ≡ e) → outcome cs (tt {0}) ≡ refused (number_of e) → Gives (outcome cs v) (number (answered r)) old old
gives_passed_on {A} {B} cs v old r e h o = subst (λ (z : Outcome B). Gives (outcome cs v) (number z) old old) (sym (passed_on r e h)) (gives_refused cs v old (number_of e) o)
