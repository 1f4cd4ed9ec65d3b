-- `open_short` meets its contract: the parameters, 7 for the output, and then what opening in full asks.
use mathlib.Core.Path.{◌≡◌, sym, ◌∙◌, ap, subst}
use mathlib.Core.Bool.{Bool, true, false, not, ◌&&◌}
use mathlib.Core.List.{List, [], ◌∷◌}
use Prim.Native.Nat.{ℕ}
use lib.Dec.{eqb, eqb→eq}
use lib.IntN.{ℤ}
use lib.ListN.{length}
use Rattle.refusals.proofs.Errors.{err_is}
use Rattle.refusals.specs.Outcomes.{Check, refused, outcome, number, ◌if◌, Passes}
use Rattle.refusals.proofs.Checks.{never_done, done_holds, passed_all, refused_first}
use Rattle.parameters.specs.declared.Parameters.{Parameters}
use Rattle.parameters.specs.Sets.{ParameterSet, set_of, parameter_checks}
use Rattle.parameters.proofs.CheckedAnswers.{checked_passes, checked_refuses}
use Rattle.opened_arrays.specs.Answers.{GivesMessage}
use Rattle.opened_arrays.proofs.Answers.{gives_err}
use Rattle.short_messages.specs.ShortMessages.{longest_short}
use Rattle.short_scheme.specs.Calls.{short_opening_checks, short_opening}
use Rattle.short_opening.proofs.open_short.Goals as goal
use Rattle.short_opening.proofs.open_short.Goals.{Start}

-- 7 for one length is 7 for all
by_length : (n : ℕ) (t r : Bool) (cs : List Check) (a : List ℕ) → outcome (7 if not t ∷ []) (tt {0}) ≡ refused n → outcome (7 if not (t && r) ∷ cs) a ≡ refused n
unfolding outcome
by_length n true r cs a h = absurd (never_done n (tt {0}) (sym h))
by_length n false r cs a h = ap refused (ap number h)

module _ (p : ParameterSet) (f F2 e : List ℤ) (room n : ℕ) where
  set_refused : outcome (parameter_checks p) (tt {0}) ≡ refused n → short_opening p f F2 e room ≡ refused n
  unfolding short_opening
  set_refused h = refused_first (parameter_checks p) _ _ n h

  room_refused : Passes (parameter_checks p) → outcome (7 if not (eqb room (longest_short p.N)) ∷ []) (tt {0}) ≡ refused n → short_opening p f F2 e room ≡ refused n
  unfolding short_opening short_opening_checks
  room_refused passes h = passed_all (parameter_checks p) _ _ passes ∙ by_length n (eqb room (longest_short p.N)) _ _ _ h

-- the test is that of the set that is handed on
by_room : (s : Start) (n k : ℕ) → k ≡ longest_short n → outcome (7 if not (eqb (length s.args.message.now) k) ∷ []) (tt {0}) ≡ outcome (7 if not (eqb (length s.args.message.now) (longest_short n)) ∷ []) (tt {0})
by_room s n k e = ap (λ (k : ℕ). outcome (7 if not (eqb (length s.args.message.now) k) ∷ []) (tt {0})) e

pub open_checked-requires : goal.open_checked-requires
open_checked-requires c =
    let room = length c.args.message.now in
    let n = c.in_ok-p.p.parameters.n in
    let passes = c.in_ok-when.ensures ∙ by_room (goal.at.open_checked-requires c).Start n _ c.longest_short.ensures in
    eqb→eq room (longest_short n) (done_holds 7 (eqb room (longest_short n)) [] _ _ (sym passes)).0

pub returns-in_err-p : goal.returns-in_err-p
returns-in_err-p c =
    gives_err (err_is _ _ c.from_residual.ensures.1)
    (sym (set_refused (set_of c.args.p) c.args.f.now c.args.f2.now c.args.e.now (length c.args.message.now) _ (checked_refuses c.args.p _ c.in_err-p.ensures)))

pub returns-in_err-when : goal.returns-in_err-when
returns-in_err-when c =
    let a = checked_passes c.args.p c.in_ok-p.p.parameters c.in_ok-p.ensures in
    let s = (goal.at.returns-in_err-when c).Start in
    let room = length c.args.message.now in
    let refuses = c.in_err-when.ensures ∙ by_room s c.in_ok-p.p.parameters.n _ c.longest_short.ensures ∙ ap (λ (p : Parameters). outcome (7 if not (eqb room (longest_short p.n)) ∷ []) (tt {0})) a.1 in
    gives_err (err_is _ _ c.from_residual-in_err-when.ensures.1)
    (sym (room_refused (set_of c.args.p) c.args.f.now c.args.f2.now c.args.e.now room _ a.0 (sym refuses)))

pub returns : goal.returns
returns c =
    subst (λ (p : Parameters). GivesMessage (short_opening (set_of p) c.args.f.now c.args.f2.now c.args.e.now (length c.args.message.now)) c.open_checked.result c.args.message.now c.open_checked.new.message)
    (checked_passes c.args.p c.in_ok-p.p.parameters c.in_ok-p.ensures).1
    c.open_checked.ensures
