-- `writing_refusal` meets its contract: the parameter set's checks, then the room.
use mathlib.Core.Path.{◌≡◌, sym, ◌∙◌, ap}
use mathlib.Core.List.{List, [], ◌∷◌, ◌++◌}
use borrow.Author.Tests.{lt-ltb, le-ltb}
use lib.Dec.{ltb}
use Rattle.refusals.proofs.Errors.{err_is}
use Rattle.refusals.specs.Outcomes.{Check, ◌if◌, outcome, done}
use Rattle.refusals.proofs.Checks.{refused_by, passed, none_left, passed_all, refused_first}
use Rattle.parameters.specs.declared.Parameters.{Parameters}
use Rattle.parameters.specs.Checked.{checked}
use Rattle.parameters.specs.Sets.{ParameterSet, set_of, parameter_checks}
use Rattle.parameters.proofs.CheckedAnswers.{checked_passes, checked_refuses}
use Rattle.heads.specs.Heads.{head_length}
use Rattle.head_writing.proofs.writing.writing_refusal.Goals as goal
use Rattle.head_writing.proofs.writing.writing_refusal.Goals.{Start}

abbrev P : Start → ParameterSet
P s = set_of s.args.p

abbrev room : Start → List Check
room s = 7 if ltb s.args.room head_length ∷ []

-- an accepted set leaves the room's check
after_parameters : (s : Start) {q : Parameters} → done q ≡ outcome (parameter_checks (P s)) s.args.p → outcome (parameter_checks (P s) ++ room s) s.args.p ≡ outcome (room s) s.args.p
after_parameters s {q = q} e = passed_all (parameter_checks (P s)) (room s) s.args.p (checked_passes s.args.p q e).0

pub returns-in_err-p : goal.returns-in_err-p
returns-in_err-p c =
    let s = (goal.at.returns-in_err-p c).Start in
    ap checked (err_is _ _ c.from_residual.ensures.1) ∙ sym (refused_first (parameter_checks (P s)) (room s) c.args.p _ (checked_refuses c.args.p _ c.in_err-p.ensures))

pub returns-then-room-lt-HEAD_BYTES : goal.returns-then-room-lt-HEAD_BYTES
returns-then-room-lt-HEAD_BYTES c =
    let s = (goal.at.returns-then-room-lt-HEAD_BYTES c).Start in
    sym (after_parameters s c.in_ok-p.ensures ∙ refused_by 7 [] c.args.p (lt-ltb _ head_length c.if-room-lt-HEAD_BYTES.true))

pub returns : goal.returns
returns c =
    let s = (goal.at.returns c).Start in
    ap done (checked_passes c.args.p c.in_ok-p.p.parameters c.in_ok-p.ensures).1
    ∙ sym (after_parameters s c.in_ok-p.ensures ∙ passed 7 [] c.args.p (le-ltb _ head_length c.if-room-lt-HEAD_BYTES.false) ∙ none_left c.args.p)
