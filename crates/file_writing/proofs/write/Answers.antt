-- `write` meets its contract: the kind, the parameter set's checks, then those of the content.
use mathlib.Core.Path.{refl, sym, ◌∙◌, ap}
use mathlib.Core.List.{List}
use Prim.Native.Nat.{ℕ}
use lib.ListN.{length}
use Rattle.refusals.proofs.Errors.{passed_on}
use Rattle.refusals.specs.Outcomes.{number}
use Rattle.refusals.specs.Outcomes.{Check, outcome}
use Rattle.refusals.proofs.Checks.{passed_all, refused_first, gives_same}
use Rattle.parameters.specs.declared.Parameters.{Parameters}
use Rattle.parameters.specs.Sets.{ParameterSet, set_of, parameter_checks}
use Rattle.parameters.proofs.CheckedAnswers.{checked_passes, checked_refuses}
use Rattle.files.specs.Files.{file_of}
use Rattle.files.specs.Calls.{given_checks}
use Rattle.files.proofs.Passed.{kind_refused, kind_passed}
use Rattle.refusals.specs.Numbers.{number_of}
use Rattle.refusals.specs.Outcomes.{refused}
use Rattle.heads.specs.declared.kinds.Kind.{Kind}
use Rattle.heads.specs.Kinds.{number_of_kind}
use Rattle.file_writing.proofs.write.Goals as goal
use Rattle.file_writing.proofs.write.Goals.{Start}

abbrev P : Start → ParameterSet
P s = set_of s.args.p

abbrev value_of : Start → Kind → Parameters → List ℕ
value_of s kind p = file_of (number_of_kind kind) (set_of p) s.args.numbers.now

abbrev content : Start → Kind → Parameters → List Check
content s kind p = given_checks (number_of_kind kind) (set_of p) s.args.numbers.now (length s.args.file.now)

pub returns-in_err-kind : goal.returns-in_err-kind
returns-in_err-kind c =
    gives_same c.args.file.now (kind_refused (set_of c.args.p) c.args.numbers.now (length c.args.file.now) c.args.kind c.in_err-kind.ensures.1)
    (ap number (passed_on _ _ c.from_residual.ensures.1 ∙ ap (λ r. refused (number_of r)) c.in_err-kind.ensures.0), refl)

pub returns : goal.returns
returns c =
    let s = (goal.at.returns c).Start in
    let kind : Kind = c.in_ok-kind.kind in
    let a = checked_passes c.args.p c.in_ok-p.p.parameters c.in_ok-p.ensures in
    gives_same c.args.file.now
    (kind_passed (P s) c.args.numbers.now (length c.args.file.now) kind c.in_ok-kind.ensures
    ∙ passed_all (parameter_checks (P s)) (content s kind c.args.p) (value_of s kind c.args.p) a.0
    ∙ ap (λ (p : Parameters). outcome (content s kind p) (value_of s kind p)) (sym a.1))
    c.write_content.ensures

pub returns-in_err-p : goal.returns-in_err-p
returns-in_err-p c =
    let s = (goal.at.returns-in_err-p c).Start in
    let kind : Kind = c.in_ok-kind.kind in
    gives_same c.args.file.now
    (kind_passed (P s) c.args.numbers.now (length c.args.file.now) kind c.in_ok-kind.ensures
    ∙ refused_first (parameter_checks (P s)) (content s kind c.args.p) (value_of s kind c.args.p) _ (checked_refuses c.args.p _ c.in_err-p.ensures))
    (ap number (passed_on _ _ c.from_residual-in_err-p.ensures.1), refl)
