-- `read` meets its contract: the head and its parameters, then what follows them.
use mathlib.Core.Path.{◌≡◌, refl, sym, ◌∙◌, ap, subst}
use mathlib.Core.List.{List, ◌++◌, append_assoc}
use lib.IntN.{ℤ}
use lib.ListN.{length}
use Rattle.refusals.specs.Outcomes.{number}
use Rattle.refusals.proofs.Errors.{passed_on}
use Rattle.refusals.specs.Outcomes.{Check, done, refused, outcome, Passes}
use Rattle.refusals.specs.Numbers.{number_of}
use Rattle.refusals.proofs.Checks.{passed_all, refused_first, done_parts, done_all, refused_plain, gives_same}
use Rattle.refusals.proofs.Numbers.{number_positive}
use Rattle.parameters.specs.Sets.{ParameterSet, set_of, parameter_checks, made}
use Rattle.heads.specs.Heads.{head_of}
use Rattle.files.specs.Files.{numbers_of}
use Rattle.head_reading.specs.Calls.{head_checks, reading_head}
use Rattle.files.specs.Calls.{stored_checks, reading_checks, reading}
use lib.Dec.{T}
use Rattle.head_reading.proofs.HeadChecks.{head_passed}
use Rattle.file_reading.proofs.read.Goals as goal
use Rattle.file_reading.proofs.read.Goals.{Start}

abbrev head : Start → List Check
head s = head_checks s.args.kind s.args.file.now

abbrev P : Start → ParameterSet
P s = head_of s.args.file.now

abbrev value_of : Start → List ℤ
value_of s = numbers_of s.args.file.now

abbrev content : Start → ParameterSet → List Check
content s p = stored_checks s.args.kind p s.args.file.now (length s.args.numbers.now)

-- the head is accepted, and with it the parameters
record Read (s : Start) (p : ParameterSet) : Type 0 where
  at_head : Passes (head s)
  accepted : Passes (parameter_checks (P s))
  same : P s ≡ p

head_read : (s : Start) (p : ParameterSet) → reading_head s.args.kind s.args.file.now ≡ done p → Read s p
unfolding reading_head
head_read s p e =
    let k = done_all (head s) (parameter_checks (P s)) (P s) p e in
    let m = done_parts (parameter_checks (P s)) (P s) p k.1 in
    record { at_head = k.0; accepted = m.0; same = m.1 }

pub invariant_of-read_content : goal.invariant_of-read_content
invariant_of-read_content c = let r = head_read (goal.at.invariant_of-read_content c).Start (set_of c.in_ok-p.p) (sym c.read_head.ensures ∙ ap made c.in_ok-p.was) in record { passes = subst (λ (p : ParameterSet). Passes (parameter_checks p)) r.same r.accepted }

pub returns : goal.returns
unfolding reading reading_checks
returns c =
    let s = (goal.at.returns c).Start in
    let r = head_read (goal.at.returns c).Start (set_of c.in_ok-p.p) (sym c.read_head.ensures ∙ ap made c.in_ok-p.was) in
    let read_on : outcome (head s ++ (parameter_checks (P s) ++ content s (P s))) (value_of s) ≡ outcome (content s (set_of c.in_ok-p.p)) (value_of s) = passed_all (head s) (parameter_checks (P s) ++ content s (P s)) (value_of s) r.at_head
    ∙ passed_all (parameter_checks (P s)) (content s (P s)) (value_of s) r.accepted
    ∙ ap (λ (p : ParameterSet). outcome (content s p) (value_of s)) r.same in
    gives_same c.args.numbers.now read_on (rw c.in_ok-kind.ensures at c.read_content.ensures)

pub returns-in_err-p : goal.returns-in_err-p
unfolding reading reading_checks reading_head
returns-in_err-p c =
    let s = (goal.at.returns-in_err-p c).Start in
    let r = c.in_err-p.field-0.0 in
    let cs : List Check = head s ++ parameter_checks (P s) in
    let refused_plainly = refused_plain cs (P s) (number_of r) (number_positive r) (sym c.read_head.ensures ∙ ap made c.in_err-p.was) in
    let head_refused : outcome (head s ++ (parameter_checks (P s) ++ content s (P s))) (value_of s) ≡ refused (number_of r) = ap (λ (ds : List Check). outcome ds (value_of s)) (sym (append_assoc (head s) (parameter_checks (P s)) (content s (P s))))
    ∙ refused_first cs (content s (P s)) (value_of s) (number_of r) refused_plainly in
    gives_same c.args.numbers.now head_refused (ap number (passed_on _ _ c.from_residual.ensures.1), refl)

-- a head is read of a known kind alone
pub returns-in_err-kind : goal.returns-in_err-kind
returns-in_err-kind c =
    let r = head_read (goal.at.returns-in_err-kind c).Start (set_of c.in_ok-p.p) (sym c.read_head.ensures ∙ ap made c.in_ok-p.was) in
    absurd (subst T c.in_err-kind.ensures.1 (head_passed c.args.kind c.args.file.now r.at_head).known)
