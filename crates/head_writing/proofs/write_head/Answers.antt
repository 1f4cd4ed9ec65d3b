-- `write_head` meets its contract.
use mathlib.Core.Path.{refl, sym, ◌∙◌, ap}
use mathlib.Core.List.{List, ◌++◌}
use Prim.Native.Nat.{ℕ}
use lib.ListN.{length, drop}
use Rattle.refusals.proofs.Errors.{passed_on, gives_passed_on}
use Rattle.refusals.proofs.Numbers.{number_positive}
use Rattle.parameters.specs.declared.Parameters.{Parameters}
use Rattle.refusals.specs.Outcomes.{number}
use Rattle.refusals.specs.Outcomes.{Check}
use Rattle.refusals.proofs.Checks.{done_parts, refused_plain, gives_done, gives_same}
use Rattle.parameters.specs.Sets.{set_of}
use Rattle.heads.specs.Heads.{head_length, head_bytes}
use Rattle.head_writing.specs.Calls.{head_writing_checks, writing_head}
use mathlib.Core.Bool.{not}
use Rattle.refusals.specs.Numbers.{number_of}
use Rattle.refusals.specs.Outcomes.{refused}
use Rattle.refusals.proofs.Checks.{refused_by}
use Rattle.heads.specs.declared.kinds.Kind.{Kind}
use Rattle.heads.specs.Kinds.{number_of_kind}
use Rattle.head_writing.proofs.WritingChecks.{from_parameters, kind_passed, room_passed}
use Rattle.head_writing.proofs.write_head.Goals as goal
use Rattle.head_writing.proofs.write_head.Goals.{Start}

abbrev value_of : Start → Kind → List ℕ
value_of s kind = head_bytes (number_of_kind kind) (set_of s.args.p) ++ drop head_length s.args.file.now

abbrev checks : Start → List Check
checks s = from_parameters (set_of s.args.p) (length s.args.file.now)

pub returns-in_err-kind : goal.returns-in_err-kind
unfolding head_writing_checks writing_head
returns-in_err-kind c = gives_same c.args.file.now (refused_by 19 _ _ (ap not c.in_err-kind.ensures.1)) (ap number (passed_on _ _ c.from_residual.ensures.1 ∙ ap (λ r. refused (number_of r)) c.in_err-kind.ensures.0), refl)

pub write_bytes-requires : goal.write_bytes-requires
write_bytes-requires c =
    let s = (goal.at.write_bytes-requires c).Start in
    room_passed (set_of c.args.p) (length c.args.file.now) (done_parts (checks s) c.args.p c.in_ok-p.p.parameters (sym c.in_ok-p.ensures)).0

pub returns : goal.returns
returns c =
    let s = (goal.at.returns c).Start in
    let kind : Kind = c.in_ok-kind.kind in
    let passed = done_parts (checks s) c.args.p c.in_ok-p.p.parameters (sym c.in_ok-p.ensures) in
    gives_same c.args.file.now (kind_passed kind c.in_ok-kind.ensures (set_of c.args.p) c.args.file.now)
    (gives_done (checks s) (value_of s kind) c.args.file.now _ passed.0
    (c.write_bytes.ensures ∙ ap (λ (p : Parameters). head_bytes (number_of_kind kind) (set_of p) ++ drop head_length c.args.file.now) (sym passed.1)))

pub returns-in_err-p : goal.returns-in_err-p
returns-in_err-p c =
    let s = (goal.at.returns-in_err-p c).Start in
    let kind : Kind = c.in_ok-kind.kind in
    let refusal = c.in_err-p.field-0.0 in
    gives_same c.args.file.now (kind_passed kind c.in_ok-kind.ensures (set_of c.args.p) c.args.file.now)
    (gives_passed_on (checks s) (value_of s kind) c.args.file.now _ _ c.from_residual-in_err-p.ensures.1
    (refused_plain (checks s) c.args.p (number_of refusal) (number_positive refusal) (sym c.in_err-p.ensures)))
