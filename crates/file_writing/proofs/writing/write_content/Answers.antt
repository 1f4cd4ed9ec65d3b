-- `write_content` meets its contract.
use mathlib.Core.Path.{◌≡◌, refl, sym, ◌∙◌, ap}
use mathlib.Core.List.{List}
use Prim.Native.Nat.{ℕ}
use native.Mathlib.Omega.{arith}
use lib.ListN.{length}
use Rattle.refusals.proofs.Errors.{passed_on}
use Rattle.refusals.specs.Outcomes.{number}
use Rattle.refusals.specs.Outcomes.{Check, outcome, Passes}
use Rattle.refusals.specs.Numbers.{answered}
use Rattle.refusals.proofs.Checks.{done_with, refused_with, gives_same}
use Rattle.heads.specs.Kinds.{number_of_kind}
use Rattle.parameters.specs.Sets.{set_of}
use Rattle.files.specs.Files.{file_of}
use Rattle.files.specs.Calls.{given_checks}
use Rattle.files.proofs.Passed.{contents_passed, file_bytes_lem}
use Rattle.files.proofs.SmallArrays.{contents_small}
use Rattle.file_writing.proofs.writing.write_content.Goals as goal
use Rattle.file_writing.proofs.writing.write_content.Goals.{Start}

abbrev value_of : Start → List ℕ
value_of s = file_of (number_of_kind s.args.kind) (set_of s.args.p.parameters) s.args.numbers.now

abbrev checks : Start → List Check
checks s = given_checks (number_of_kind s.args.kind) (set_of s.args.p.parameters) s.args.numbers.now (length s.args.file.now)

pub write_file-requires : goal.write_file-requires
write_file-requires c =
    let refusal_is : answered c.writing_refusal.result ≡ outcome (checks (goal.at.write_file-requires c).Start) (tt {0}) = c.writing_refusal.ensures in
    let all_passed : Passes (checks (goal.at.write_file-requires c).Start) = sym refusal_is ∙ ap answered c.in_ok-writing_refusal.was in
    let P = set_of c.args.p.parameters in
    let k = contents_passed (number_of_kind c.args.kind) P c.args.numbers.now (length c.args.numbers.now) (length c.args.file.now) all_passed in (omega (arith, k.file_is, k.numbers_are, file_bytes_lem (number_of_kind c.args.kind) c.args.p.parameters.n), contents_small (number_of_kind c.args.kind) P c.args.numbers.now c.args.p.passes k.numbers_are k.sets)

pub returns : goal.returns
returns c =
    let refusal_is : answered c.writing_refusal.result ≡ outcome (checks (goal.at.returns c).Start) (tt {0}) = c.writing_refusal.ensures in
    let all_passed : Passes (checks (goal.at.returns c).Start) = sym refusal_is ∙ ap answered c.in_ok-writing_refusal.was in
    gives_same c.args.file.now (done_with (checks (goal.at.returns c).Start) (value_of (goal.at.returns c).Start) all_passed) (refl, c.write_file.ensures)

pub returns-in_err-writing_refusal : goal.returns-in_err-writing_refusal
returns-in_err-writing_refusal c =
    let refusal_is : answered c.writing_refusal.result ≡ outcome (checks (goal.at.returns-in_err-writing_refusal c).Start) (tt {0}) = c.writing_refusal.ensures in
    gives_same c.args.file.now (refused_with (checks (goal.at.returns-in_err-writing_refusal c).Start) (value_of (goal.at.returns-in_err-writing_refusal c).Start) _ (sym refusal_is ∙ ap answered c.in_err-writing_refusal.was)) (ap number (passed_on _ _ c.from_residual.ensures.1), refl)
