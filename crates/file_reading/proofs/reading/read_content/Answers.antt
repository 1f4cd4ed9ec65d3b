-- `read_content` meets its contract.
use mathlib.Core.Path.{◌≡◌, refl, sym, ◌∙◌, ap}
use mathlib.Core.List.{List}
use Prim.Native.Nat.{◌+◌, ◌-◌, ◌*◌}
use native.Mathlib.Omega.{arith}
use lib.ListN.{length, take, drop, length-drop}
use Rattle.refusals.proofs.Errors.{passed_on}
use Rattle.refusals.specs.Outcomes.{number}
use Rattle.refusals.specs.Outcomes.{Check, outcome, Passes}
use Rattle.refusals.specs.Numbers.{answered}
use Rattle.refusals.proofs.Checks.{done_with, refused_with, gives_same}
use Rattle.heads.specs.Kinds.{number_of_kind}
use Rattle.parameters.specs.Sets.{set_of}
use Rattle.heads.specs.Heads.{head_length}
use Rattle.files.specs.Files.{numbers_from, numbers_of}
use Rattle.files.specs.Calls.{stored_checks}
use Rattle.files.proofs.Lists.{rest_taken}
use Rattle.stored_numbers.proofs.Lengths.{numbers_read}
use Rattle.files.proofs.Passed.{contents_passed, file_bytes_lem}
use Rattle.file_reading.proofs.reading.read_content.Goals as goal
use Rattle.file_reading.proofs.reading.read_content.Goals.{Start}

abbrev checks : Start → List Check
checks s = stored_checks (number_of_kind s.args.kind) (set_of s.args.p.parameters) s.args.file.now (length s.args.numbers.now)

pub slice_bounds-read_numbers-count : goal.slice_bounds-read_numbers-count
slice_bounds-read_numbers-count c =
    let refusal_is : answered c.reading_refusal.result ≡ outcome (checks (goal.at.slice_bounds-read_numbers-count c).Start) (tt {0}) = c.reading_refusal.ensures in
    let all_passed : Passes (checks (goal.at.slice_bounds-read_numbers-count c).Start) = sym refusal_is ∙ ap answered c.in_ok-reading_refusal.was in
    let long : length c.args.file.now ≡ head_length + 2 * length c.args.numbers.now = let k = contents_passed (number_of_kind c.args.kind) (set_of c.args.p.parameters) (numbers_of c.args.file.now) (length c.args.numbers.now) (length c.args.file.now) all_passed in
    omega (arith, k.file_is, k.numbers_are, file_bytes_lem (number_of_kind c.args.kind) c.args.p.parameters.n) in
    omega (arith, long)

pub slice_bounds-read_numbers-start : goal.slice_bounds-read_numbers-start
slice_bounds-read_numbers-start c =
    let refusal_is : answered c.reading_refusal.result ≡ outcome (checks (goal.at.slice_bounds-read_numbers-start c).Start) (tt {0}) = c.reading_refusal.ensures in
    let all_passed : Passes (checks (goal.at.slice_bounds-read_numbers-start c).Start) = sym refusal_is ∙ ap answered c.in_ok-reading_refusal.was in
    let long : length c.args.file.now ≡ head_length + 2 * length c.args.numbers.now = let k = contents_passed (number_of_kind c.args.kind) (set_of c.args.p.parameters) (numbers_of c.args.file.now) (length c.args.numbers.now) (length c.args.file.now) all_passed in
    omega (arith, k.file_is, k.numbers_are, file_bytes_lem (number_of_kind c.args.kind) c.args.p.parameters.n) in
    omega (arith, long)

pub returns : goal.returns
returns c =
    let refusal_is : answered c.reading_refusal.result ≡ outcome (checks (goal.at.returns c).Start) (tt {0}) = c.reading_refusal.ensures in
    let all_passed : Passes (checks (goal.at.returns c).Start) = sym refusal_is ∙ ap answered c.in_ok-reading_refusal.was in
    let long : length c.args.file.now ≡ head_length + 2 * length c.args.numbers.now = let k = contents_passed (number_of_kind c.args.kind) (set_of c.args.p.parameters) (numbers_of c.args.file.now) (length c.args.numbers.now) (length c.args.file.now) all_passed in
    omega (arith, k.file_is, k.numbers_are, file_bytes_lem (number_of_kind c.args.kind) c.args.p.parameters.n) in
    let rest_long : length (take (length c.args.file.now - head_length) (drop head_length c.args.file.now)) ≡ 2 * length c.args.numbers.now = let file = c.args.file.now in
    ap length (rest_taken head_length file) ∙ length-drop head_length file ∙ omega (arith, long) in
    gives_same c.args.numbers.now (done_with (checks (goal.at.returns c).Start) (numbers_of c.args.file.now) all_passed) (refl, numbers_read _ c.args.numbers.now c.read_numbers.ensures rest_long ∙ ap numbers_from (rest_taken head_length c.args.file.now))

pub returns-in_err-reading_refusal : goal.returns-in_err-reading_refusal
returns-in_err-reading_refusal c =
    let refusal_is : answered c.reading_refusal.result ≡ outcome (checks (goal.at.returns-in_err-reading_refusal c).Start) (tt {0}) = c.reading_refusal.ensures in
    gives_same c.args.numbers.now (refused_with (checks (goal.at.returns-in_err-reading_refusal c).Start) (numbers_of c.args.file.now) _ (sym refusal_is ∙ ap answered c.in_err-reading_refusal.was)) (ap number (passed_on _ _ c.from_residual.ensures.1), refl)
