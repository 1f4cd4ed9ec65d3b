-- `reading_refusal` meets its contract: the lengths, then the arrays.
use mathlib.Core.Path.{◌≡◌, sym, ◌∙◌, ap, refl}
use mathlib.Core.List.{List, []}
use Prim.Native.Nat.{ℕ, ◌+◌, ◌*◌, ◌≤◌}
use native.Mathlib.Omega.{arith}
use lib.IntN.{pos}
use lib.ListN.{length, take, length-drop, replicate}
use Rattle.refusals.specs.Outcomes.{outcome}
use Rattle.heads.specs.Kinds.{number_of_kind}
use Rattle.parameters.specs.Sets.{set_of}
use Rattle.parameters.proofs.AcceptedParameters.{accepted_parameters}
use Rattle.arrays.proofs.Sizes.{zeros_part}
use Rattle.heads.specs.Kinds.{arrays_of}
use Rattle.heads.specs.Heads.{head_length}
use Rattle.files.specs.Files.{file_numbers, numbers_from}
use Rattle.files.specs.Calls.{set_checks}
use Rattle.files.proofs.Lists.{rest_taken}
use Rattle.files.proofs.Passed.{lengths_are, lengths_passed, lengths_refused, file_bytes_lem}
use Rattle.file_reading.proofs.reading.reading_refusal.Goals as goal
use Rattle.file_reading.proofs.reading.reading_refusal.Goals.{Start}

few : (s : Start) → s.args.p.parameters.n ≤ 1024
few s = (accepted_parameters (set_of s.args.p.parameters) s.args.p.passes).N_small

pub returns-then-not-lengths_right : goal.returns-then-not-lengths_right
returns-then-not-lengths_right c = sym (lengths_refused (number_of_kind c.args.kind) (set_of c.args.p.parameters) _ c.args.room (length c.args.file.now) _ (rw c.number.ensures at c.lengths_right.ensures) (c.if-not-lengths_right.true))

pub slice_bounds-stored_refusal-count : goal.slice_bounds-stored_refusal-count
slice_bounds-stored_refusal-count c =
    let long : length c.args.file.now ≡ head_length + 2 * file_numbers (number_of_kind c.args.kind) c.args.p.parameters.n = (lengths_are (number_of_kind c.args.kind) (set_of c.args.p.parameters) [] c.args.room (length c.args.file.now) _ (rw c.number.ensures at c.lengths_right.ensures) (c.if-not-lengths_right.false)).0
    ∙ file_bytes_lem (number_of_kind c.args.kind) c.args.p.parameters.n in
    omega (arith, long)

pub slice_bounds-stored_refusal-start : goal.slice_bounds-stored_refusal-start
slice_bounds-stored_refusal-start c =
    let long : length c.args.file.now ≡ head_length + 2 * file_numbers (number_of_kind c.args.kind) c.args.p.parameters.n = (lengths_are (number_of_kind c.args.kind) (set_of c.args.p.parameters) [] c.args.room (length c.args.file.now) _ (rw c.number.ensures at c.lengths_right.ensures) (c.if-not-lengths_right.false)).0
    ∙ file_bytes_lem (number_of_kind c.args.kind) c.args.p.parameters.n in
    omega (arith, long)

pub slice_bounds-x-end : goal.slice_bounds-x-end
slice_bounds-x-end c = omega (arith, few (goal.at.slice_bounds-x-end c).Start)

pub slice_bounds-stored_refusal-end-2 : goal.slice_bounds-stored_refusal-end-2
slice_bounds-stored_refusal-end-2 c =
    let part : let n = c.args.p.parameters.n in length (take (2 * n) (replicate 2048 (pos 0))) ≡ 2 * n = zeros_part c.args.p.parameters.n _ (few (goal.at.slice_bounds-stored_refusal-end-2 c).Start) refl in
    sym part

pub stored_refusal-requires : goal.stored_refusal-requires
stored_refusal-requires c =
    let long : length c.args.file.now ≡ head_length + 2 * file_numbers (number_of_kind c.args.kind) c.args.p.parameters.n = (lengths_are (number_of_kind c.args.kind) (set_of c.args.p.parameters) [] c.args.room (length c.args.file.now) _ (rw c.number.ensures at c.lengths_right.ensures) (c.if-not-lengths_right.false)).0
    ∙ file_bytes_lem (number_of_kind c.args.kind) c.args.p.parameters.n in
    let part : let n = c.args.p.parameters.n in length (take (2 * n) (replicate 2048 (pos 0))) ≡ 2 * n = zeros_part c.args.p.parameters.n _ (few (goal.at.stored_refusal-requires c).Start) refl in
    let file = c.args.file.now in
    (ap length (rest_taken head_length file) ∙ length-drop head_length file ∙ omega (arith, long), part)

pub returns : goal.returns
returns c = c.stored_refusal.ensures
    ∙ ap (λ (x : List ℕ). outcome (set_checks (set_of c.args.p.parameters) (arrays_of (number_of_kind c.args.kind)) (numbers_from x)) (tt {0})) (rest_taken head_length c.args.file.now)
    ∙ sym (lengths_passed (number_of_kind c.args.kind) (set_of c.args.p.parameters) _ c.args.room (length c.args.file.now) _ (rw c.number.ensures at c.lengths_right.ensures) (c.if-not-lengths_right.false))
