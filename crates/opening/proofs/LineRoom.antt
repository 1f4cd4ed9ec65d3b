-- The room of the lent line: 515 bytes, which hold every line.
use mathlib.Core.Path.{◌≡◌, ◌∙◌, ap}
use mathlib.Core.List.{List, [], ◌++◌}
use Prim.Native.Nat.{ℕ, ◌≤◌}
use native.Mathlib.Omega.{arith}
use borrow.Author.Tests.{ne_eqb}
use lib.Dec.{eqb}
use lib.ListN.{length, drop, length-append}
use mir.Facts.{yes_eqb}
use Rattle.refusals.specs.Outcomes.{Outcome, done, refused, outcome, written}
use Rattle.refusals.proofs.Checks.{fails_refused, holds_passed, none_left}
use Rattle.opening.specs.Program.{opening_line, line_checks, line_writing, line_length}

pub room_wrong : {A : Type 0} (n : ℕ) (a : A) → (n ≡ 515 → ⊥) → outcome (line_checks n) a ≡ refused 7
unfolding line_checks
room_wrong n a h = fails_refused 7 (eqb n 515) [] a (ne_eqb n 515 h)

pub room_right : {A : Type 0} (n : ℕ) (a : A) → n ≡ 515 → outcome (line_checks n) a ≡ done a
unfolding line_checks
room_right n a e = holds_passed 7 (eqb n 515) [] a (yes_eqb e) ∙ none_left a

-- what `open_files` leaves in a line of that room: its length lies within it, since the line is no longer than before
pub line_within : (input old new : List ℕ) (before used : ℕ) → length old ≡ 515 → length new ≡ 515 → new ≡ written (line_writing input old) old → used ≡ written (line_length input (length old)) before → used ≤ length new
unfolding line_writing line_length
line_within input old new before used e f w u =
    let line = opening_line input in
    let o = room_right (length old) (line ++ drop (length line) old) e in
    let n = room_right (length old) (length line) e in
    let w' : length new ≡ length (line ++ drop (length line) old) = ap length (w ∙ ap (λ (x : Outcome (List ℕ)). written x old) o) in
    let u' : used ≡ length line = u ∙ ap (λ (x : Outcome ℕ). written x before) n in
    omega (arith, w', u', f, length-append line (drop (length line) old))
