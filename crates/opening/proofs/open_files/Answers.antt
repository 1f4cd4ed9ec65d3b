-- `open_files` meets its contract.
use mathlib.Core.Path.{refl, ◌∙◌, ap}
use mathlib.Core.List.{List, ◌++◌}
use Prim.Native.Nat.{ℕ}
use borrow.Author.Rules.{rules}
use lib.ListN.{length, drop}
use Rattle.refusals.proofs.Checks.{gives_same}
use Rattle.opening.specs.Program.{opening_line, line_writing, line_length}
use Rattle.opening.proofs.LineRoom.{room_wrong, room_right}
use Rattle.opening.proofs.open_files.Goals as goal
use Rattle.opening.proofs.open_files.Goals.{Start}

abbrev line : Start → List ℕ
line s = opening_line s.args.input.now

abbrev value_of : Start → List ℕ
value_of s = line s ++ drop (length (line s)) s.args.line.now

pub returns-then-line-ne-LINE_BYTES : goal.returns-then-line-ne-LINE_BYTES
unfolding line_writing line_length
returns-then-line-ne-LINE_BYTES c = let o = room_wrong (length c.args.line.now) (value_of (goal.at.returns-then-line-ne-LINE_BYTES c).Start) c.if-line-ne-LINE_BYTES.true in
    let u = room_wrong (length c.args.line.now) (length (line (goal.at.returns-then-line-ne-LINE_BYTES c).Start)) c.if-line-ne-LINE_BYTES.true in
    record { gives = gives_same c.args.line.now o (refl, refl); gives_2 = gives_same c.args.used.now u (refl, refl) }

pub returns : goal.returns
unfolding line_writing line_length
returns c = let n = c.if-line-ne-LINE_BYTES.false in
    let o = room_right (length c.args.line.now) (value_of (goal.at.returns c).Start) n in
    let u = room_right (length c.args.line.now) (length (line (goal.at.returns c).Start)) n in record { gives = gives_same c.args.line.now o (refl, c.write_line-end.ensures.1 ∙ ap (λ (k : ℕ). line (goal.at.returns c).Start ++ drop k c.args.line.now) c.write_line-end.ensures.0); gives_2 = gives_same c.args.used.now u (refl, c.write_line-end.ensures.0) }
