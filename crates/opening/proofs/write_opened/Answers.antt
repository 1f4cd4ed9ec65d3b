-- `write_opened` meets its contract.
use Rattle.std.specs.Prelude.{Result}
use Rattle.refusals.specs.declared.Refusal.{Refusal}
use mathlib.Core.Path.{◌≡◌, sym, ◌∙◌, ap, subst}
use mathlib.Core.List.{List, ◌++◌}
use Prim.Native.Nat.{ℕ, ◌≤◌}
use native.Mathlib.Omega.{arith}
use native.Mathlib.Nat.{min-le_right}
use lib.ListN.{length, take, drop}
use lib.Seq.{length-take-le}
use Rattle.refusals.specs.Outcomes.{refused, done}
use Rattle.refusals.specs.Numbers.{number_of}
use Rattle.lines.specs.Lines.{line_of, Writes}
use Rattle.lines.proofs.Written.{message_length, refusal_length, written}
use Rattle.opened_arrays.proofs.Parts.{end_taken}
use Rattle.opening.specs.Program.{opened_is}
use Rattle.opening.proofs.write_opened.Goals as goal
use Rattle.opening.proofs.write_opened.Goals.{Start}

abbrev line : Start → Result ℕ Refusal → List ℕ
line s o = line_of (opened_is o s.args.message.now)

-- the line that is written, of what was opened
as_line : (l l' old : List ℕ) {r : ℕ} {new : List ℕ} → l ≡ l' → length l ≤ length old → Writes l r old new → (r ≡ length l') × (new ≡ l' ++ drop r old)
as_line l l' old {r} e h g =
    let w = written l old h g in
    (w.0 ∙ ap length e, w.1 ∙ ap (λ (k : ℕ). l ++ drop k old) (sym w.0) ∙ ap (λ (x : List ℕ). x ++ drop r old) e)

pub returns-in-Ok : goal.returns-in-Ok
returns-in-Ok c =
    let short : c.min-end.result ≤ length c.args.message.now = subst (λ (k : ℕ). k ≤ length c.args.message.now) (sym c.min-end.ensures) (min-le_right c.in-Ok.n (length c.args.message.now)) in
    let part : length (take c.min-end.result c.args.message.now) ≡ c.min-end.result = length-take-le c.min-end.result c.args.message.now short in
    let m = c.args.message.now in
    let m' = take c.min-end.result m in
    let e : line_of (done m') ≡ line (goal.at.returns-in-Ok c).Start c.args.opened = ap (λ (x : List ℕ). line_of (done x)) (ap (λ (k : ℕ). take k m) c.min-end.ensures ∙ end_taken c.in-Ok.n m) ∙ sym (ap (line (goal.at.returns-in-Ok c).Start) c.in-Ok.is) in
    as_line (line_of (done m')) (line (goal.at.returns-in-Ok c).Start c.args.opened) c.args.line.now e (omega (arith, message_length m', part, short, c.requires.0, c.requires.1)) c.write_message.ensures

pub returns-in-Err : goal.returns-in-Err
returns-in-Err c = let n = number_of c.in-Err.refusal in
    as_line (line_of (refused n)) (line (goal.at.returns-in-Err c).Start c.args.opened) c.args.line.now (sym (ap (line (goal.at.returns-in-Err c).Start) c.in-Err.is)) (omega (arith, refusal_length n, c.requires.1)) c.write_refusal.ensures
