-- `write_line_in` meets its contract.
use Rattle.std.specs.Prelude.{Err, Ok, Result}
use Rattle.refusals.specs.declared.Refusal.{Refusal}
use mathlib.Core.Path.{◌≡◌, sym, ◌∙◌, ap}
use mathlib.Core.List.{List, ◌++◌}
use Prim.Native.Nat.{ℕ}
use lib.ListN.{length, take, drop}
use lib.Seq.{take_at}
use Rattle.refusals.specs.Outcomes.{Outcome, done, refused}
use Rattle.refusals.proofs.Checks.{never_done, same_done}
use Rattle.lines.specs.Lines.{line_of}
use Rattle.opened_arrays.specs.Answers.{GivesMessage}
use Rattle.opening.specs.Program.{opening_line, opened_is}
use Rattle.opening.proofs.write_line_in.Goals as goal

-- what was opened is in the bytes that were lent for it
opened-is : (o : Outcome (List ℕ)) (r : Result ℕ Refusal) (old new : List ℕ) → GivesMessage o r old new → opened_is r new ≡ o
opened-is (done m) (Ok n) old new g = ap done (ap (take n) g.left ∙ take_at m (drop (length m) old) n (sym (same_done g.answer)))
opened-is (done m) (Err r) old new g = absurd (never_done _ (length m) g.answer)
opened-is (refused k) (Ok n) old new g = absurd (never_done k n (sym g.answer))
opened-is (refused k) (Err r) old new g = cc

pub returns : goal.returns
unfolding opening_line
returns c = let e = ap line_of (opened-is _ _ _ _ c.open_input-opened.ensures) in
    (c.write_opened.ensures.0 ∙ ap length e, c.write_opened.ensures.1 ∙ ap (λ (x : List ℕ). x ++ drop c.write_opened.result c.args.line.now) e)
