-- `write_message` meets its contract.
use mathlib.Core.List.{List}
use Prim.Native.Nat.{ℕ}
use native.Mathlib.Omega.{arith}
use Rattle.refusals.specs.Outcomes.{done}
use Rattle.lines.specs.Lines.{line_of}
use Rattle.lines.proofs.Written.{message_length, writes_nothing}
use Rattle.lines.proofs.write_message.Goals as goal
use Rattle.lines.proofs.write_message.Goals.{Start}

abbrev line : Start → List ℕ
line s = line_of (done s.args.message.now)

pub returns-then-line-message : goal.returns-then-line-message
returns-then-line-message c = let s = (goal.at.returns-then-line-message c).Start in writes_nothing (line s) s.args.line.now (omega (arith, message_length s.args.message.now, c.if-line-message.true))
