-- `padded_byte` meets its contract.
use mathlib.Core.Path.{sym}
use native.Mathlib.Omega.{arith}
use Rattle.short_messages.proofs.PaddedBits.{own_byte, one_byte, zero_byte}
use Rattle.short_messages.proofs.padded_byte.Goals as goal
use Rattle.short_messages.proofs.padded_byte.Goals.{Start}

pub returns-then-j-message : goal.returns-then-j-message
returns-then-j-message c = let s = (goal.at.returns-then-j-message c).Start in sym (own_byte s.args.message.now s.args.j c.if-j-message.true (c.type_inv.message s.args.j).fits)

pub returns-then-j-message-2 : goal.returns-then-j-message-2
returns-then-j-message-2 c = let s = (goal.at.returns-then-j-message-2 c).Start in sym (one_byte s.args.message.now s.args.j c.if-j-message-2.true)

pub returns-else-j-message-2 : goal.returns-else-j-message-2
returns-else-j-message-2 c = let s = (goal.at.returns-else-j-message-2 c).Start in sym (zero_byte s.args.message.now s.args.j (omega (arith, c.if-j-message.false, c.if-j-message-2.false)))
