-- `last_one` meets its contract. The loop's invariant: the last 1 is that of the first k bits.
use mathlib.Core.Path.{◌≡◌, refl, sym, ◌∙◌, ap}
use Prim.Native.Nat.{ℕ, suc, ◌-◌, ◌*◌, ◌≤◌}
use native.Mathlib.Omega.{arith}
use borrow.Author.Rules.{rules}
use Rattle.packing.specs.Messages.{bit_of}
use Rattle.short_messages.specs.ShortMessages.{last_one}
use Rattle.short_messages.proofs.LastOnes.{none_left, last_here, last_before}
use Rattle.short_messages.proofs.last_one.Given as goal

abbrev pub invariant-loop-k : goal.invariant-loop-k
invariant-loop-k l = (l.k ≤ 2 * l.n) × (last_one (2 * l.n) (bit_of l.message) ≡ last_one l.k (bit_of l.message))
