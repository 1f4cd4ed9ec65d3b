-- `bit_of` meets its contract.
use mathlib.Core.Path.{refl, sym, ◌∙◌, ap}
use Prim.Native.Nat.{ℕ, ◌-◌, ◌/◌, ◌%◌, ◌^◌}
use native.Mathlib.Nat.{zero-div}
use lib.ListN.{get_or-eq_default}
use Rattle.packing.specs.Messages.{bit_of}
use Rattle.packing.proofs.bit_of.Goals as goal

pub returns-then-k-message : goal.returns-then-k-message
unfolding bit_of
returns-then-k-message c = refl

pub returns-else-k-message : goal.returns-else-k-message
unfolding bit_of
returns-else-k-message c = sym (ap (λ (b : ℕ). b / 2 ^ (7 - c.args.k % 8) % 2) (get_or-eq_default c.args.message.now 0 c.if-k-message.false) ∙ ap (λ (b : ℕ). b % 2) (zero-div (2 ^ (7 - c.args.k % 8))))
