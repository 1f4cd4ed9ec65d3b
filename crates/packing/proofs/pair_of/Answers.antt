-- `pair_of` meets its contract.
use mathlib.Core.Path.{◌≡◌, sym, ◌∙◌, ap₂, subst}
use Prim.Native.Nat.{ℕ, ◌<◌}
use native.Mathlib.Omega.{arith}
use borrow.Author.Rules.{rules}
use lib.IntN.{pos}
use mir.Syntax.{w32}
use mir.Val.{SFits}
use Rattle.eisenstein.specs.Values.{value}
use Rattle.eisenstein.proofs.Pairs.{pair_read}
use Rattle.packing.specs.Messages.{packed, pair}
use Rattle.packing.proofs.RoundTrips.{bit_of_lt, pair_11, pair_other}
use Rattle.packing.proofs.pair_of.Goals as goal
use Rattle.packing.proofs.pair_of.Goals.{After-bit_of-b}

-- the two bits are below 2
a_lt : (c : After-bit_of-b) → c.bit_of-a.result < 2
a_lt c = subst (λ (n : ℕ). n < 2) (sym c.bit_of-a.ensures) (bit_of_lt _ _)

b_lt : (c : After-bit_of-b) → c.bit_of-b.result < 2
b_lt c = subst (λ (n : ℕ). n < 2) (sym c.bit_of-b.ensures) (bit_of_lt _ _)

bit_fits : (n : ℕ) → n < 2 → SFits w32 (pos n)
bit_fits n h = record { sfits = omega arith }

packed-is : (c : After-bit_of-b) → pair c.bit_of-a.result c.bit_of-b.result ≡ packed c.args.message.now c.args.i
unfolding packed
packed-is c = ap₂ pair c.bit_of-a.ensures c.bit_of-b.ensures

pub overflow_add-a : goal.overflow_add-a
overflow_add-a c = omega (arith, a_lt c, b_lt c)

pub returns-then-a-b-eq2 : goal.returns-then-a-b-eq2
returns-then-a-b-eq2 c = let p = a_lt (goal.at.returns-then-a-b-eq2 c).After-bit_of-b in let q = b_lt (goal.at.returns-then-a-b-eq2 c).After-bit_of-b in sym (pair_11 _ _ (omega (arith, p, q, c.if-a-b-eq2.true)) (omega (arith, p, q, c.if-a-b-eq2.true))) ∙ packed-is (goal.at.returns-then-a-b-eq2 c).After-bit_of-b

pub returns-else-a-b-eq2 : goal.returns-else-a-b-eq2
returns-else-a-b-eq2 c = let p = a_lt (goal.at.returns-else-a-b-eq2 c).After-bit_of-b in let q = b_lt (goal.at.returns-else-a-b-eq2 c).After-bit_of-b in (pair_read {w = w32} (search rules) (search rules) ∙ ap₂ value c.from.ensures c.from-else-a-b-eq2.ensures) ∙ sym (pair_other _ _ p q c.if-a-b-eq2.false) ∙ packed-is (goal.at.returns-else-a-b-eq2 c).After-bit_of-b
