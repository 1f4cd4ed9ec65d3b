-- `last_one` meets its contract. The loop's invariant: the last 1 is that of the first k bits.
use mathlib.Core.Path.{◌≡◌, refl, sym, ◌∙◌, ap}
use Prim.Native.Nat.{ℕ, suc, ◌-◌, ◌*◌, ◌≤◌}
use native.Mathlib.Omega.{arith}
use borrow.Author.Rules.{rules}
use Rattle.packing.specs.Messages.{bit_of}
use Rattle.short_messages.specs.ShortMessages.{last_one}
use Rattle.short_messages.proofs.LastOnes.{none_left, last_here, last_before}
use Rattle.short_messages.proofs.last_one.Goals as goal
use Rattle.short_messages.proofs.last_one.Goals.{At-loop-k}

-- k is the number after the one that is looked at
up_to : (b : ℕ → ℕ) (k : ℕ) → 1 ≤ k → last_one k b ≡ last_one (suc (k - 1)) b
up_to b k l = ap (λ (i : ℕ). last_one i b) {x = k} {y = suc (k - 1)} (omega arith)

pub returns-then-bit_of-eq1 : goal.returns-then-bit_of-eq1
returns-then-bit_of-eq1 c = let l = (goal.at.returns-then-bit_of-eq1 c).At-loop-k in
    let b = bit_of l.args.message.now in
    sym (l.loop-k.invariant.1 ∙ up_to b l.loop-k.k c.loop-k-test.true ∙ last_here b (l.loop-k.k - 1) (sym c.bit_of.ensures ∙ c.if-bit_of-eq1.true))

pub loop-k-preserved : goal.loop-k-preserved
loop-k-preserved c = let l = (goal.at.loop-k-preserved c).At-loop-k in
    let b = bit_of l.args.message.now in (
      omega (arith, l.loop-k.invariant.0),
      l.loop-k.invariant.1 ∙ up_to b l.loop-k.k c.loop-k-test.true ∙ last_before b (l.loop-k.k - 1) (λ e. c.if-bit_of-eq1.false (c.bit_of.ensures ∙ e)),
    )

pub returns : goal.returns
returns c = let l = (goal.at.returns c).At-loop-k in
    let b = bit_of l.args.message.now in
    sym (l.loop-k.invariant.1 ∙ ap (λ (i : ℕ). last_one i b) {x = l.loop-k.k} {y = 0} (omega (arith, c.loop-k-test.false)) ∙ none_left b)
