-- `add` meets its contract.
use mathlib.Core.Path.{◌≡◌, sym, ◌∙◌, ap, subst}
use mathlib.Core.Bool.{true, false}
use mathlib.Core.List.{List}
use Prim.Native.Nat.{ℕ, ◌+◌, ◌*◌, ◌/◌, ◌%◌, ◌^◌, ◌<◌}
use native.Mathlib.Omega.{arith}
use native.Mathlib.Nat.{one-mul}
use lib.Dec.{lit<}
use lib.ListN.{get_or, set}
use lib.Pow.{shl_exact}
use Rattle.stop_sets.specs.Words.{has}
use Rattle.stop_sets.proofs.Bits.{added_fits}
use Rattle.stop_sets.proofs.Sets.{has_already, has_none_past, same-past, with_new}
use Rattle.stop_sets.proofs.add.Goals as goal

-- the bit, as the machine shifts it to its place
shifted : (k : ℕ) → k < 32 → 1 * 2 ^ k % 4294967296 ≡ 2 ^ k
shifted k h = shl_exact {a = 1} 1 k 32 (lit< tt) (omega arith) ∙ one-mul (2 ^ k)

pub returns-then-bit_set : goal.returns-then-bit_set
unfolding has
returns-then-bit_set c = let e : has c.args.words.now c.args.stop ≡ true = sym c.bit_set.ensures ∙ c.if-bit_set.true in
    (sym e, sym (has_already c.args.words.now c.args.stop e))

pub overflow_add-words : goal.overflow_add-words
unfolding has
overflow_add-words c =
    let stop : ℕ = c.args.stop in
    let words : List ℕ = c.args.words.now in
    let word : ℕ = get_or words (stop / 32) 0 in
    let new : has words stop ≡ false = sym c.bit_set.ensures ∙ c.if-bit_set.false in
    let bit_is : 1 * 2 ^ (stop % 32) % 4294967296 ≡ 2 ^ (stop % 32) = shifted (stop % 32) (omega arith) in
    let fits : word + 1 * 2 ^ (stop % 32) % 4294967296 < 2 ^ 32 = subst (λ (b : ℕ). word + b < 2 ^ 32) (sym bit_is) (added_fits word (stop % 32) 32 (c.slice_known-then-i-words-1.given (stop / 32)).fits (omega arith) new) in
    record { fits = fits }

pub returns-else-bit_set : goal.returns-else-bit_set
unfolding has
returns-else-bit_set c =
    let words : List ℕ = c.args.words.now in
    let stop : ℕ = c.args.stop in
    let word : ℕ = get_or words (stop / 32) 0 in
    let new : has words stop ≡ false = sym c.bit_set.ensures ∙ c.if-bit_set.false in
    let bit_is : 1 * 2 ^ (stop % 32) % 4294967296 ≡ 2 ^ (stop % 32) = shifted (stop % 32) (omega arith) in
    (sym new, ap (λ (b : ℕ). set words (stop / 32) (word + b)) bit_is ∙ sym (with_new words stop new))

pub returns-else-i-words : goal.returns-else-i-words
unfolding has
returns-else-i-words c = let h = c.if-i-words.false in
    (sym (has_none_past c.args.words.now c.args.stop h), sym (same-past c.args.words.now c.args.stop h))
