-- `spare_bit_set` meets its contract.
use mathlib.Core.Path.{◌≡◌, refl, sym, ◌∙◌, ap, subst}
use mathlib.Core.Bool.{Bool, true, false, not, ◌||◌}
use mathlib.Core.List.{List}
use Prim.Native.Nat.{ℕ, ◌-◌, ◌*◌}
use native.Mathlib.Omega.{arith}
use borrow.Author.Rules.{rules}
use borrow.Author.Tests.{lt-ltb, le-ltb}
use lib.Dec.{T, eqb, ltb}
use Rattle.std.proofs.Common.{tests}
use Rattle.std.proofs.lemmas.Iterator.{YieldsList-from_range}
use Rattle.std.proofs.lemmas.Iterator.Search.{any_from_yields_List}
use Rattle.eisenstein.proofs.Equality.{is_true}
use Rattle.polynomials.specs.Polynomials.{all}
use Rattle.polynomials.proofs.Members.{at_all}
use Rattle.packing.specs.Messages.{bit_of, spare_bit_set}
use Rattle.arrays.proofs.Scans.{any_of_range}
use Rattle.packing.proofs.spare_bit_set.Goals as goal

abbrev test : ℕ → List ℕ → ℕ → Bool
test n message k = ltb k (2 * n) || eqb (bit_of message k) 0

-- no bit of the message itself is spare
message_bits : (n : ℕ) (message : List ℕ) → all (2 * n) (test n message) ≡ true
message_bits n message =
    is_true (all (2 * n) (test n message)) (at_all (2 * n) (test n message) (λ k l. subst (λ (t : Bool). T (t || eqb (bit_of message k) 0)) (sym (lt-ltb k (2 * n) l)) tt))

twice : (t : Bool) → t ≡ not (not t)
twice true = refl
twice false = refl

pub returns : goal.returns
unfolding spare_bit_set
returns c =
    let n = c.args.n in
    let message = c.args.message.now in
    any_from_yields_List (λ k. not (eqb (bit_of message k) 0)) _ _ c.any.result c.any.ensures.ran (YieldsList-from_range (2 * n) (8 * c.message_bytes.result) (8 * c.message_bytes.result - 2 * n) refl refl) (λ x b q k. search (rules, tests))
    ∙ any_of_range (λ k. not (eqb (bit_of message k) 0)) (test n message) (2 * n) (8 * c.message_bytes.result - 2 * n) (message_bits n message) (λ k l. ap (λ (t : Bool). t || eqb (bit_of message k) 0) (le-ltb k (2 * n) l) ∙ twice (eqb (bit_of message k) 0))
    ∙ ap (λ (m : ℕ). not (all m (test n message))) (omega (arith, c.message_bytes.ensures))
