-- `message_bit` meets its contract.
use mir.Syntax.{w64}
use mathlib.Core.Path.{◌≡◌, refl, sym, ◌∙◌, ap, subst}
use mathlib.Core.Bool.{Bool, true, false}
use Prim.Native.Nat.{ℕ, ◌<◌}
use native.Mathlib.Omega.{arith}
use borrow.Author.Rules.{rules}
use borrow.Author.Tests.{eqb-true, eqb-false, le-ltb}
use lib.Dec.{eqb}
use lib.IntN.{ℤ}
use mir.Val.{bool_byte}
use mir.Facts.{to_z-of_z}
use Rattle.polynomials.specs.Polynomials.{coefficient}
use Rattle.eisenstein.specs.Reduction.{bit}
use Rattle.eisenstein.proofs.Modulo2.{bit_lt}
use Rattle.packing.specs.Messages.{message_bit}
use Rattle.packing.proofs.RoundTrips.{past-bit}
use Rattle.message_unpacking.proofs.Unpacked.{bit_of_array}
use Rattle.message_unpacking.proofs.messages.message_bit.Goals as goal
use Rattle.message_unpacking.proofs.messages.message_bit.Goals.{then-k-n, else-k-n}

small : (b : Bool) → bool_byte b < 2
small true = omega arith
small false = omega arith

-- the bit that was looked at
odd_bit : (z : ℤ) → bool_byte (eqb (bit z) 1) ≡ bit z
odd_bit z = go (eqb (bit z) 1) refl
  where
    go : (b : Bool) → eqb (bit z) 1 ≡ b → bool_byte b ≡ bit z
    go true e = sym (eqb-true (bit z) 1 e)
    go false e = let ne = eqb-false (bit z) 1 e in omega (arith, bit_lt z)

pub returns : goal.returns
returns c =
    let b : bool_byte c.if-k-n.from ≡ message_bit c.args.n (coefficient c.args.m.now) c.args.k =
    elim c.if-k-n.branch [
      | then-k-n w ↦
          ap bool_byte (w.from-is ∙ w.odd.ensures ∙ ap (λ (z : ℤ). eqb (bit z) 1) (to_z-of_z {w = w64} (search rules)))
          ∙ odd_bit w.at.result
          ∙ sym (bit_of_array _ _ _ w.if-k-n.true ∙ ap bit (sym w.at.ensures.0))
      | else-k-n w ↦ ap bool_byte (w.from-is ∙ le-ltb _ _ w.if-k-n.false) ∙ sym (past-bit _ _ _ w.if-k-n.false)
    ] in
    (c.from.ensures ∙ b, subst (λ (k : ℕ). k < 2) (sym c.from.ensures) (small c.if-k-n.from))
