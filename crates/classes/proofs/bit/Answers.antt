-- `bit` meets its contract.
use mathlib.Core.Path.{◌≡◌, sym, ◌∙◌, ap, subst}
use mathlib.Core.Bool.{Bool, true, false}
use Prim.Native.Nat.{ℕ, zero, suc, ◌<◌}
use native.Mathlib.Omega.{arith}
use lib.Dec.{T, eqb, eqb→eq}
use lib.IntN.{ℤ}
use mir.Syntax.{w64}
use mir.Val.{bool_byte, to_z, of_z}
use Rattle.integers.proofs.Machine.{cast_read}
use Rattle.eisenstein.specs.Reduction.{bit}
use Rattle.eisenstein.proofs.Modulo2.{bit_lt}
use Rattle.classes.proofs.bit.Goals as goal

-- the byte of the test whether a bit is 1
byte : (b r : ℕ) (t : Bool) → b < 2 → t ≡ eqb b 1 → r ≡ bool_byte t → (r ≡ b) × (r < 2)
byte b r true p h e = (e ∙ sym (eqb→eq b 1 (subst T h tt)), omega (arith, e))
byte zero r false p h e = (e, omega (arith, e))
byte (suc zero) r false p h e = absurd (cc)
byte (suc (suc b)) r false p h e = absurd (omega arith)

pub returns : goal.returns
returns c =
    let read : to_z w64 (of_z w64 c.from.result) ≡ c.args.x = ap (λ (z : ℤ). to_z w64 (of_z w64 z)) c.from.ensures ∙ cast_read w64 tt c.ranges.x in
    byte (bit c.args.x) c.from-2.result c.odd.result (bit_lt c.args.x) (c.odd.ensures ∙ ap (λ (z : ℤ). eqb (bit z) 1) read) c.from-2.ensures
