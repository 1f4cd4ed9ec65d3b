-- `remainder_2` meets its contract: the two tests give the class.
use mathlib.Core.Path.{◌≡◌, sym, ◌∙◌, ap, ap₂}
use mathlib.Core.Bool.{Bool}
use lib.Dec.{eqb}
use lib.IntN.{ℤ}
use mir.Syntax.{w64}
use mir.Val.{SFits, to_z, of_z}
use mir.Facts.{to_z-of_z}
use Rattle.eisenstein.specs.Values.{value}
use Rattle.eisenstein.specs.Reduction.{bit, mod2}
use Rattle.eisenstein.proofs.Modulo2.{by_bits, mod2_by_bits}
use Rattle.eisenstein.proofs.remainder_2.Goals as goal

-- p and q are what the calls return of a and b, and p' and q' what the tests found
class : {a b : ℤ} {p q p' q' : Bool} → SFits w64 a → SFits w64 b → p ≡ eqb (bit (to_z w64 (of_z w64 a))) 1 → q ≡ eqb (bit (to_z w64 (of_z w64 b))) 1 → p ≡ p' → q ≡ q' → by_bits p' q' ≡ mod2 (value a b)
class {a} {b} f g e h t u =
    ap₂ by_bits (sym t ∙ e ∙ ap (λ (z : ℤ). eqb (bit z) 1) (to_z-of_z f)) (sym u ∙ h ∙ ap (λ (z : ℤ). eqb (bit z) 1) (to_z-of_z g))
    ∙ sym (mod2_by_bits (value a b))

pub returns-then-odd-2 : goal.returns-then-odd-2
returns-then-odd-2 c = let s = c.before.before.before.before in class s.ranges.a s.ranges.b c.odd.ensures c.odd-then-odd.ensures c.if-odd.true c.if-odd-2.true

pub returns-then-odd : goal.returns-then-odd
returns-then-odd c = let s = c.before.before.before.before in class s.ranges.a s.ranges.b c.odd.ensures c.odd-then-odd.ensures c.if-odd.true c.if-odd-2.false

pub returns-then-odd-3 : goal.returns-then-odd-3
returns-then-odd-3 c = let s = c.before.before.before.before in class s.ranges.a s.ranges.b c.odd.ensures c.odd-2.ensures c.if-odd.false c.if-odd-3.true

pub returns : goal.returns
returns c = let s = c.before.before.before.before in class s.ranges.a s.ranges.b c.odd.ensures c.odd-2.ensures c.if-odd.false c.if-odd-3.false
