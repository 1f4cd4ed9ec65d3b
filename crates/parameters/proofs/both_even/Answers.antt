-- `both_even` meets its contract: a part is even where its last bit is not 1.
use mathlib.Core.Path.{◌≡◌, refl, sym, ◌∙◌, ap, ap₂}
use mathlib.Core.Bool.{Bool, not, ◌&&◌}
use Prim.Native.Nat.{ℕ, zero, suc, ◌%◌, ◌<◌}
use native.Mathlib.Omega.{arith}
use lib.Dec.{eqb}
use lib.IntN.{ℤ, nat_abs}
use mir.Syntax.{w32, w64}
use mir.Val.{SFits, to_z, of_z}
use Rattle.integers.proofs.Machine.{cast_read}
use Rattle.eisenstein.specs.Reduction.{bit}
use Rattle.parameters.specs.Sets.{even}
use Rattle.parameters.proofs.both_even.Goals as goal
use Rattle.parameters.proofs.both_even.Goals.{Start}

even_not_odd : (z : ℤ) → even z ≡ not (eqb (bit z) 1)
unfolding even bit
even_not_odd z = go (nat_abs z % 2) (omega arith)
  where
    go : (r : ℕ) → r < 2 → eqb r 0 ≡ not (eqb r 1)
    go zero h = refl
    go (suc zero) h = refl
    go (suc (suc r)) h = absurd (omega arith)

-- the test of a part, from what `odd` returned of it
even_is : {z : ℤ} {t : Bool} → SFits w32 z → t ≡ eqb (bit (to_z w64 (of_z w64 (to_z w32 (of_z w32 z))))) 1 → even z ≡ not t
even_is {z} f e = even_not_odd z ∙ sym (ap not (e ∙ ap (λ (y : ℤ). eqb (bit y) 1) (cast_read w64 tt f)))

pub returns-then-not-odd : goal.returns-then-not-odd
returns-then-not-odd c = let s = (goal.at.returns-then-not-odd c).Start in
    sym (ap₂ ◌&&◌ (even_is s.ranges.c c.odd.ensures ∙ ap not c.if-not-odd.true) (even_is s.ranges.d c.odd-then-not-odd.ensures))

pub returns-else-not-odd : goal.returns-else-not-odd
returns-else-not-odd c = let s = (goal.at.returns-else-not-odd c).Start in
    ap not c.if-not-odd.false ∙ sym (ap (λ (t : Bool). t && even s.args.d) (even_is s.ranges.c c.odd.ensures ∙ ap not c.if-not-odd.false))
