-- `is_remainder` meets its contract: what the first two tests say is what `unbeaten` asks.
use mathlib.Core.Path.{◌≡◌, sym, ◌∙◌, ap, ap₂, subst}
use mathlib.Core.Bool.{false, not}
use Prim.Native.Nat.{◌≤◌, ◌^◌}
use borrow.Author.Tests.{not-true}
use lib.Dec.{T}
use lib.IntN.{ℤ, nat_abs}
use lib.Signed.{nat_abs-le}
use mir.Syntax.{w32, w64}
use mir.Val.{to_z, of_z, SFits}
use mir.Facts.{to_z-of_z}
use Rattle.integers.proofs.Machine.{cast_read}
use Rattle.eisenstein.specs.Values.{ℤ[ω], value, 𝟘, same}
use Rattle.eisenstein.specs.Calls.{beyond}
use Rattle.eisenstein.proofs.Equality.{same_true}
use Rattle.eisenstein.proofs.Limits.{within}
use Rattle.eisenstein.proofs.Pairs.{pair_read}
use Rattle.own_remainders.proofs.is_remainder.Goals as goal
use Rattle.own_remainders.proofs.is_remainder.Goals.{then-not-modulus_out_of_range, else-not-modulus_out_of_range}

-- a part of 32 bits that is made one of 64, as a callee is handed it
read : {z y : ℤ} → SFits w32 z → y ≡ z → to_z w64 (of_z w64 y) ≡ z
read f e = ap (λ (y : ℤ). to_z w64 (of_z w64 y)) (e ∙ sym (to_z-of_z f)) ∙ cast_read w64 tt f

wide : {z y : ℤ} → SFits w32 z → y ≡ to_z w32 (of_z w32 z) → to_z w64 (of_z w64 y) ≡ z
wide f e = read f (e ∙ to_z-of_z f)

size : {z y : ℤ} → SFits w32 z → y ≡ to_z w32 (of_z w32 z) → nat_abs (to_z w64 (of_z w64 y)) ≤ 2 ^ 31
size {z} f e = subst (λ (y : ℤ). nat_abs y ≤ 2 ^ 31) (sym (wide f e)) (nat_abs-le z f.sfits)

pub unbeaten-requires : goal.unbeaten-requires
unbeaten-requires c =
    let q = value c.args.c c.args.d in
    let a_read = wide c.ranges.c c.from.ensures in
    let b_read = wide c.ranges.d c.from-2.ensures in
    elim c.if-not-modulus_out_of_range.branch [
      | then-not-modulus_out_of_range w ↦
          let in_range : beyond 4095 q ≡ false = sym (c.modulus_out_of_range.ensures ∙ ap (beyond 4095) (pair_read c.ranges.c c.ranges.d)) ∙ w.if-not-modulus_out_of_range.true in
          let some : same q 𝟘 ≡ false =
          sym (w.is_zero.ensures ∙ ap (λ (y : ℤ[ω]). same y 𝟘) (ap₂ value (read c.ranges.c a_read) (read c.ranges.d b_read)))
          ∙ not-true _ (sym w.value-is ∙ c.if-not-is_zero.true) in
          let k = within 4095 q in_range in (
            size c.ranges.a c.from-3.ensures,
            size c.ranges.b c.from-4.ensures,
            subst (λ (y : ℤ). nat_abs y ≤ 4095) (sym a_read) k.0,
            subst (λ (y : ℤ). nat_abs y ≤ 4095) (sym b_read) k.1,
            (λ e. subst T (sym (same_true (sym (ap₂ value a_read b_read) ∙ e)) ∙ some) tt),
          )
      | else-not-modulus_out_of_range w ↦ cc (sym c.if-not-is_zero.true ∙ w.value-is ∙ ap not w.if-not-modulus_out_of_range.false)
    ]
