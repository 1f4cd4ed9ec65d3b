-- The test of a modulus, from the facts and back.
use mathlib.Core.Path.{◌≡◌, refl, sym, ap₂, subst}
use mathlib.Core.Bool.{Bool, true, false, not, ◌&&◌}
use mathlib.Core.Logic.{◌≢◌}
use Prim.Native.Nat.{◌^◌, ◌≤◌}
use lib.Dec.{T}
use lib.IntN.{nat_abs}
use mir.Facts.{and_yes}
use Rattle.refusals.specs.Outcomes.{written}
use Rattle.eisenstein.specs.Values.{ℤ[ω], 𝟘, same}
use Rattle.eisenstein.specs.Reduction.{mod_q}
use Rattle.eisenstein.specs.Calls.{beyond}
use Rattle.eisenstein.proofs.Equality.{same_true, same_false}
use Rattle.eisenstein.proofs.Limits.{not_beyond}
use Rattle.remainders.specs.Calls.{reduce_q}
use Rattle.remainders.proofs.Limits.{remainder_is}
use Rattle.arrays.specs.Conditions.{Modulus}
use Rattle.products.specs.Products.{usable}

pub usable_holds : (q : ℤ[ω]) → beyond 4095 q ≡ false → q ≢ 𝟘 → usable q ≡ true
unfolding usable
usable_holds q b n = ap₂ (λ (s t : Bool). not s && not t) b (same_false q 𝟘 n)

pub modulus_of : (q : ℤ[ω]) → usable q ≡ true → Modulus q
unfolding usable
modulus_of q h =
    let a = and_yes (not (beyond 4095 q)) (not (same q 𝟘)) (subst T (sym h) tt) in
    record { in_range = negated (beyond 4095 q) a.0; not_zero = λ e. subst (λ (t : Bool). T (not t)) (same_true e) a.1 }
  where
    negated : (t : Bool) → T (not t) → t ≡ false
    negated true k = absurd k
    negated false k = refl

-- within the limits nothing is refused
pub remainder_of_lem : (q x : ℤ[ω]) → Modulus q → nat_abs x.a ≤ 2 ^ 40 → nat_abs x.b ≤ 2 ^ 40 → written (reduce_q q x) 𝟘 ≡ mod_q q x
remainder_of_lem q x m a b = remainder_is q x m.in_range m.not_zero (not_beyond (2 ^ 40) x a b)
