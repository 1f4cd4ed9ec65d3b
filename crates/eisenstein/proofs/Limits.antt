-- A value whose parts are within a limit, from the test.
use mathlib.Core.Path.{◌≡◌, sym, ap₂, subst}
use mathlib.Core.Bool.{Bool, false, not, ◌||◌}
use Prim.Native.Nat.{ℕ, ◌≤◌}
use borrow.Author.Tests.{le-ltb}
use lib.Dec.{T, ltb}
use lib.IntN.{nat_abs}
use mir.Facts.{or_no, ltb_no}
use Rattle.eisenstein.specs.Values.{ℤ[ω]}
use Rattle.eisenstein.specs.Calls.{beyond}

pub within : (m : ℕ) (x : ℤ[ω]) → beyond m x ≡ false → (nat_abs x.a ≤ m) × (nat_abs x.b ≤ m)
unfolding beyond
within m x e =
    let (p, q) = or_no (ltb m (nat_abs x.a)) (ltb m (nat_abs x.b)) (subst (λ (t : Bool). T (not t)) (sym e) tt) in
    (ltb_no p, ltb_no q)

pub not_beyond : (m : ℕ) (x : ℤ[ω]) → nat_abs x.a ≤ m → nat_abs x.b ≤ m → beyond m x ≡ false
unfolding beyond
not_beyond m x p q = ap₂ ◌||◌ (le-ltb m (nat_abs x.a) p) (le-ltb m (nat_abs x.b) q)
