-- A number that is not outside of a range: from its low end to its high one, and the other way.
use mathlib.Core.Path.{◌≡◌, sym, ap₂, subst}
use mathlib.Core.Bool.{Bool, false, not, ◌||◌}
use Prim.Native.Nat.{ℕ, ◌≤◌}
use borrow.Author.Tests.{le-ltb}
use lib.Dec.{T, ltb}
use mir.Facts.{or_no, ltb_no}
use Rattle.parameters.specs.Sets.{outside}

pub in_range_lem : (low high n : ℕ) → outside low high n ≡ false → n ≤ high
unfolding outside
in_range_lem low high n e = ltb_no (or_no (ltb n low) (ltb high n) (subst (λ (t : Bool). T (not t)) (sym e) tt)).1

pub from_low : (low high n : ℕ) → outside low high n ≡ false → low ≤ n
unfolding outside
from_low low high n e = ltb_no (or_no (ltb n low) (ltb high n) (subst (λ (t : Bool). T (not t)) (sym e) tt)).0

pub not_outside : (low high n : ℕ) → low ≤ n → n ≤ high → outside low high n ≡ false
unfolding outside
not_outside low high n l h = ap₂ ◌||◌ (le-ltb n low l) (le-ltb high n h)
