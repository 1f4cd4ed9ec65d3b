-- What an array that passes the tests of N and of its length tells the loops over it, and a number that `from` has widened.
use mathlib.Core.Path.{◌≡◌, sym, ◌∙◌, ap, subst}
use mathlib.Core.Bool.{Bool, true, ◌&&◌}
use mathlib.Core.List.{List}
use Prim.Native.Nat.{ℕ, ◌*◌, ◌^◌, ◌<◌}
use native.Mathlib.Omega.{arith}
use lib.Dec.{T, leb, leb→le, eqb→eq}
use lib.IntN.{ℤ}
use lib.ListN.{length}
use mir.Syntax.{w32, w64}
use mir.Val.{SFits, to_z, of_z}
use mir.Facts.{and_yes}
use Rattle.integers.proofs.Machine.{cast_read}
use Rattle.arrays.specs.Arrays.{full}

pub sized : (n : ℕ) (x : List ℤ) (t : Bool) → (leb n 1024 && (full n (length x) && t)) ≡ true → (n < 2 ^ 32) × (length x ≡ 2 * n)
sized n x t e =
    let (small, rest) = and_yes (leb n 1024) (full n (length x) && t) (subst T (sym e) tt) in
    (omega (arith, leb→le n 1024 small), eqb→eq (length x) (2 * n) (and_yes (full n (length x)) t rest).0)

-- a part of 32 bits that is made one of 64, as a callee is handed it
pub wide : {z y : ℤ} → SFits w32 z → y ≡ to_z w32 (of_z w32 z) → to_z w64 (of_z w64 y) ≡ z
wide f e = ap (λ (y : ℤ). to_z w64 (of_z w64 y)) e ∙ cast_read w64 tt f
