-- A value as a callee is handed it: by its parts, each as it is stored, and stored again where it is cast.
use mathlib.Core.Path.{◌≡◌, ap₂}
use lib.Dec.{T, leb}
use lib.IntN.{ℤ}
use mir.Syntax.{Width}
use mir.Val.{SFits, to_z, of_z, hbits}
use mir.Facts.{to_z-of_z}
use Rattle.integers.proofs.Machine.{cast_read}
use Rattle.eisenstein.specs.Values.{value}

pub pair_read : {w : Width} {a b : ℤ} → SFits w a → SFits w b → value (to_z w (of_z w a)) (to_z w (of_z w b)) ≡ value a b
pair_read f g = ap₂ value (to_z-of_z f) (to_z-of_z g)

pub pair_cast : {w : Width} (v : Width) {a b : ℤ} → T (leb (hbits w) (hbits v)) → SFits w a → SFits w b → value (to_z v (of_z v (to_z w (of_z w a)))) (to_z v (of_z v (to_z w (of_z w b)))) ≡ value a b
pair_cast v t f g = ap₂ value (cast_read v t f) (cast_read v t g)
