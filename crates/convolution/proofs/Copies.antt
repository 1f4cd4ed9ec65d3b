-- An output's array in place of another.
use mathlib.Core.Path.{◌≡◌, ◌∙◌}
use mathlib.Core.List.{List}
use Prim.Native.Nat.{ℕ}
use lib.IntN.{ℤ}
use lib.ListN.{length}
use Rattle.eisenstein.specs.Values.{ℤ[ω]}
use Rattle.halved_products.specs.Conditions.{Convolvable}

-- another output of the same length
pub convolvable_to : {n : ℕ} {q : ℤ[ω]} {x y out : List ℤ} (o : List ℤ) → length o ≡ length out → Convolvable n q x y out → Convolvable n q x y o
convolvable_to o e k = record {
  N_small = k.N_small;
  modulus = k.modulus;
  x_long = k.x_long;
  y_long = k.y_long;
  out_long = e ∙ k.out_long;
  x_small = k.x_small;
  y_small = k.y_small;
}
