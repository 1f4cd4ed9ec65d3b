-- A modulus and its norm, as the code calculates with them.
use mathlib.Core.List.{List, [], ◌∷◌}
use Prim.Native.Nat.{◌^◌}
use native.Mathlib.Omega.{arith}
use lib.IntN.{pos}
use Rattle.integers.proofs.Machine.{Leaf, given}
use Rattle.eisenstein.specs.Values.{ℤ[ω], value, norm}
use Rattle.eisenstein.proofs.Norms.{norm-bound}
use Rattle.remainders.specs.declared.Modulus.{Modulus}

abbrev pub value_of : Modulus → ℤ[ω]
value_of m = value m.c m.d

-- c, d and the norm, in this order
abbrev pub leaves : Modulus → List Leaf
leaves m =
    given m.c 4095 m.c_in_range
    ∷ given m.d 4095 m.d_in_range
    ∷ record {
      code = m.norm;
      meant = pos (norm (value_of m));
      bound = 2 ^ 26;
      is = m.norm_is;
      small = omega (arith, norm-bound (value_of m) 4095 m.c_in_range m.d_in_range);
    }
    ∷ []
