-- A signed number of 16 bits as it is handed to a callee, or stored, in 32 bits.
use mathlib.Core.Path.{◌≡◌}
use Prim.Native.Nat.{◌≤◌}
use lib.Dec.{lit<}
use lib.IntN.{ℤ, nat_abs}
use mir.Syntax.{w32}
use mir.Val.{to_z, of_z}
use mir.Facts.{to_z-of_z}
use Rattle.integers.proofs.Machine.{sfits_within}

pub read_32 : (z : ℤ) → nat_abs z ≤ 32768 → to_z w32 (of_z w32 z) ≡ z
read_32 z h = to_z-of_z {w = w32} (sfits_within z h (lit< tt))
