-- `count_unit` meets its contract. The loop's invariant: how many of the coefficients so far are the unit.
use mathlib.Core.Bool.{Bool}
use mathlib.Core.List.{List}
use Prim.Native.Nat.{ℕ}
use lib.IntN.{ℤ}
use mir.Syntax.{w32}
use mir.Val.{to_z, of_z}
use Rattle.eisenstein.specs.Values.{ℤ[ω], value, same}
use Rattle.polynomials.specs.Polynomials.{coefficient}
use Rattle.arrays.proofs.Scans.{Counted}
use Rattle.set_tests.proofs.scans.count_unit.Given as goal

-- the unit, as a callee is handed it
abbrev pub handed : (a b : ℤ) → ℤ[ω]
handed a b = value (to_z w32 (of_z w32 a)) (to_z w32 (of_z w32 b))

abbrev pub test : List ℤ → (a b : ℤ) → ℕ → Bool
test x a b i = same (coefficient x i) (handed a b)

abbrev pub invariant-loop-i : goal.invariant-loop-i
invariant-loop-i l = Counted (test l.x l.u.a l.u.b) l.i l.found
