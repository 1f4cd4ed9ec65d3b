-- `count_nonzero` meets its contract. The loop's invariant: how many of the coefficients so far are not zero.
use mathlib.Core.Bool.{Bool}
use mathlib.Core.List.{List}
use Prim.Native.Nat.{ℕ}
use lib.IntN.{ℤ}
use Rattle.polynomials.specs.Polynomials.{coefficient, nonzero}
use Rattle.arrays.proofs.Scans.{Counted}
use Rattle.set_tests.proofs.scans.count_nonzero.Given as goal

abbrev pub test : List ℤ → ℕ → Bool
test x i = nonzero (coefficient x i)

abbrev pub invariant-loop-i : goal.invariant-loop-i
invariant-loop-i l = Counted (test l.x) l.i l.found
