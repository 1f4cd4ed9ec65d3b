-- `parts_together` meets its contract. The loop's invariant: whether the parts of every coefficient so far are together.
use mathlib.Core.Path.{◌≡◌}
use mathlib.Core.Bool.{Bool, not}
use mathlib.Core.List.{List}
use Prim.Native.Nat.{ℕ}
use lib.Dec.{ltb}
use lib.IntN.{ℤ, nat_abs, ◌-ℤ◌}
use Rattle.polynomials.specs.Polynomials.{coefficient, all}
use Rattle.array_limits.proofs.limits.parts_together.Given as goal

abbrev pub test : List ℤ → ℕ → Bool
test x i = not (ltb 1 (nat_abs ((coefficient x i).a -ℤ (coefficient x i).b)))

abbrev pub invariant-loop-i : goal.invariant-loop-i
invariant-loop-i l = l.together ≡ all l.i (test l.x)
