-- `numbers_within` meets its contract. The loop's invariant: whether every number so far is within the limit.
use mathlib.Core.Path.{◌≡◌}
use mathlib.Core.Bool.{Bool, not}
use mathlib.Core.List.{List}
use Prim.Native.Nat.{ℕ}
use lib.Dec.{ltb}
use lib.IntN.{ℤ, pos, nat_abs}
use lib.ListN.{get_or}
use Rattle.polynomials.specs.Polynomials.{all}
use Rattle.array_limits.proofs.limits.numbers_within.Given as goal

abbrev pub test : ℕ → List ℤ → ℕ → Bool
test b x k = not (ltb b (nat_abs (get_or x k (pos 0))))

abbrev pub invariant-loop-z : goal.invariant-loop-z
invariant-loop-z l = l.within ≡ all l.z-index (test (nat_abs l.limit) l.x)
