-- `dot` meets its contract. The loop's invariant: the sums so far, and a bound on them by the count of terms.
use mathlib.Core.Path.{◌≡◌}
use mathlib.Core.List.{List}
use Prim.Native.Nat.{ℕ, ◌+◌, ◌-◌, ◌*◌, ◌^◌, ◌≤◌}
use lib.IntN.{ℤ, nat_abs}
use Rattle.eisenstein.specs.Values.{ℤ[ω], value, ◌*ω◌}
use Rattle.polynomials.specs.Polynomials.{coefficient, sum}
use Rattle.halved_products.proofs.direct.dot.Given as goal

abbrev pub terms : List ℤ → List ℤ → ℕ → ℕ → ℕ → ℤ[ω]
terms x y from base j = coefficient x (from + j) *ω coefficient y (base - (from + j))

abbrev pub invariant-loop-j : goal.invariant-loop-j
invariant-loop-j l =
    (value l.a l.b ≡ sum (l.j - l.from) (terms l.x l.y l.from l.base)) × (nat_abs l.a ≤ (l.j - l.from) * 2 ^ 49) × (nat_abs l.b ≤ (l.j - l.from) * 2 ^ 49)
