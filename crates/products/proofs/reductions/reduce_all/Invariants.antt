-- `reduce_all` meets its contract. The loop's invariant: the coefficients so far are reduced, the others as they came.
use Rattle.eisenstein.specs.Values.{ℤ[ω]}
use Rattle.polynomials.specs.Polynomials.{coefficient}
use Rattle.arrays.proofs.Changing.{Changed}
use Rattle.products.specs.Products.{Computes}
use Rattle.products.proofs.reductions.reduce_all.Given as goal

abbrev pub invariant-loop-i : goal.invariant-loop-i
invariant-loop-i g l = (m : ℤ[ω] → ℤ[ω]) → Computes (goal.F-post g l.remainder) m → Changed coefficient (λ i. m (coefficient l.initial.x i)) l.initial.x l.x l.i
