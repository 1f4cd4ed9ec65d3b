-- The outcome of convolution modulo q, after its refusals. The output is known by its length, `room`.
use Rattle.std.specs.Prelude.{List, ◌++◌, ℕ, ℤ}
use Rattle.refusals.specs.Outcomes.{Outcome, outcome}
use Rattle.eisenstein.specs.Reduction.{mod_q}
use Rattle.parameters.specs.Sets.{ParameterSet, parameter_checks}
use Rattle.polynomials.specs.Polynomials.{coefficient, array, convolution}
use Rattle.convolution_refusals.specs.Checks.{convolving_checks}

unfoldable pub convolving : ParameterSet → (x y : List ℤ) → ℕ → Outcome (List ℤ)
convolving p x y room =
    outcome (parameter_checks p ++ convolving_checks p.N p.q x y room)
    (array p.N (λ i. mod_q p.q (convolution p.N (coefficient x) (coefficient y) i)))
