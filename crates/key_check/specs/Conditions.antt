-- What the key check's products may count on.
use Rattle.std.specs.Prelude.{◌≡◌, List, ◌*◌, T, ℤ, length}
use Rattle.refusals.specs.Outcomes.{Passes}
use Rattle.parameters.specs.Sets.{ParameterSet, parameter_checks}
use Rattle.polynomials.specs.Polynomials.{coefficient, units_only, reduced_q, reduced2}

-- An accepted parameter set, and f, F2 and Fq of full length, each in its set.
pub record KeyArrays (p : ParameterSet) (f F2 Fq : List ℤ) : Type 0 where
  pub accepted : Passes (parameter_checks p)
  pub f_full : length f ≡ 2 * p.N
  pub F2_full : length F2 ≡ 2 * p.N
  pub Fq_full : length Fq ≡ 2 * p.N
  pub f_units : T (units_only p.N p.t (coefficient f))
  pub F2_reduced : T (reduced2 p.N (coefficient F2))
  pub Fq_reduced : T (reduced_q p.N p.q (coefficient Fq))
