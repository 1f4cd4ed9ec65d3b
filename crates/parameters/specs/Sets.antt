-- Document 01, 'Parameters', and refusals 1 to 6.
use Rattle.std.specs.Prelude.{Err, Ok, Result}
use Rattle.refusals.specs.declared.Refusal.{Refusal}
use Rattle.std.specs.Prelude.{Bool, not, ◌&&◌, ◌||◌, List, [], ◌∷◌, ℕ, ◌+◌, ◌*◌, ◌%◌, ltb, eqb, ℤ}
use Rattle.refusals.specs.Outcomes.{Check, ◌if◌, Outcome, done, refused, outcome}
use Rattle.refusals.specs.Numbers.{number_of}
use Rattle.eisenstein.specs.Values.{ℤ[ω], value, norm}
use Rattle.eisenstein.specs.Reduction.{bit}
use Rattle.eisenstein.specs.Calls.{beyond}
use Rattle.parameters.specs.declared.Parameters.{Parameters}

-- A parameter set: N coefficients, the modulus q, s nonzero coefficients of g and of φ, and t of f.
pub record ParameterSet : Type 0 where
  pub N : ℕ
  pub q : ℤ[ω]
  pub s : ℕ
  pub t : ℕ

abbrev pub set : ℕ → ℤ → ℤ → ℕ → ℕ → ParameterSet
set n c d s t = record { N = n; q = value c d; s = s; t = t }

abbrev pub set_of : Parameters → ParameterSet
set_of p = set p.n p.c p.d p.s p.t

-- n is not from low to high
unfoldable pub outside : ℕ → ℕ → ℕ → Bool
outside low high n = ltb n low || ltb high n

unfoldable pub even : ℤ → Bool
even z = eqb (bit z) 0

-- "4 × (2s + t)² is below the norm of q": our no-failure bound.
unfoldable pub bound : ParameterSet → ℕ
bound p = 4 * ((2 * p.s + p.t) * (2 * p.s + p.t))

-- "Parameters: 1 to 6."
unfoldable pub parameter_checks : ParameterSet → List Check
parameter_checks p =
    1 if outside 3 1024 p.N
    ∷ 2 if beyond 4095 p.q
    ∷ 3 if (even p.q.a && even p.q.b)
    ∷ 4 if (outside 3 p.N p.s || not (eqb (p.s % 3) 0))
    ∷ 5 if outside 1 p.N p.t
    ∷ 6 if not (ltb (bound p) (norm p.q))
    ∷ []

unfoldable pub parameters : ParameterSet → Outcome ParameterSet
parameters p = outcome (parameter_checks p) p

-- The answer of the maker, as an outcome.
abbrev pub made : Result Parameters Refusal → Outcome ParameterSet
made (Ok p) = done (set_of p)
made (Err r) = refused (number_of r)
