-- The sets of arrays of a parameter set (document 01, 'Where each number is checked').
use Rattle.std.specs.Prelude.{Bool, not, List, [], ◌∷◌, ◌++◌, ℕ, ℤ, length}
use Rattle.refusals.specs.Outcomes.{Check, Outcome, outcome, ◌if◌}
use Rattle.parameters.specs.Sets.{ParameterSet, parameter_checks}
use Rattle.polynomials.specs.Polynomials.{coefficient, units_only, whole_triples, reduced_q, reduced2}
use Rattle.arrays.specs.Arrays.{full}
use Rattle.array_sets.specs.declared.ArraySet.{ArraySet}
use Rattle.array_sets.specs.declared.ArraySet.TheVariants.{F, G, Phi, ReducedModulo2, ReducedModuloQ}

-- "Arrays", refusals 8 to 12: whether an array is in a set, and the refusal if it is not.
abbrev pub in_set : ParameterSet → ArraySet → List ℤ → Bool
in_set p F x = units_only p.N p.t (coefficient x)
in_set p G x = whole_triples p.N p.s (coefficient x)
in_set p Phi x = whole_triples p.N p.s (coefficient x)
in_set p ReducedModulo2 x = reduced2 p.N (coefficient x)
in_set p ReducedModuloQ x = reduced_q p.N p.q (coefficient x)

abbrev pub not_in_set : ArraySet → ℕ
not_in_set F = 8
not_in_set G = 9
not_in_set Phi = 10
not_in_set ReducedModulo2 = 11
not_in_set ReducedModuloQ = 12

-- One array on its own: parameters, 7, then the refusal of its set.
unfoldable pub array_checks : ParameterSet → ArraySet → List ℤ → List Check
array_checks p a x = 7 if not (full p.N (length x)) ∷ not_in_set a if not (in_set p a x) ∷ []

unfoldable pub array_check : ParameterSet → ArraySet → List ℤ → Outcome (Unit {0})
array_check p a x = outcome (parameter_checks p ++ array_checks p a x) tt
