-- A pair of files, once both are read: the outcome of what the key check answered and of the arrays.
use Rattle.std.specs.Prelude.{not, List, [], ◌∷◌, ℕ, ℤ}
use Rattle.refusals.specs.Outcomes.{Outcome, outcome, first, ◌if◌}
use Rattle.parameters.specs.Sets.{ParameterSet}
use Rattle.parameter_comparison.specs.Comparison.{same_set}
use Rattle.packing.specs.Messages.{message_bytes}
use Rattle.etru.specs.Calls.{opening}
use Rattle.files.specs.Files.{array_at}

-- Opening with f, F2 and e, one after another in an array.
abbrev pub opening_arrays : ParameterSet → List ℤ → Outcome (List ℕ)
opening_arrays p l = opening p (array_at p 0 l) (array_at p 1 l) (array_at p 2 l) (message_bytes p.N)

-- A pair whose key check answered so: 20, then 13 and 14, then opening itself.
abbrev pub opening_with : (p p' : ParameterSet) → Outcome (Unit {0}) → List ℤ → Outcome (List ℕ)
opening_with p p' key l = first (outcome (20 if not (same_set p p') ∷ []) (tt {0})) (first key (opening_arrays p l))
