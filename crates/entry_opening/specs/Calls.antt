-- The outcome of opening an entry of a bundle, whose sealed array is lent as the part of the bundle that it is.
use Rattle.std.specs.Prelude.{not, List, [], ◌∷◌, ◌++◌, ℕ, ◌*◌, eqb, ℤ, length}
use Rattle.refusals.specs.Outcomes.{Check, Outcome, outcome, first, ◌if◌}
use Rattle.parameters.specs.Sets.{ParameterSet, parameter_checks}
use Rattle.etru.specs.Calls.{opening}
use Rattle.files.specs.Files.{numbers_from}

-- parameters, 7 if the part has not 4N bytes
abbrev pub part_checks : ParameterSet → ℕ → List Check
part_checks p part = parameter_checks p ++ (7 if not (eqb part (4 * p.N)) ∷ [])

-- "Opening an entry gives what opening that array alone gives."
unfoldable pub opening_entry : ParameterSet → (f F2 : List ℤ) → (part : List ℕ) → ℕ → Outcome (List ℕ)
opening_entry p f F2 part room = first (outcome (part_checks p (length part)) (tt {0})) (opening p f F2 (numbers_from part) room)
