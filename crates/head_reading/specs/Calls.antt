-- The outcome of reading a head.
use Rattle.std.specs.Prelude.{Bool, not, ◌&&◌, List, [], ◌∷◌, ◌++◌, ℕ, ltb, eqb, length, get_or}
use Rattle.refusals.specs.Outcomes.{Check, Outcome, outcome, ◌if◌}
use Rattle.parameters.specs.Sets.{ParameterSet, parameter_checks}
use Rattle.heads.specs.Kinds.{known_kind}
use Rattle.heads.specs.Heads.{head_length, version, unsigned_at, head_of}

-- "mark is not EIZ", "version is not 1": what bytes 0 to 4 are to be
unfoldable pub marked : List ℕ → Bool
marked file = eqb (get_or file 0 0) 69 && (eqb (get_or file 1 0) 73 && eqb (get_or file 2 0) 90)

unfoldable pub version_one : List ℕ → Bool
version_one file = eqb (unsigned_at file 3) version

-- The refusals of a head, in order.
unfoldable pub head_checks : ℕ → List ℕ → List Check
head_checks kind file =
    16 if ltb (length file) head_length
    ∷ 17 if not (marked file)
    ∷ 18 if not (version_one file)
    ∷ 19 if not (known_kind kind && eqb (get_or file 5 0) kind)
    ∷ []

unfoldable pub reading_head : ℕ → List ℕ → Outcome ParameterSet
reading_head kind file = outcome (head_checks kind file ++ parameter_checks (head_of file)) (head_of file)
