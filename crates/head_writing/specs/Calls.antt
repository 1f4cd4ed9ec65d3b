-- The outcome of writing a head.
use Rattle.std.specs.Prelude.{not, List, [], ◌∷◌, ◌++◌, ℕ, ltb, length, drop}
use Rattle.refusals.specs.Outcomes.{Check, Outcome, outcome, ◌if◌}
use Rattle.parameters.specs.Sets.{ParameterSet, parameter_checks}
use Rattle.heads.specs.Kinds.{known_kind}
use Rattle.heads.specs.Heads.{head_length, head_bytes}

-- "Writing: 19, then the same from the parameters on": a head, to the front of what is lent, which has room for it or is refused by 7.
unfoldable pub head_writing_checks : ℕ → ParameterSet → ℕ → List Check
head_writing_checks kind p room =
    19 if not (known_kind kind)
    ∷ parameter_checks p ++ (7 if ltb room head_length ∷ [])

unfoldable pub writing_head : ℕ → ParameterSet → List ℕ → Outcome (List ℕ)
writing_head kind p old = outcome (head_writing_checks kind p (length old)) (head_bytes kind p ++ drop head_length old)
