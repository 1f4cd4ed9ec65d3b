-- The outcome of packing. An output is known by its length.
use Rattle.std.specs.Prelude.{not, ◌&&◌, List, [], ◌∷◌, ℕ, ◌*◌, eqb, ℤ, length}
use Rattle.refusals.specs.Outcomes.{Check, Outcome, outcome, ◌if◌}
use Rattle.parameters.specs.Sets.{outside}
use Rattle.polynomials.specs.Polynomials.{array}
use Rattle.packing.specs.Messages.{message_bytes, packed, spare_bit_set}

-- "Packing: 1, 7, 15."
unfoldable pub packing_checks : ℕ → List ℕ → ℕ → List Check
packing_checks N message room =
    1 if outside 3 1024 N
    ∷ 7 if not (eqb (length message) (message_bytes N) && eqb room (2 * N))
    ∷ 15 if spare_bit_set N message
    ∷ []

unfoldable pub packing : ℕ → List ℕ → ℕ → Outcome (List ℤ)
packing N message room = outcome (packing_checks N message room) (array N (packed message))
