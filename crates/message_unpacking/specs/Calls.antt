-- The outcome of unpacking. An output is known by its length.
use Rattle.std.specs.Prelude.{not, ◌&&◌, List, [], ◌∷◌, ℕ, ◌*◌, eqb, ℤ, length}
use Rattle.refusals.specs.Outcomes.{Check, Outcome, outcome, ◌if◌}
use Rattle.parameters.specs.Sets.{outside}
use Rattle.polynomials.specs.Polynomials.{coefficient, reduced2}
use Rattle.packing.specs.Messages.{message_bytes, unpacked}

-- "Unpacking: 1, 7, 11."
unfoldable pub unpacking_checks : ℕ → List ℤ → ℕ → List Check
unpacking_checks N m room =
    1 if outside 3 1024 N
    ∷ 7 if not (eqb room (message_bytes N) && eqb (length m) (2 * N))
    ∷ 11 if not (reduced2 N (coefficient m))
    ∷ []

unfoldable pub unpacking : ℕ → List ℤ → ℕ → Outcome (List ℕ)
unpacking N m room = outcome (unpacking_checks N m room) (unpacked N (coefficient m))
