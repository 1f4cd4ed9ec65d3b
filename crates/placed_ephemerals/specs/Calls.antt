-- The outcomes of the two calls on a list of places, with the refusals in document 02's order. An output is known by its length, `room`.
use Rattle.std.specs.Prelude.{not, ◌&&◌, List, [], ◌∷◌, ◌++◌, ℕ, ◌*◌, eqb, ltb, ℤ, length}
use Rattle.refusals.specs.Outcomes.{Check, Outcome, outcome, ◌if◌}
use Rattle.parameters.specs.Sets.{ParameterSet, parameter_checks}
use Rattle.polynomials.specs.Polynomials.{coefficient, array, whole_triples, reduced_q}
use Rattle.arrays.specs.Arrays.{full}
use Rattle.packing.specs.Messages.{message_bytes, packed, spare_bit_set}
use Rattle.etru.specs.Scheme.{sealed}
use Rattle.placed_units.specs.declared.PlacedUnit.{PlacedUnit}
use Rattle.placed_units.specs.PlacedUnits.{any_out_of_range, any_place_twice, spread}
use Rattle.placed_units.specs.Layout.{records_from}

-- "23 if a place is N or more or a unit number is above 5, 24 if a place occurs twice, both after h's check and before 10, with 23 first over the whole list."
-- "The zero-sum rule stays under 10": wish 3's narrower set has it.
abbrev pub place_checks : ParameterSet → List PlacedUnit → List Check
place_checks p places =
    23 if any_out_of_range p.N places
    ∷ 24 if any_place_twice places
    ∷ 10 if not (whole_triples p.N p.s (spread places))
    ∷ []

-- A list to its array. "The list has s records, else refusal 7"
unfoldable pub spreading_checks : ParameterSet → List PlacedUnit → ℕ → List Check
spreading_checks p places room =
    7 if not (eqb (length places) p.s && full p.N room)
    ∷ place_checks p places

unfoldable pub spreading : ParameterSet → List PlacedUnit → ℕ → Outcome (List ℤ)
spreading p places room =
    outcome (parameter_checks p ++ spreading_checks p places room) (array p.N (spread places))

-- Sealing from a list: what is asked before its records, of a list of so many and a message of so many bytes, and then all.
abbrev pub before_places : ParameterSet → (h : List ℤ) → (records bytes room : ℕ) → List Check
before_places p h records bytes room =
    7 if not (eqb bytes (message_bytes p.N) && (eqb records p.s && (full p.N (length h) && full p.N room)))
    ∷ 12 if not (reduced_q p.N p.q (coefficient h))
    ∷ []

unfoldable pub places_sealing_checks : ParameterSet → (h : List ℤ) → List PlacedUnit → (message : List ℕ) → ℕ → List Check
places_sealing_checks p h places message room =
    before_places p h (length places) (length message) room
    ++ place_checks p places
    ++ 15 if spare_bit_set p.N message ∷ []

unfoldable pub places_sealing : ParameterSet → (h : List ℤ) → List PlacedUnit → (message : List ℕ) → ℕ → Outcome (List ℤ)
places_sealing p h places message room =
    outcome (parameter_checks p ++ places_sealing_checks p h places message room) (array p.N (sealed p (coefficient h) (spread places) (packed message)))

-- The same of a list that is laid out as numbers, of which so many records are taken: 7 also where they are not all there.
abbrev pub not_all_there : (length records : ℕ) → Check
not_all_there n records = 7 if ltb n (2 * records)

unfoldable pub numbers_spreading : ParameterSet → (numbers : List ℕ) → (records room : ℕ) → Outcome (List ℤ)
numbers_spreading p numbers records room =
    outcome (parameter_checks p ++ not_all_there (length numbers) records ∷ spreading_checks p (records_from numbers 0 records) room) (array p.N (spread (records_from numbers 0 records)))

unfoldable pub numbers_sealing : ParameterSet → (h : List ℤ) → (numbers : List ℕ) → (records : ℕ) → (message : List ℕ) → ℕ → Outcome (List ℤ)
numbers_sealing p h numbers records message room =
    outcome (parameter_checks p ++ not_all_there (length numbers) records ∷ places_sealing_checks p h (records_from numbers 0 records) message room) (array p.N (sealed p (coefficient h) (spread (records_from numbers 0 records)) (packed message)))
