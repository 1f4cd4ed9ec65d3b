-- What document 02's wish 1 promises of sealing from places, and wish 3 of the units of its lists, for all inputs; each is proved in proofs/Promises.antt.
use Rattle.std.specs.Prelude.{◌≡◌, true, false, not, ◌≢◌, ℕ, ◌*◌, T, ℤ, length, take}
use mathlib.Core.List.{List, [], ◌∷◌, ◌++◌, Permᴰ}
use Rattle.refusals.specs.Outcomes.{done, outcome, ◌if◌, Passes}
use Rattle.parameters.specs.Sets.{ParameterSet, parameter_checks}
use Rattle.polynomials.specs.Polynomials.{coefficient, array, whole_triples, reduced_q}
use Rattle.packing.specs.Messages.{packed}
use Rattle.etru.specs.Scheme.{sealed}
use Rattle.etru.specs.Calls.{sealing}
use Rattle.etru.specs.Demand3.{Ephemeral, Message}
use Rattle.placed_units.specs.declared.PlacedUnit.{PlacedUnit}
use Rattle.placed_units.specs.PlacedUnits.{any_out_of_range, any_place_twice, spread}
use Rattle.placed_ephemerals.specs.Calls.{spreading_checks, spreading, places_sealing_checks, places_sealing}

-- A list of s records that 23 and 24 do not refuse.
pub record Spreadable (p : ParameterSet) (places : List PlacedUnit) : Type 0 where
  pub records : length places ≡ p.s
  pub in_range : T (not (any_out_of_range p.N places))
  pub once : T (not (any_place_twice places))

-- "Sealing from this list must give what sealing from the full array gives": of such a list the same number and the same output, whatever the other arguments are.
abbrev pub SealingFromPlaces : Type 0
SealingFromPlaces = (p : ParameterSet) (h : List ℤ) (places : List PlacedUnit) (message : List ℕ) (room : ℕ) → Spreadable p places → places_sealing p h places message room ≡ sealing p h (array p.N (spread places)) message room

-- "The list has s records, else refusal 7": the first refusal of another list is 7, unless the parameters have one.
abbrev pub OtherLengthRefused : Type 0
OtherLengthRefused = (p : ParameterSet) (h : List ℤ) (places : List PlacedUnit) (message : List ℕ) (room : ℕ) → length places ≢ p.s → (places_sealing p h places message room ≡ outcome (parameter_checks p ++ 7 if true ∷ []) []) × (spreading p places room ≡ outcome (parameter_checks p ++ 7 if true ∷ []) [])

-- Wish 3, "Other inputs now meet 9 or 10 at their present places": 10 after 7, 12, 23 and 24, of a list whose triples are not whole.
abbrev pub OtherUnitsRefused : Type 0
OtherUnitsRefused =
    (p : ParameterSet) (h : List ℤ) (places : List PlacedUnit) (message : List ℕ) (room : ℕ) → whole_triples p.N p.s (spread places) ≡ false
    → (places_sealing p h places message room ≡ outcome (parameter_checks p ++ (take 4 (places_sealing_checks p h places message room) ++ 10 if true ∷ [])) [])
    × (spreading p places room ≡ outcome (parameter_checks p ++ (take 3 (spreading_checks p places room) ++ 10 if true ∷ [])) [])

-- "their order is open": the same records in another order have the same outcome, also where it is a refusal.
abbrev pub SameRecords : (places places' : List PlacedUnit) → Type 0
SameRecords places places' = Permᴰ places places'

abbrev pub SpreadingOrderOpen : Type 0
SpreadingOrderOpen = (p : ParameterSet) (places places' : List PlacedUnit) (room : ℕ) → SameRecords places places' → spreading p places room ≡ spreading p places' room

abbrev pub SealingOrderOpen : Type 0
SealingOrderOpen = (p : ParameterSet) (h : List ℤ) (places places' : List PlacedUnit) (message : List ℕ) (room : ℕ) → SameRecords places places' → places_sealing p h places message room ≡ places_sealing p h places' message room

-- A list that no check refuses.
pub record PlacedEphemeral (p : ParameterSet) (places : List PlacedUnit) : Type 0 where
  pub spreadable : Spreadable p places
  pub in_set : T (whole_triples p.N p.s (spread places))

-- Both calls accept these lists, sealing with every h that is reduced, and no others; and the array of an accepted list is in the set of φ.
abbrev pub SpreadingAccepts : Type 0
SpreadingAccepts = (p : ParameterSet) (places : List PlacedUnit) → Passes (parameter_checks p) → PlacedEphemeral p places → spreading p places (2 * p.N) ≡ done (array p.N (spread places))

abbrev pub SpreadingAccepted : Type 0
SpreadingAccepted = (p : ParameterSet) (places : List PlacedUnit) (room : ℕ) (φ : List ℤ) → spreading p places room ≡ done φ → PlacedEphemeral p places × Ephemeral p φ

abbrev pub SealingAccepts : Type 0
SealingAccepts = (p : ParameterSet) (h : List ℤ) (places : List PlacedUnit) (message : List ℕ) → Passes (parameter_checks p) → length h ≡ 2 * p.N → T (reduced_q p.N p.q (coefficient h)) → PlacedEphemeral p places → Message p message → places_sealing p h places message (2 * p.N) ≡ done (array p.N (sealed p (coefficient h) (spread places) (packed message)))

abbrev pub SealingAccepted : Type 0
SealingAccepted = (p : ParameterSet) (h : List ℤ) (places : List PlacedUnit) (message : List ℕ) (room : ℕ) (e : List ℤ) → places_sealing p h places message room ≡ done e → PlacedEphemeral p places × Ephemeral p (array p.N (spread places))

-- Every φ of its set has such a list.
pub record Places (p : ParameterSet) (φ : List ℤ) : Type 0 where
  pub places : List PlacedUnit
  pub accepted : PlacedEphemeral p places
  pub spreads : array p.N (spread places) ≡ φ

abbrev pub EveryEphemeralHasPlaces : Type 0
EveryEphemeralHasPlaces = (p : ParameterSet) (φ : List ℤ) → Ephemeral p φ → Places p φ
