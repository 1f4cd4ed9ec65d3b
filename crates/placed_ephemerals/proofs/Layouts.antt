-- The calls on the numbers of a list give what they give on the list: one of more than 1,024 records is refused by its length.
use mathlib.Core.Path.{◌≡◌, refl, sym, ◌∙◌, ap}
use mathlib.Core.Bool.{Bool, true, false, not, ◌&&◌}
use mathlib.Core.List.{List, [], ◌∷◌, ◌++◌}
use Prim.Native.Nat.{ℕ, ◌*◌, ◌≤◌, ◌<◌}
use native.Mathlib.Omega.{arith}
use borrow.Author.Tests.{leb-true, leb-false, lt-ltb, le-ltb, ne_eqb}
use lib.Dec.{eqb, leb, ltb}
use lib.IntN.{ℤ}
use lib.ListN.{length}
use Rattle.integers.proofs.Tests.{and_false}
use Rattle.refusals.specs.Outcomes.{Check, outcome, ◌if◌}
use Rattle.refusals.proofs.Checks.{refused_by, passed, fails_refused, same_first}
use Rattle.parameters.specs.Sets.{ParameterSet, parameter_checks}
use Rattle.parameters.proofs.AcceptedParameters.{accepted_parameters}
use Rattle.polynomials.specs.Polynomials.{coefficient, array, reduced_q}
use Rattle.arrays.specs.Arrays.{full}
use Rattle.packing.specs.Messages.{message_bytes, packed, spare_bit_set}
use Rattle.etru.specs.Scheme.{sealed}
use Rattle.placed_units.specs.declared.PlacedUnit.{PlacedUnit}
use Rattle.placed_units.specs.PlacedUnits.{spread}
use Rattle.placed_units.specs.Layout.{records_from, numbers_of}
use Rattle.placed_units.proofs.Layouts.{records_of_numbers, numbers_length}
use Rattle.placed_ephemerals.specs.Calls.{place_checks, spreading_checks, spreading, places_sealing_checks, places_sealing, not_all_there, numbers_spreading, numbers_sealing}

-- two checks for 7 are one
pub joined_7 : {A : Type 0} (t u : Bool) (cs : List Check) (a : A) → outcome (7 if t ∷ 7 if not u ∷ cs) a ≡ outcome (7 if not (not t && u) ∷ cs) a
unfolding outcome
joined_7 true u cs a = refl
joined_7 false u cs a = refl

-- numbers that are all there are a list of records
module _ (p : ParameterSet) (numbers : List ℕ) (records : ℕ) (there : 2 * records ≤ length numbers) where
  pub spreading_there : (room : ℕ) → numbers_spreading p numbers records room ≡ spreading p (records_from numbers 0 records) room
  unfolding numbers_spreading spreading
  spreading_there room = same_first (parameter_checks p) _ _ _ _ (λ accepted. passed 7 _ _ (le-ltb (length numbers) (2 * records) there))

  pub sealing_there : (h : List ℤ) (message : List ℕ) (room : ℕ) → numbers_sealing p h numbers records message room ≡ places_sealing p h (records_from numbers 0 records) message room
  unfolding numbers_sealing places_sealing
  sealing_there h message room = same_first (parameter_checks p) _ _ _ _ (λ accepted. passed 7 _ _ (le-ltb (length numbers) (2 * records) there))

module _ (p : ParameterSet) (places : List PlacedUnit) where
  abbrev numbers : List ℕ
  numbers = numbers_of 1024 places

  abbrev laid : List PlacedUnit
  laid = records_from numbers 0 (length places)

  all_there : length places ≤ 1024 → ltb (length numbers) (2 * length places) ≡ false
  all_there h = le-ltb (length numbers) (2 * length places) (omega (arith, numbers_length 1024 places))

  too_few : 1024 < length places → ltb (length numbers) (2 * length places) ≡ true
  too_few h = lt-ltb (length numbers) (2 * length places) (omega (arith, numbers_length 1024 places))

  -- a list of s records, and whatever else 7 asks, then other checks
  module _ {A : Type 0} (asked : Bool → Bool) (not-asked : asked false ≡ false) (later : List PlacedUnit → List Check) (value_of_lem : List PlacedUnit → A) where
    abbrev from_7 : List PlacedUnit → List Check
    from_7 l = 7 if not (asked (eqb (length l) p.s)) ∷ later l

    same_outcome : outcome (parameter_checks p ++ not_all_there (length numbers) (length places) ∷ from_7 laid) (value_of_lem laid) ≡ outcome (parameter_checks p ++ from_7 places) (value_of_lem places)
    same_outcome = go (leb (length places) 1024) refl
      where
        go : (t : Bool) → leb (length places) 1024 ≡ t → outcome (parameter_checks p ++ not_all_there (length numbers) (length places) ∷ from_7 laid) (value_of_lem laid) ≡ outcome (parameter_checks p ++ from_7 places) (value_of_lem places)
        go true e =
            let few = leb-true (length places) 1024 e in
            same_first (parameter_checks p) _ _ _ _ (λ accepted.
            passed 7 _ _ (all_there few) ∙ ap (λ (l : List PlacedUnit). outcome (from_7 l) (value_of_lem l)) (records_of_numbers 1024 places few))
        go false e =
            let many = leb-false (length places) 1024 e in
            same_first (parameter_checks p) _ _ _ _ (λ checked.
            let accepted = accepted_parameters p checked in
            refused_by 7 _ _ (too_few many)
            ∙ sym (fails_refused 7 _ _ _ (ap asked (ne_eqb (length places) p.s (λ e. absurd (omega (arith, accepted.s_small, accepted.N_small)))) ∙ not-asked)))

  pub spreading_laid : (room : ℕ) → numbers_spreading p numbers (length places) room ≡ spreading p places room
  unfolding numbers_spreading spreading spreading_checks
  spreading_laid room = same_outcome (λ t. t && full p.N room) refl (place_checks p) (λ l. array p.N (spread l))

  pub sealing_laid : (h : List ℤ) (message : List ℕ) (room : ℕ) → numbers_sealing p h numbers (length places) message room ≡ places_sealing p h places message room
  unfolding numbers_sealing places_sealing places_sealing_checks
  sealing_laid h message room =
      same_outcome (λ t. eqb (length message) (message_bytes p.N) && (t && (full p.N (length h) && full p.N room))) (and_false (eqb (length message) (message_bytes p.N)))
      (λ l. 12 if not (reduced_q p.N p.q (coefficient h)) ∷ place_checks p l ++ 15 if spare_bit_set p.N message ∷ [])
      (λ l. array p.N (sealed p (coefficient h) (spread l) (packed message)))
