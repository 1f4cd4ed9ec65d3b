-- What is promised of a list of places: it seals as its array does, its order is open, and the lists that are accepted are those of the ephemerals.
use mathlib.Core.Path.{◌≡◌, refl, sym, ◌∙◌, ap, ap₂, subst}
use mathlib.Core.Bool.{Bool, true, false, not, ◌&&◌, ◌||◌}
use mathlib.Core.List.{List, [], ◌∷◌, ◌++◌}
use Prim.Native.Nat.{ℕ, ◌*◌, ◌<◌}
use native.Mathlib.Omega.{arith}
use borrow.Author.Tests.{eq-eqb, ne_eqb}
use lib.Dec.{T, eqb}
use lib.IntN.{ℤ}
use lib.ListN.{length, take}
use mir.Facts.{and_yes}
use Rattle.integers.proofs.Tests.{equal_2, equal_4, are_equal_2, are_equal_4, and_false}
use Rattle.refusals.specs.Outcomes.{Check, done, unless, outcome, ◌if◌}
use Rattle.refusals.proofs.Checks.{refused_by, passed, holds_passed, none_left, passed_all, same_first, ends_at, done_all, done_passed, done_holds, done_value}
use Rattle.eisenstein.specs.Values.{units}
use Rattle.parameters.specs.Sets.{ParameterSet, parameter_checks}
use Rattle.polynomials.specs.Polynomials.{Polynomial, coefficient, array, count, nonzero, among, units_only, whole_triples, reduced_q}
use Rattle.polynomials.proofs.Arrays.{coefficient-array, array_length, array_same, array_coefficients}
use Rattle.polynomials.proofs.Members.{all_at, units-count, triples_units}
use Rattle.polynomials.proofs.WholeTriples.{triples_same}
use Rattle.arrays.specs.Arrays.{full}
use Rattle.packing.specs.Messages.{message_bytes, packed, spare_bit_set}
use Rattle.packing.proofs.RoundTrips.{is_unset}
use Rattle.etru.specs.Scheme.{sealed}
use Rattle.etru.specs.Calls.{sealing_checks, sealing}
use Rattle.etru.specs.Demand3.{Ephemeral}
use Rattle.placed_units.specs.declared.PlacedUnit.{PlacedUnit}
use Rattle.placed_units.specs.PlacedUnits.{any_out_of_range, any_place_twice, spread}
use Rattle.integers.proofs.Orders.{length_order}
use Rattle.placed_units.proofs.Orders.{out_of_range_order, twice_order, spread_order}
use Rattle.placed_units.proofs.PlacesOf.{places_below, places_length, places_once, places_in_range, places_spread}
use Rattle.placed_ephemerals.specs.Calls.{place_checks, spreading_checks, spreading, places_sealing_checks, places_sealing}
use Rattle.placed_ephemerals.specs.Promises.{SealingFromPlaces, OtherLengthRefused, OtherUnitsRefused, SameRecords, SpreadingOrderOpen, SealingOrderOpen, PlacedEphemeral, SpreadingAccepts, SpreadingAccepted, SealingAccepts, SealingAccepted, EveryEphemeralHasPlaces}
use Rattle.placed_ephemerals.proofs.Agreeing.{same-sealed}

-- ---- outcomes

-- behind a check that stays, what follows may change to what is equal
behind : {A : Type 0} (n : ℕ) (t : Bool) (cs ds : List Check) (a b : A) → outcome cs a ≡ outcome ds b → outcome (n if t ∷ cs) a ≡ outcome (n if t ∷ ds) b
unfolding outcome
behind n t cs ds a b e = ap (unless t n) e

-- ---- the array of a list

-- its coefficients are those that the list spreads to
agrees : (N : ℕ) (x : Polynomial) (i : ℕ) → i < N → x i ≡ coefficient (array N x) i
agrees N x i l = sym (coefficient-array N x i l)

pub array_in_set : (N s : ℕ) (x : Polynomial) → whole_triples N s x ≡ whole_triples N s (coefficient (array N x))
array_in_set N s x = triples_same N (agrees N x) s

pub sealing_from_places : SealingFromPlaces
unfolding places_sealing places_sealing_checks sealing sealing_checks
sealing_from_places p h places message room ok =
    same_first (parameter_checks p) _ _ _ _ (λ accepted.
    ap (λ (t : Bool). outcome (7 if not t ∷ 12 if not (reduced_q p.N p.q (coefficient h)) ∷ place_checks p places ++ (15 if spare_bit_set p.N message ∷ [])) (array p.N (sealed p (coefficient h) (spread places) (packed message)))) lengths
    ∙ behind 7 _ _ _ _ _ (behind 12 _ _ _ _ _
    (passed 23 _ _ (is_unset (any_out_of_range p.N places) ok.in_range) ∙ passed 24 _ _ (is_unset (any_place_twice places) ok.once)
    ∙ ap₂ (λ (t : Bool) (e : List ℤ). outcome (10 if not t ∷ 15 if spare_bit_set p.N message ∷ []) e) (array_in_set p.N p.s (spread places)) (same-sealed p (coefficient h) (packed message) (agrees p.N (spread places))))))
  where
    lengths : (eqb (length message) (message_bytes p.N) && (eqb (length places) p.s && (full p.N (length h) && full p.N room)))
        ≡ (eqb (length message) (message_bytes p.N) && (full p.N (length h) && (full p.N (length (array p.N (spread places))) && full p.N room)))
    lengths =
        ap (λ (t : Bool). eqb (length message) (message_bytes p.N) && (t && (full p.N (length h) && full p.N room))) (eq-eqb (length places) p.s ok.records)
        ∙ ap (λ (t : Bool). eqb (length message) (message_bytes p.N) && (full p.N (length h) && (t && full p.N room))) (sym (eq-eqb (length (array p.N (spread places))) (2 * p.N) (array_length p.N (spread places))))

-- ---- another number of records

pub other_length_refused : OtherLengthRefused
unfolding places_sealing places_sealing_checks spreading spreading_checks
other_length_refused p h places message room other = (both (eqb (length message) (message_bytes p.N)) _ _ _, both true _ _ _)
  where
    not_s : eqb (length places) p.s ≡ false
    not_s = ne_eqb (length places) p.s other

    both : (before after : Bool) (cs : List Check) (a : List ℤ) → outcome (parameter_checks p ++ (7 if not (before && (eqb (length places) p.s && after)) ∷ cs)) a ≡ outcome (parameter_checks p ++ (7 if true ∷ [])) []
    both before after cs a =
        ends_at (parameter_checks p) 7 (before && (eqb (length places) p.s && after)) cs a [] (ap (λ (t : Bool). before && (t && after)) not_s ∙ and_false before)

-- ---- triples that are not whole

pub other_units_refused : OtherUnitsRefused
unfolding places_sealing places_sealing_checks spreading spreading_checks
other_units_refused p h places message room other =
    let whole = whole_triples p.N p.s (spread places) in (
      same_first (parameter_checks p) _ _ _ _ (λ accepted. ends_at (take 4 (places_sealing_checks p h places message room)) 10 whole _ _ _ other),
      same_first (parameter_checks p) _ _ _ _ (λ accepted. ends_at (take 3 (spreading_checks p places room)) 10 whole _ _ _ other),
    )

-- ---- the order of the records

module _ {A : Type 0} (p : ParameterSet) (later : List Check) (value_of_lem : Polynomial → A) (same-value : (x y : Polynomial) → ((i : ℕ) → i < p.N → x i ≡ y i) → value_of_lem x ≡ value_of_lem y)
    {places places' : List PlacedUnit} (order : SameRecords places places') where
  abbrev from_10 : List PlacedUnit → List Check
  from_10 l = 10 if not (whole_triples p.N p.s (spread l)) ∷ later

  same_from_24 : outcome (24 if any_place_twice places ∷ from_10 places) (value_of_lem (spread places)) ≡ outcome (24 if any_place_twice places' ∷ from_10 places') (value_of_lem (spread places'))
  same_from_24 = go (any_place_twice places) refl
    where
      go : (t : Bool) → any_place_twice places ≡ t → outcome (24 if any_place_twice places ∷ from_10 places) (value_of_lem (spread places)) ≡ outcome (24 if any_place_twice places' ∷ from_10 places') (value_of_lem (spread places'))
      go true e = refused_by 24 _ _ e ∙ sym (refused_by 24 _ _ (sym (twice_order order) ∙ e))
      go false e =
          let agree : (i : ℕ) → i < p.N → spread places i ≡ spread places' i = λ i l. spread_order order e i in
          passed 24 _ _ e
          ∙ ap₂ (λ (t : Bool) (a : A). outcome (10 if not t ∷ later) a) (triples_same p.N agree p.s) (same-value (spread places) (spread places') agree)
          ∙ sym (passed 24 _ _ (sym (twice_order order) ∙ e))

  same_from_23 : outcome (place_checks p places ++ later) (value_of_lem (spread places)) ≡ outcome (place_checks p places' ++ later) (value_of_lem (spread places'))
  same_from_23 =
      ap (λ (t : Bool). outcome (23 if t ∷ 24 if any_place_twice places ∷ from_10 places) (value_of_lem (spread places))) (out_of_range_order p.N order)
      ∙ behind 23 _ _ _ _ _ same_from_24

pub spreading_order_open : SpreadingOrderOpen
unfolding spreading spreading_checks
spreading_order_open p places places' room order =
    same_first (parameter_checks p) _ _ _ _ (λ accepted.
    ap (λ (n : ℕ). outcome (7 if not (eqb n p.s && full p.N room) ∷ place_checks p places) (array p.N (spread places))) (length_order order)
    ∙ behind 7 _ _ _ _ _ (same_from_23 p [] (array p.N) (λ x y agree. array_same p.N agree) order))

pub sealing_order_open : SealingOrderOpen
unfolding places_sealing places_sealing_checks
sealing_order_open p h places places' message room order =
    same_first (parameter_checks p) _ _ _ _ (λ accepted.
    ap (λ (n : ℕ). outcome (7 if not (eqb (length message) (message_bytes p.N) && (eqb n p.s && (full p.N (length h) && full p.N room))) ∷ 12 if not (reduced_q p.N p.q (coefficient h)) ∷ place_checks p places ++ 15 if spare_bit_set p.N message ∷ []) (sealed_from (spread places))) (length_order order)
    ∙ behind 7 _ _ _ _ _ (behind 12 _ _ _ _ _ (same_from_23 p (15 if spare_bit_set p.N message ∷ []) sealed_from (λ x y agree. same-sealed p (coefficient h) (packed message) agree) order)))
  where
    sealed_from : Polynomial → List ℤ
    sealed_from x = array p.N (sealed p (coefficient h) x (packed message))

-- ---- the lists that are accepted

holds_not : (t : Bool) → t ≡ false → T (not t)
holds_not t e = subst T (sym (ap not e)) tt

pub placed : (p : ParameterSet) (places : List PlacedUnit) → PlacedEphemeral p places → Ephemeral p (array p.N (spread places))
placed p places ok = record { full = array_length p.N (spread places); in_set = subst T (array_in_set p.N p.s (spread places)) ok.in_set }

pub spreading_accepts : SpreadingAccepts
unfolding spreading spreading_checks
spreading_accepts p places accepted ok =
    passed_all (parameter_checks p) _ _ accepted
    ∙ holds_passed 7 (eqb (length places) p.s && full p.N (2 * p.N)) _ _ (equal_2 {b = 2 * p.N} ok.spreadable.records refl)
    ∙ passed 23 _ _ (is_unset (any_out_of_range p.N places) ok.spreadable.in_range)
    ∙ passed 24 _ _ (is_unset (any_place_twice places) ok.spreadable.once)
    ∙ holds_passed 10 (whole_triples p.N p.s (spread places)) _ _ ok.in_set
    ∙ none_left _

pub sealing_accepts : SealingAccepts
unfolding places_sealing places_sealing_checks
sealing_accepts p h places message accepted h_full h_reduced ok msg =
    passed_all (parameter_checks p) _ _ accepted
    ∙ holds_passed 7 (eqb (length message) (message_bytes p.N) && (eqb (length places) p.s && (full p.N (length h) && full p.N (2 * p.N)))) _ _
    (equal_4 {a = length message} {b = length places} {c = length h} {d = 2 * p.N} msg.full ok.spreadable.records h_full refl)
    ∙ holds_passed 12 (reduced_q p.N p.q (coefficient h)) _ _ h_reduced
    ∙ passed 23 _ _ (is_unset (any_out_of_range p.N places) ok.spreadable.in_range)
    ∙ passed 24 _ _ (is_unset (any_place_twice places) ok.spreadable.once)
    ∙ holds_passed 10 (whole_triples p.N p.s (spread places)) _ _ ok.in_set
    ∙ passed 15 _ _ (is_unset (spare_bit_set p.N message) msg.no_spare)
    ∙ none_left _

-- what passed 23, 24 and 10
passed_places : {A : Type 0} (p : ParameterSet) (places : List PlacedUnit) (later : List Check) (a b : A) → length places ≡ p.s → outcome (place_checks p places ++ later) a ≡ done b → PlacedEphemeral p places × (outcome later a ≡ done b)
passed_places p places later a b s-records e =
    let c23 = done_passed 23 (any_out_of_range p.N places) _ a b e in
    let c24 = done_passed 24 (any_place_twice places) _ a b c23.1 in
    let c10 = done_holds 10 (whole_triples p.N p.s (spread places)) _ a b c24.1 in
    (record { spreadable = record { records = s-records; in_range = holds_not _ c23.0; once = holds_not _ c24.0 }; in_set = c10.0 }, c10.1)

pub spreading_accepted : SpreadingAccepted
unfolding spreading spreading_checks
spreading_accepted p places room φ e =
    let c = done_all (parameter_checks p) _ _ _ e in
    let c7 = done_holds 7 (eqb (length places) p.s && full p.N room) _ _ _ c.1 in
    let ok = passed_places p places [] _ φ (are_equal_2 (length places) p.s room (2 * p.N) c7.0).0 c7.1 in
    (ok.0, subst (Ephemeral p) (done_value _ φ ok.1) (placed p places ok.0))

pub sealing_accepted : SealingAccepted
unfolding places_sealing places_sealing_checks
sealing_accepted p h places message room e sealed-e =
    let c = done_all (parameter_checks p) _ _ _ sealed-e in
    let c7 = done_holds 7 (eqb (length message) (message_bytes p.N) && (eqb (length places) p.s && (full p.N (length h) && full p.N room))) _ _ _ c.1 in
    let c12 = done_holds 12 (reduced_q p.N p.q (coefficient h)) _ _ _ c7.1 in
    let ok = passed_places p places _ _ e (are_equal_4 (length message) (message_bytes p.N) (length places) p.s (length h) (2 * p.N) room (2 * p.N) c7.0).1 c12.1 in
    (ok.0, placed p places ok.0)

each_coefficient : (N s : ℕ) (x : Polynomial) → T (units_only N s x) → (i : ℕ) → i < N → T (not (nonzero (x i)) || among units (x i))
unfolding units_only
each_coefficient N s x h = all_at N (λ i. not (nonzero (x i)) || among units (x i)) (and_yes (eqb (count N (λ i. nonzero (x i))) s) _ h).1

pub every_ephemeral_has_places : EveryEphemeralHasPlaces
every_ephemeral_has_places p φ ephemeral = record {
  places = places;
  accepted = record {
    spreadable = record {
      records = places_length x p.N ∙ units-count p.N p.s x units_there;
      in_range = holds_not _ (places_in_range x p.N each p.N (omega arith));
      once = holds_not _ (places_once x p.N);
    };
    in_set = subst T (sym (triples_same p.N agree p.s)) ephemeral.in_set;
  };
  spreads = array_same p.N agree ∙ array_coefficients p.N φ ephemeral.full;
}
  where
    x : Polynomial
    x = coefficient φ

    places : List PlacedUnit
    places = places_below x p.N

    units_there : T (units_only p.N p.s x)
    units_there = triples_units p.N p.s x ephemeral.in_set

    each : (i : ℕ) → i < p.N → T (not (nonzero (x i)) || among units (x i))
    each = each_coefficient p.N p.s x units_there

    agree : (i : ℕ) → i < p.N → spread places i ≡ x i
    agree i l = places_spread x p.N each p.N (omega arith) i l
