-- A list for every polynomial of zeros and units: a record for each coefficient that is not zero.
use mathlib.Core.Path.{◌≡◌, refl, sym, ◌∙◌, ap, ap₂, subst}
use mathlib.Core.Bool.{Bool, true, false, not, cond, ◌||◌}
use mathlib.Core.List.{List, [], ◌∷◌}
use Prim.Native.Nat.{ℕ, zero, suc, ◌+◌, ◌≤◌, ◌<◌}
use native.Mathlib.Omega.{arith}
use native.Mathlib.Decide.{ℕ_discrete}
use borrow.Author.Tests.{not-false, lt-ltb, le-ltb, eq-eqb, ne_eqb}
use lib.Dec.{T}
use lib.ListN.{length, get_or}
use Rattle.eisenstein.specs.Values.{ℤ[ω], 𝟘, units, unit, same}
use Rattle.eisenstein.proofs.Equality.{same_yes}
use Rattle.polynomials.specs.Polynomials.{Polynomial, count, nonzero, among}
use Rattle.placed_units.specs.declared.PlacedUnit.{PlacedUnit}
use Rattle.placed_units.specs.PlacedUnits.{any_out_of_range, occurs, any_place_twice, spread}
use Rattle.placed_units.proofs.Lists.{spread_free}

-- ---- the number of a unit

number_in : List ℤ[ω] → ℤ[ω] → ℕ
number_in [] x = 0
number_in (u ∷ us) x = cond (same x u) 0 (suc (number_in us x))

number_in_lem : (us : List ℤ[ω]) (x : ℤ[ω]) → T (among us x) → (number_in us x < length us) × (get_or us (number_in us x) 𝟘 ≡ x)
unfolding among number_in
number_in_lem [] x h = absurd h
number_in_lem (u ∷ us) x h = go (same x u) refl (λ t. number_in_lem us x t) h
  where
    go : (t : Bool) → same x u ≡ t → (T (among us x) → (number_in us x < length us) × (get_or us (number_in us x) 𝟘 ≡ x)) → T (t || among us x)
        → (cond t 0 (suc (number_in us x)) < suc (length us)) × (get_or (u ∷ us) (cond t 0 (suc (number_in us x))) 𝟘 ≡ x)
    go true e r h = (omega arith, sym (same_yes x u (subst T (sym e) tt)))
    go false e r h = (omega (arith, (r h).0), (r h).1)

zero_there : (x : ℤ[ω]) → nonzero x ≡ false → x ≡ 𝟘
unfolding nonzero
zero_there x e = same_yes x 𝟘 (subst T (sym (not-false (same x 𝟘) e)) tt)

-- ---- the records of the coefficients below n

module _ (x : Polynomial) where
  record_of : ℕ → PlacedUnit
  record_of n = record { place = n; unit = number_in units (x n) }

  pub places_below : ℕ → List PlacedUnit
  places_below zero = []
  places_below (suc n) = cond (nonzero (x n)) (record_of n ∷ places_below n) (places_below n)

  pub places_length : (n : ℕ) → length (places_below n) ≡ count n (λ i. nonzero (x i))
  unfolding places_below count
  places_length zero = refl
  places_length (suc n) = go (nonzero (x n)) (places_length n)
    where
      go : (t : Bool) → length (places_below n) ≡ count n (λ i. nonzero (x i)) → length (cond t (record_of n ∷ places_below n) (places_below n)) ≡ count n (λ i. nonzero (x i)) + cond t 1 0
      go true e = omega (arith, e)
      go false e = omega (arith, e)

  places_below_lem : (n i : ℕ) → n ≤ i → occurs i (places_below n) ≡ false
  unfolding places_below record_of occurs
  places_below_lem zero i h = refl
  places_below_lem (suc n) i h = go (nonzero (x n)) (places_below_lem n i (omega arith))
    where
      go : (t : Bool) → occurs i (places_below n) ≡ false → occurs i (cond t (record_of n ∷ places_below n) (places_below n)) ≡ false
      go true e = ap₂ ◌||◌ (ne_eqb n i (λ p. absurd (omega arith))) e
      go false e = e

  pub places_once : (n : ℕ) → any_place_twice (places_below n) ≡ false
  unfolding places_below record_of any_place_twice
  places_once zero = refl
  places_once (suc n) = go (nonzero (x n)) (places_once n)
    where
      go : (t : Bool) → any_place_twice (places_below n) ≡ false → any_place_twice (cond t (record_of n ∷ places_below n) (places_below n)) ≡ false
      go true e = ap₂ ◌||◌ (places_below_lem n n (omega arith)) e
      go false e = e

  module _ (N : ℕ) (units_there : (i : ℕ) → i < N → T (not (nonzero (x i)) || among units (x i))) where
    pub places_in_range : (n : ℕ) → n ≤ N → any_out_of_range N (places_below n) ≡ false
    unfolding places_below record_of any_out_of_range
    places_in_range zero h = refl
    places_in_range (suc n) h = go (nonzero (x n)) (units_there n (omega arith)) (places_in_range n (omega arith))
      where
        go : (t : Bool) → T (not t || among units (x n)) → any_out_of_range N (places_below n) ≡ false → any_out_of_range N (cond t (record_of n ∷ places_below n) (places_below n)) ≡ false
        go true u e = ap₂ ◌||◌ (ap₂ (λ (s t : Bool). not s || t) (lt-ltb n N (omega arith)) (le-ltb 5 (number_in units (x n)) (omega (arith, (number_in_lem units (x n) u).0)))) e
        go false u e = e

    pub places_spread : (n : ℕ) → n ≤ N → (i : ℕ) → i < n → spread (places_below n) i ≡ x i
    unfolding places_below record_of spread unit
    places_spread zero h i l = absurd (omega arith)
    places_spread (suc n) h i l = go (ℕ_discrete n i) (nonzero (x n)) refl (units_there n (omega arith)) (places_spread n (omega arith) i)
      where
        go : Dec (n ≡ i) → (t : Bool) → nonzero (x n) ≡ t → T (not t || among units (x n)) → (i < n → spread (places_below n) i ≡ x i) → spread (cond t (record_of n ∷ places_below n) (places_below n)) i ≡ x i
        go (yes p) true e u r = ap (λ (b : Bool). cond b (unit (number_in units (x n))) (spread (places_below n) i)) (eq-eqb n i p) ∙ (number_in_lem units (x n) u).1 ∙ ap x p
        go (yes p) false e u r = spread_free (places_below n) i (places_below_lem n i (omega arith)) ∙ sym (zero_there (x n) e) ∙ ap x p
        go (no p) true e u r = ap (λ (b : Bool). cond b (unit (number_in units (x n))) (spread (places_below n) i)) (ne_eqb n i p) ∙ r (omega arith)
        go (no p) false e u r = r (omega arith)
