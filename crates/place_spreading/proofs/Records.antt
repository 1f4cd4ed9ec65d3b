-- The records of a list that are laid, from the last to the first: those in front of them are still to come.
use mathlib.Core.Path.{◌≡◌, refl, sym, ◌∙◌, ap, ap₂, subst}
use mathlib.Core.Bool.{Bool, true, false, cond, ◌||◌}
use mathlib.Core.List.{List, [], ◌∷◌, ◌++◌, append_assoc}
use Prim.Native.Nat.{ℕ, zero, suc, ◌+◌, ◌*◌, ◌≤◌, ◌<◌}
use native.Mathlib.Omega.{arith}
use native.Mathlib.Decide.{ℕ_discrete}
use borrow.Author.Tests.{eq-eqb, ne_eqb}
use lib.Dec.{eqb}
use lib.IntN.{ℤ, pos}
use lib.ListN.{length, get_or, set, take, replicate}
use Rattle.std.proofs.lemmas.Bool.{or_left, or_right}
use Rattle.std.proofs.lemmas.List.{append-nil}
use Rattle.std.specs.Bool.{MatchBool}
use Rattle.std.specs.List.{AllWithin, HoldsAt}
use Rattle.eisenstein.specs.Values.{ℤ[ω], value, unit}
use Rattle.polynomials.specs.Polynomials.{coefficient, array, nonzero}
use Rattle.polynomials.proofs.Arrays.{coefficient-array, array_length, array_by_coefficients, stored_at_lem, stored_elsewhere}
use Rattle.arrays.specs.Arrays.{Zeros}
use Rattle.placed_units.specs.declared.PlacedUnit.{PlacedUnit}
use Rattle.placed_units.specs.PlacedUnits.{out_of_range, any_out_of_range, occurs, any_place_twice, spread}
use Rattle.placed_units.proofs.Lists.{first_in_range, rest_in_range, record_in_range, spread_taken}

-- ---- 23, of a list of which each record was looked at until one was out of range

module _ (N : ℕ) where
  one_out : (places : List PlacedUnit) (k : ℕ) → k < length places → HoldsAt (λ r. out_of_range N r ≡ true) places k → any_out_of_range N places ≡ true
  unfolding any_out_of_range
  one_out [] k h out = absurd (omega arith)
  one_out (r ∷ places) zero h out = or_left (out_of_range N r) (any_out_of_range N places) (out r)
  one_out (r ∷ places) (suc k) h out = or_right (out_of_range N r) (any_out_of_range N places) (one_out places k (omega arith) out)

  none_out : (places : List PlacedUnit) → AllWithin (λ r. out_of_range N r ≡ false) places 0 (length places) → any_out_of_range N places ≡ false
  unfolding any_out_of_range
  none_out [] h = refl
  none_out (r ∷ places) h = ap₂ ◌||◌ (h 0 r (omega arith) (omega arith)) (none_out places (λ k d a b. h (suc k) d (omega arith) (omega arith)))

  pub any_out : (places : List PlacedUnit) (t : Bool) → MatchBool t ((k : ℕ) × (k < length places) × HoldsAt (λ r. out_of_range N r ≡ true) places k) (AllWithin (λ r. out_of_range N r ≡ false) places 0 (length places)) → t ≡ any_out_of_range N places
  any_out places true (k, h, out) = sym (one_out places k h out)
  any_out places false h = sym (none_out places h)

-- ---- laying

-- where no record is out of range, none behind the first ones is
range_behind : (N : ℕ) (front l : List PlacedUnit) → any_out_of_range N (front ++ l) ≡ false → any_out_of_range N l ≡ false
range_behind N [] l h = h
range_behind N (r ∷ front) l h = range_behind N front l (rest_in_range N r (front ++ l) h)

-- a place that occurs twice behind the first records does so in the list
twice_behind : (front l : List PlacedUnit) → any_place_twice l ≡ true → any_place_twice (front ++ l) ≡ true
unfolding any_place_twice
twice_behind [] l h = h
twice_behind (r ∷ front) l h = or_right (occurs r.place (front ++ l)) (any_place_twice (front ++ l)) (twice_behind front l h)

-- x holds the records behind `front`, and no place of theirs occurs twice
pub record Laid (N : ℕ) (places : List PlacedUnit) (x : List ℤ) (front : List PlacedUnit) : Type 0 where
  pub laid : List PlacedUnit
  pub parts : front ++ laid ≡ places
  pub once : any_place_twice laid ≡ false
  pub holds : x ≡ array N (spread laid)

module _ {N : ℕ} {places : List PlacedUnit} where
  pub laid_none : (x : List ℤ) → length x ≡ 2 * N → Zeros x → Laid N places x places
  unfolding any_place_twice spread coefficient
  laid_none x e z = record {
    laid = [];
    parts = append-nil places;
    once = refl;
    holds = array_by_coefficients N x (spread []) e (λ i l. ap₂ value (z (2 * i)) (z (2 * i + 1)));
  }

  pub laid_length : {x : List ℤ} {front : List PlacedUnit} → Laid N places x front → length x ≡ 2 * N
  laid_length laid = ap length laid.holds ∙ array_length N (spread laid.laid)

  -- nothing is left in front, so the whole list is laid
  pub laid_all : {x : List ℤ} (front : List PlacedUnit) → Laid N places x front → length front ≡ 0 → (any_place_twice places ≡ false) × (x ≡ array N (spread places))
  laid_all [] laid e = (ap any_place_twice (sym laid.parts) ∙ laid.once, laid.holds ∙ ap (λ (l : List PlacedUnit). array N (spread l)) laid.parts)
  laid_all (r ∷ front) laid e = absurd (omega arith)

  -- the last record in front
  module _ (in_range_lem : any_out_of_range N places ≡ false) {x : List ℤ} {front : List PlacedUnit} (rest : List PlacedUnit) (r : PlacedUnit) (laid : Laid N places x front) (last : front ≡ rest ++ r ∷ []) where
    behind : rest ++ (r ∷ laid.laid) ≡ places
    behind = sym (append_assoc rest (r ∷ []) laid.laid) ∙ ap (λ (f : List PlacedUnit). f ++ laid.laid) (sym last) ∙ laid.parts

    in_range : any_out_of_range N (r ∷ laid.laid) ≡ false
    in_range = range_behind N rest (r ∷ laid.laid) (ap (any_out_of_range N) behind ∙ in_range_lem)

    pub last_there : (r.place < N) × (r.unit ≤ 5)
    last_there = record_in_range N r (first_in_range N r laid.laid in_range)

    -- the place is taken where it occurs later
    taken : nonzero (coefficient x r.place) ≡ occurs r.place laid.laid
    taken =
        ap (λ (l : List ℤ). nonzero (coefficient l r.place)) laid.holds ∙ ap nonzero (coefficient-array N (spread laid.laid) r.place last_there.0)
        ∙ spread_taken N laid.laid r.place (rest_in_range N r laid.laid in_range)

    pub laid_twice : nonzero (coefficient x r.place) ≡ true → any_place_twice places ≡ true
    unfolding any_place_twice
    laid_twice h =
        sym (ap any_place_twice behind) ∙ twice_behind rest (r ∷ laid.laid) (or_left (occurs r.place laid.laid) (any_place_twice laid.laid) (sym taken ∙ h))

    pub laid_next : (x' : List ℤ) → nonzero (coefficient x r.place) ≡ false → length x' ≡ length x → ((k : ℕ) → coefficient x' k ≡ cond (eqb r.place k) (unit r.unit) (coefficient x k)) → Laid N places x' rest
    unfolding spread any_place_twice
    laid_next x' free e stored = record {
      laid = r ∷ laid.laid;
      parts = behind;
      once = ap₂ ◌||◌ (sym taken ∙ free) laid.once;
      holds =
          array_by_coefficients N x' (spread (r ∷ laid.laid)) (e ∙ laid_length laid)
          (λ k l. stored k ∙ ap (λ (z : ℤ[ω]). cond (eqb r.place k) (unit r.unit) z) (ap (λ (l : List ℤ). coefficient l k) laid.holds ∙ coefficient-array N (spread laid.laid) k l));
    }

-- an array after one coefficient is stored, coefficient by coefficient
pub stored_one : (l : List ℤ) (p : ℕ) (a b : ℤ) {u : ℤ[ω]} → 2 * p + 1 < length l → value a b ≡ u → (i : ℕ) → coefficient (set (set l (2 * p) a) (2 * p + 1) b) i ≡ cond (eqb p i) u (coefficient l i)
stored_one l p a b {u} h e i = go (ℕ_discrete p i)
  where
    go : Dec (p ≡ i) → coefficient (set (set l (2 * p) a) (2 * p + 1) b) i ≡ cond (eqb p i) u (coefficient l i)
    go (yes d) =
        ap (coefficient (set (set l (2 * p) a) (2 * p + 1) b)) (sym d) ∙ stored_at_lem l p a b h ∙ e
        ∙ sym (ap (λ (t : Bool). cond t u (coefficient l i)) (eq-eqb p i d))
    go (no d) = stored_elsewhere l p i a b (λ d'. d (sym d')) ∙ sym (ap (λ (t : Bool). cond t u (coefficient l i)) (ne_eqb p i d))

-- the lent part of an array of zeros
pub part_zeros : (m : ℕ) (l : List ℤ) → l ≡ replicate 2048 (pos 0) → Zeros (take m l)
part_zeros m l e = subst (λ (z : List ℤ). Zeros (take m z)) (sym e) (λ k. zero_at m 2048 k)
  where
    zero_at : (m n k : ℕ) → get_or (take m (replicate n (pos 0))) k (pos 0) ≡ pos 0
    zero_at zero n k = refl
    zero_at (suc m) zero k = refl
    zero_at (suc m) (suc n) zero = refl
    zero_at (suc m) (suc n) (suc k) = zero_at m n k
