-- A list of records and the polynomial that it spreads to: a place is taken where a coefficient is not zero.
use mathlib.Core.Path.{◌≡◌, refl, ◌∙◌, ap}
use mathlib.Core.Bool.{Bool, true, false, not, cond, ◌||◌}
use mathlib.Core.List.{List, [], ◌∷◌}
use Prim.Native.Nat.{ℕ, ◌≤◌, ◌<◌}
use native.Mathlib.Omega.{arith}
use borrow.Author.Tests.{ltb-true, ltb-false, not-false}
use lib.Dec.{eqb, ltb}
use Rattle.integers.proofs.Tests.{every_at, neither_first, neither_second}
use Rattle.eisenstein.specs.Values.{𝟘, unit, same, same_ℤ}
use Rattle.eisenstein.proofs.Equality.{is_true}
use Rattle.polynomials.specs.Polynomials.{nonzero}
use Rattle.placed_units.specs.declared.PlacedUnit.{PlacedUnit}
use Rattle.placed_units.specs.PlacedUnits.{out_of_range, any_out_of_range, occurs, spread}

unit-nonzero : (k : ℕ) → k ≤ 5 → nonzero (unit k) ≡ true
unfolding nonzero unit same same_ℤ
unit-nonzero k h = is_true (nonzero (unit k)) (every_at (λ k. nonzero (unit k)) 6 tt k (omega arith))

zero_zero : nonzero 𝟘 ≡ false
unfolding nonzero same same_ℤ
zero_zero = refl

-- what a record, and a list, in range tells
pub record_in_range : (N : ℕ) (r : PlacedUnit) → out_of_range N r ≡ false → (r.place < N) × (r.unit ≤ 5)
record_in_range N r h =
    (ltb-true r.place N (not-false _ (neither_first (not (ltb r.place N)) (ltb 5 r.unit) h)), ltb-false 5 r.unit (neither_second (not (ltb r.place N)) (ltb 5 r.unit) h))

pub first_in_range : (N : ℕ) (r : PlacedUnit) (places : List PlacedUnit) → any_out_of_range N (r ∷ places) ≡ false → out_of_range N r ≡ false
unfolding any_out_of_range
first_in_range N r places h = neither_first (out_of_range N r) _ h

pub rest_in_range : (N : ℕ) (r : PlacedUnit) (places : List PlacedUnit) → any_out_of_range N (r ∷ places) ≡ false → any_out_of_range N places ≡ false
unfolding any_out_of_range
rest_in_range N r places h = neither_second (out_of_range N r) (any_out_of_range N places) h

pub spread_taken : (N : ℕ) (places : List PlacedUnit) (i : ℕ) → any_out_of_range N places ≡ false → nonzero (spread places i) ≡ occurs i places
unfolding spread occurs
spread_taken N [] i h = zero_zero
spread_taken N (r ∷ places) i h = go (eqb r.place i) (spread_taken N places i (rest_in_range N r places h))
  where
    go : (t : Bool) → nonzero (spread places i) ≡ occurs i places → nonzero (cond t (unit r.unit) (spread places i)) ≡ (t || occurs i places)
    go true e = unit-nonzero r.unit (record_in_range N r (first_in_range N r places h)).1
    go false e = e

pub spread_free : (places : List PlacedUnit) (i : ℕ) → occurs i places ≡ false → spread places i ≡ 𝟘
unfolding spread occurs
spread_free [] i h = refl
spread_free (r ∷ places) i h =
    ap (λ (t : Bool). cond t (unit r.unit) (spread places i)) (neither_first (eqb r.place i) (occurs i places) h)
    ∙ spread_free places i (neither_second (eqb r.place i) (occurs i places) h)
