-- Records that are laid out as numbers are read back from them.
use mathlib.Core.Path.{◌≡◌, refl, ◌∙◌, ap, ap₂}
use mathlib.Core.List.{List, [], ◌∷◌}
use Prim.Native.Nat.{ℕ, zero, suc, ◌+◌, ◌*◌, ◌≤◌}
use native.Mathlib.Omega.{arith}
use lib.ListN.{length, get_or}
use Rattle.placed_units.specs.declared.PlacedUnit.{PlacedUnit}
use Rattle.placed_units.specs.Layout.{record_at, records_from, numbers_of}

pub records_none : (numbers : List ℕ) (i : ℕ) → records_from numbers i 0 ≡ []
unfolding records_from
records_none numbers i = refl

pub records_first : (numbers : List ℕ) (i k : ℕ) → records_from numbers i (suc k) ≡ record_at numbers i ∷ records_from numbers (suc i) k
unfolding records_from
records_first numbers i k = refl

pub records_length : (numbers : List ℕ) (i k : ℕ) → length (records_from numbers i k) ≡ k
unfolding records_from
records_length numbers i zero = refl
records_length numbers i (suc k) = ap suc (records_length numbers (suc i) k)

record_later : (a b : ℕ) (l : List ℕ) (i : ℕ) → record_at (a ∷ b ∷ l) (suc i) ≡ record_at l i
unfolding record_at
record_later a b l i =
    ap₂ (λ (p u : ℕ). record { place = p; unit = u }) (ap (λ (k : ℕ). get_or (a ∷ b ∷ l) k 0) {x = 2 * suc i} {y = suc (suc (2 * i))} (omega arith))
    (ap (λ (k : ℕ). get_or (a ∷ b ∷ l) k 0) {x = 2 * suc i + 1} {y = suc (suc (2 * i + 1))} (omega arith))

records_later : (a b : ℕ) (l : List ℕ) (i k : ℕ) → records_from (a ∷ b ∷ l) (suc i) k ≡ records_from l i k
unfolding records_from
records_later a b l i zero = refl
records_later a b l i (suc k) = ap₂ ◌∷◌ (record_later a b l i) (records_later a b l (suc i) k)

pub records_of_numbers : (k : ℕ) (places : List PlacedUnit) → length places ≤ k → records_from (numbers_of k places) 0 (length places) ≡ places
unfolding records_from record_at numbers_of
records_of_numbers k [] h = refl
records_of_numbers zero (r ∷ places) h = absurd (omega arith)
records_of_numbers (suc k) (r ∷ places) h =
    ap (λ (l : List PlacedUnit). r ∷ l) (records_later r.place r.unit (numbers_of k places) 0 (length places) ∙ records_of_numbers k places (omega arith))

pub numbers_length : (k : ℕ) (places : List PlacedUnit) → length (numbers_of k places) ≡ 2 * k
unfolding numbers_of
numbers_length zero places = refl
numbers_length (suc k) [] = omega (arith, numbers_length k [])
numbers_length (suc k) (r ∷ places) = omega (arith, numbers_length k places)
