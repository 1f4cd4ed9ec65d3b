-- A list of records laid out as numbers: place, unit, place, unit and so on.
use Rattle.std.specs.Prelude.{List, [], ◌∷◌, ℕ, zero, suc, ◌+◌, ◌*◌, get_or}
use Rattle.placed_units.specs.declared.PlacedUnit.{PlacedUnit}

-- record i, zeros past the end
unfoldable pub record_at : List ℕ → ℕ → PlacedUnit
record_at numbers i = record { place = get_or numbers (2 * i) 0; unit = get_or numbers (2 * i + 1) 0 }

-- the k records from record i on
unfoldable pub records_from : List ℕ → (i k : ℕ) → List PlacedUnit
records_from numbers i zero = []
records_from numbers i (suc k) = record_at numbers i ∷ records_from numbers (suc i) k

-- the numbers of the first k records, and zeros for those that are not there
unfoldable pub numbers_of : ℕ → List PlacedUnit → List ℕ
numbers_of zero rs = []
numbers_of (suc k) [] = 0 ∷ 0 ∷ numbers_of k []
numbers_of (suc k) (r ∷ rs) = r.place ∷ r.unit ∷ numbers_of k rs
