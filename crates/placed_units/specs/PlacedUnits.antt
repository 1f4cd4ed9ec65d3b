-- Document 02, wish 1: "a lent list of records, each a place and a unit number. Places start at 0; the unit numbers are document 01's."
use Rattle.std.specs.Prelude.{Bool, false, not, cond, ◌||◌, List, [], ◌∷◌, ℕ, eqb, ltb}
use Rattle.eisenstein.specs.Values.{𝟘, unit}
use Rattle.polynomials.specs.Polynomials.{Polynomial}
use Rattle.placed_units.specs.declared.PlacedUnit.{PlacedUnit}

-- whether a record has place i
unfoldable pub occurs : ℕ → List PlacedUnit → Bool
occurs i [] = false
occurs i (r ∷ rs) = eqb r.place i || occurs i rs

-- 23: "a place is N or more or a unit number is above 5", of one record and "over the whole list"
abbrev pub out_of_range : ℕ → PlacedUnit → Bool
out_of_range N r = not (ltb r.place N) || ltb 5 r.unit

unfoldable pub any_out_of_range : ℕ → List PlacedUnit → Bool
any_out_of_range N [] = false
any_out_of_range N (r ∷ rs) = out_of_range N r || any_out_of_range N rs

-- 24: "a place occurs twice"
unfoldable pub any_place_twice : List PlacedUnit → Bool
any_place_twice [] = false
any_place_twice (r ∷ rs) = occurs r.place rs || any_place_twice rs

-- The polynomial that a list spreads to: at each place its unit, and zero where no record has its place.
unfoldable pub spread : List PlacedUnit → Polynomial
spread [] i = 𝟘
spread (r ∷ rs) i = cond (eqb r.place i) (unit r.unit) (spread rs i)
