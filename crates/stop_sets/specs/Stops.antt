-- Document 02, wish 2, 25: "a stop number occurs twice".
use Rattle.std.specs.Prelude.{Bool, false, ◌||◌, List, [], ◌∷◌, ℕ, eqb}

-- whether a list has this stop
unfoldable pub occurs : ℕ → List ℕ → Bool
occurs s [] = false
occurs s (r ∷ stops) = eqb r s || occurs s stops

unfoldable pub any_twice : List ℕ → Bool
any_twice [] = false
any_twice (s ∷ stops) = occurs s stops || any_twice stops
