-- A set of stops as bits: stop s is bit s mod 32 of word s / 32.
use Rattle.std.specs.Prelude.{Bool, cond, List, ℕ, ◌+◌, ◌/◌, ◌%◌, ◌^◌, eqb, get_or, set}

-- bit i of a word
unfoldable pub bit : ℕ → ℕ → Bool
bit word i = eqb (word / 2 ^ i % 2) 1

-- whether a set has a stop; it has none that lies past its words
unfoldable pub has : List ℕ → ℕ → Bool
has words s = bit (get_or words (s / 32) 0) (s % 32)

-- the set with a stop; as it was, if it has it, or if the stop lies past its words
unfoldable pub with : List ℕ → ℕ → List ℕ
with words s = cond (has words s) words (set words (s / 32) (get_or words (s / 32) 0 + 2 ^ (s % 32)))
