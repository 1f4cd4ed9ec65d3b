-- The line that the opening program prints (document 01, 'Files').
use Rattle.std.specs.Prelude.{◌≡◌, cond, List, [], ◌∷◌, ◌++◌, ℕ, ◌+◌, ◌/◌, ◌%◌, ltb, leb, length, drop}
use Rattle.refusals.specs.Outcomes.{Outcome, done, refused}

-- "the refusal number in decimal": it has at most two digits
unfoldable pub decimal : ℕ → List ℕ
decimal n = cond (ltb n 10) ((48 + n) ∷ []) ((48 + n / 10) ∷ (48 + n % 10) ∷ [])

-- "the message bytes in uppercase hexadecimal"
unfoldable pub hex_digit : ℕ → ℕ
hex_digit d = cond (ltb d 10) (48 + d) (55 + d)

unfoldable pub hex : List ℕ → List ℕ
hex [] = []
hex (b ∷ rest) = hex_digit (b / 16) ∷ hex_digit (b % 16) ∷ hex rest

-- "one line: the refusal number in decimal (0 if none), a space, and the message bytes in uppercase hexadecimal, or a hyphen after a refusal"
abbrev pub line_of : Outcome (List ℕ) → List ℕ
line_of (done message) = decimal 0 ++ (32 ∷ hex message ++ (10 ∷ []))
line_of (refused n) = decimal n ++ (32 ∷ 45 ∷ 10 ∷ [])

-- A line, written to the front of what is lent, where it fits; what stands beyond it is left as it came. The answer is its length, or 0 where it does not fit.
abbrev pub Writes : List ℕ → ℕ → (old new : List ℕ) → Type 0
Writes line r old new =
    (r ≡ cond (leb (length line) (length old)) (length line) 0)
    × (new ≡ cond (leb (length line) (length old)) (line ++ drop (length line) old) old)
