-- The opening program: the line for its input, and the call that writes it (document 01, 'Files').
use Rattle.std.specs.Prelude.{Err, Ok, Result}
use Rattle.refusals.specs.declared.Refusal.{Refusal}
use Rattle.std.specs.Prelude.{not, List, [], ◌∷◌, ◌++◌, ℕ, eqb, length, take, drop}
use Rattle.refusals.specs.Outcomes.{Check, Outcome, done, refused, outcome, ◌if◌}
use Rattle.refusals.specs.Numbers.{number_of}
use Rattle.opened_files.specs.Pairs.{opening_files}
use Rattle.lines.specs.Lines.{line_of}

-- The line that is printed.
unfoldable pub opening_line : List ℕ → List ℕ
opening_line input = line_of (opening_files input)

-- The call: the lent line has room for the longest line, 515 bytes, or is refused by 7. What stands beyond the line is left as it came.
unfoldable pub line_checks : ℕ → List Check
line_checks room = 7 if not (eqb room 515) ∷ []

unfoldable pub line_writing : List ℕ → List ℕ → Outcome (List ℕ)
line_writing input old = outcome (line_checks (length old)) (opening_line input ++ drop (length (opening_line input)) old)

unfoldable pub line_length : List ℕ → ℕ → Outcome ℕ
line_length input room = outcome (line_checks room) (length (opening_line input))

-- What was opened, with the message at the front of `message`.
abbrev pub opened_is : Result ℕ Refusal → List ℕ → Outcome (List ℕ)
opened_is (Ok n) message = done (take n message)
opened_is (Err r) message = refused (number_of r)
