-- What a call gives that opens to a message: an answer, and bytes that it was lent.
use Rattle.std.specs.Prelude.{Result}
use Rattle.refusals.specs.declared.Refusal.{Refusal}
use Rattle.std.specs.Prelude.{◌≡◌, List, ◌++◌, ℕ, length, drop}
use Rattle.refusals.specs.Outcomes.{Outcome, done, refused}
use Rattle.refusals.specs.Numbers.{answered}

-- The answer that an outcome calls for.
abbrev pub length_of : Outcome (List ℕ) → Outcome ℕ
length_of (done m) = done (length m)
length_of (refused n) = refused n

-- What lent bytes hold after a call, that held `old` before: a message goes over the first of them, and a refusal writes to none.
abbrev pub over : Outcome (List ℕ) → List ℕ → List ℕ
over (done m) old = m ++ drop (length m) old
over (refused n) old = old

-- A call that answered `r`, and left `new` in lent bytes that held `old`, has given this outcome.
pub record GivesMessage (o : Outcome (List ℕ)) (r : Result ℕ Refusal) (old new : List ℕ) : Type 0 where
  -- It answers the length of the message, or the refusal.
  pub answer : answered r ≡ length_of o
  -- It leaves the message at the front, and the bytes behind it as they came; after a refusal all of them are as they came.
  pub left : new ≡ over o old
