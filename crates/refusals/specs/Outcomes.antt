-- What a call gives: a value, or the number of the first refusal that applies.
use Rattle.std.specs.Prelude.{◌≡◌, Bool, true, false, List, [], ◌∷◌, ℕ}

-- A refusal's number, and whether its condition applies.
pub record Check : Type 0 where
  pub number : ℕ
  pub applies : Bool

infix 80 ◌if◌
abbrev pub ◌if◌ : ℕ → Bool → Check
n if t = record { number = n; applies = t }

pub data Outcome (A : Type 0) : Type 0 where
  done : A → Outcome A
  refused : ℕ → Outcome A

abbrev pub unless : {A : Type 0} → Bool → ℕ → Outcome A → Outcome A
unless true n o = refused n
unless false n o = o

-- "The first that applies, in this order, is given, and none is given otherwise."
unfoldable pub outcome : {A : Type 0} → List Check → A → Outcome A
outcome [] a = done a
outcome (c ∷ cs) a = unless c.applies c.number (outcome cs a)

-- Two outcomes one after the other: a refusal of the first one stands before the other's.
abbrev pub first : {A B : Type 0} → Outcome A → Outcome B → Outcome B
first (done a) o = o
first (refused n) o = refused n

-- The refusal number, 0 if none.
abbrev pub number : {A : Type 0} → Outcome A → ℕ
number (done a) = 0
number (refused n) = n

-- "Every refusal returns its number alone and writes to no lent output": what an output holds after a call, that held `old` before.
abbrev pub written : {A : Type 0} → Outcome A → A → A
written (done a) old = a
written (refused n) old = old

-- A call that returned this number, and left `new` in an output that held `old`, has given this outcome.
abbrev pub Gives : {A : Type 0} → Outcome A → ℕ → (old new : A) → Type 0
Gives o n old new = (n ≡ number o) × (new ≡ written o old)

-- No check of the list applies.
abbrev pub Passes : List Check → Type 0
Passes checks = outcome checks (tt {0}) ≡ done (tt {0})
