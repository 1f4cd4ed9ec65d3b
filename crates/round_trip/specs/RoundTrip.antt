-- Demand 3 of the calls: key check, sealing and opening one after another, on the arrays as the calls left them.
use Rattle.std.specs.Prelude.{◌≡◌, List, ℕ, ◌*◌, ℤ, length}
use Rattle.refusals.specs.Outcomes.{Outcome, done, refused}
use Rattle.parameters.specs.Sets.{ParameterSet}
use Rattle.packing.specs.Messages.{message_bytes}
use Rattle.etru.specs.Calls.{key_check, sealing, opening}
use Rattle.etru.specs.Demand3.{AcceptedKey, Ephemeral, Message}

-- what is done next with a value, unless it was refused
abbrev pub next : {A B : Type 0} → Outcome A → (A → Outcome B) → Outcome B
next (done a) f = f a
next (refused n) f = refused n

-- sealing with the h of the key check
unfoldable pub checked_sealing : ParameterSet → (f F2 Fq g φ : List ℤ) → List ℕ → (roomH roomE : ℕ) → Outcome (List ℤ)
checked_sealing p f F2 Fq g φ message roomH roomE = next (key_check p f F2 Fq g roomH) (λ h. sealing p h φ message roomE)

-- and opening what was sealed
unfoldable pub round_trip : ParameterSet → (f F2 Fq g φ : List ℤ) → List ℕ → (roomH roomE roomM : ℕ) → Outcome (List ℕ)
round_trip p f F2 Fq g φ message roomH roomE roomM = next (checked_sealing p f F2 Fq g φ message roomH roomE) (λ e. opening p f F2 e roomM)

-- Demand 3: with any accepted key, any message and any ephemeral nothing is refused, and opening gives exactly the message sealed.
abbrev pub RoundTripReturns : Type 0
RoundTripReturns = (p : ParameterSet) (f F2 Fq g h φ : List ℤ) (message : List ℕ) → AcceptedKey p f F2 Fq g h → Ephemeral p φ → Message p message → round_trip p f F2 Fq g φ message (2 * p.N) (2 * p.N) (message_bytes p.N) ≡ done message

-- sealing twice with one h: the second array, unless one of the two is refused
unfoldable pub sealing_twice : ParameterSet → (h φ φ' : List ℤ) → (message message' : List ℕ) → (roomE roomE' : ℕ) → Outcome (List ℤ)
sealing_twice p h φ φ' message message' roomE roomE' = next (sealing p h φ message roomE) (λ e. sealing p h φ' message' roomE')

-- the same with the h of the key check
unfoldable pub checked_sealing_twice : ParameterSet → (f F2 Fq g φ φ' : List ℤ) → (message message' : List ℕ) → (roomH roomE roomE' : ℕ) → Outcome (List ℤ)
checked_sealing_twice p f F2 Fq g φ φ' message message' roomH roomE roomE' =
    next (key_check p f F2 Fq g roomH) (λ h. sealing_twice p h φ φ' message message' roomE roomE')

-- What demand 3 gives to key check and sealing: an accepted key, an ephemeral of its set, a message, and outputs h and e of the lengths that refusal 7 asks for.
pub record Lent (p : ParameterSet) (f F2 Fq g φ : List ℤ) (message : List ℕ) (h e : List ℤ) : Type 0 where
  pub key : List ℤ
  pub accepted : AcceptedKey p f F2 Fq g key
  pub ephemeral : Ephemeral p φ
  pub a_message : Message p message
  pub h_full : length h ≡ 2 * p.N
  pub e_full : length e ≡ 2 * p.N
