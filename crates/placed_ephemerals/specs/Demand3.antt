-- Demand 3 of sealing from places: with any accepted key, any messages and any accepted lists nothing is refused, opening gives exactly the message sealed, and equal sealed arrays come only from equal messages.
use Rattle.std.specs.Prelude.{◌≡◌, List, ℕ, ◌*◌, ℤ, length}
use Rattle.refusals.specs.Outcomes.{done, Gives}
use Rattle.parameters.specs.Sets.{ParameterSet}
use Rattle.polynomials.specs.Polynomials.{coefficient}
use Rattle.packing.specs.Messages.{message_bytes, unpacked}
use Rattle.etru.specs.Scheme.{opened}
use Rattle.etru.specs.Calls.{opening}
use Rattle.etru.specs.Demand3.{AcceptedKey, Message}
use Rattle.placed_units.specs.declared.PlacedUnit.{PlacedUnit}
use Rattle.placed_ephemerals.specs.Calls.{places_sealing}
use Rattle.placed_ephemerals.specs.Promises.{PlacedEphemeral}

-- Sealing is not refused, nor is opening the array as sealing left it, which gives the message; what opening by the definition forms unpacks to it.
pub record Opens (p : ParameterSet) (f F2 h : List ℤ) (places : List PlacedUnit) (message : List ℕ) : Type 0 where
  pub e : List ℤ
  pub seals : places_sealing p h places message (2 * p.N) ≡ done e
  pub opens : opening p f F2 e (message_bytes p.N) ≡ done message
  pub forms : unpacked p.N (opened p (coefficient f) (coefficient F2) (coefficient e)) ≡ message

pub record Demand3 : Type 0 where
  pub opens : (p : ParameterSet) (f F2 Fq g h : List ℤ) (places : List PlacedUnit) (message : List ℕ) → AcceptedKey p f F2 Fq g h → PlacedEphemeral p places → Message p message → Opens p f F2 h places message
  pub distinct : (p : ParameterSet) (f F2 Fq g h : List ℤ) (places places' : List PlacedUnit) (message message' : List ℕ) (e e' : List ℤ) → AcceptedKey p f F2 Fq g h → PlacedEphemeral p places → PlacedEphemeral p places' → Message p message → Message p message' → places_sealing p h places message (2 * p.N) ≡ done e → places_sealing p h places' message' (2 * p.N) ≡ done e' → e ≡ e' → message ≡ message'
  -- Of the calls: whatever numbers sealing and opening return by their contracts, and whatever their outputs held before, both numbers are 0 and the message comes out.
  pub calls_open : (p : ParameterSet) (f F2 Fq g h : List ℤ) (places : List PlacedUnit) (message : List ℕ) (n m : ℕ) (old e : List ℤ) (lent opened : List ℕ) → AcceptedKey p f F2 Fq g h → PlacedEphemeral p places → Message p message → length old ≡ 2 * p.N → length lent ≡ message_bytes p.N
      → Gives (places_sealing p h places message (length old)) n old e → Gives (opening p f F2 e (length lent)) m lent opened → (n ≡ 0) × (m ≡ 0) × (opened ≡ message)
  -- Two sealings that leave the same array had the same message.
  pub calls_distinct : (p : ParameterSet) (f F2 Fq g h : List ℤ) (places places' : List PlacedUnit) (message message' : List ℕ) (n n' : ℕ) (old old' e e' : List ℤ) → AcceptedKey p f F2 Fq g h → PlacedEphemeral p places → PlacedEphemeral p places' → Message p message → Message p message' → length old ≡ 2 * p.N → length old' ≡ 2 * p.N
      → Gives (places_sealing p h places message (length old)) n old e → Gives (places_sealing p h places' message' (length old')) n' old' e' → e ≡ e' → message ≡ message'
