-- Demand 3 of short messages: with any accepted key, any short messages, the empty one among them, and any ephemerals nothing is refused, opening gives exactly the bytes and the length sealed, and equal sealed arrays come only from equal short messages.
use Rattle.std.specs.Prelude.{Result}
use Rattle.refusals.specs.declared.Refusal.{Refusal}
use Rattle.std.specs.Prelude.{◌≡◌, List, ◌++◌, ℕ, ◌*◌, ℤ, length, drop}
use Rattle.refusals.specs.Outcomes.{done, Gives}
use Rattle.parameters.specs.Sets.{ParameterSet}
use Rattle.etru.specs.Demand3.{AcceptedKey, Ephemeral}
use Rattle.opened_arrays.specs.Answers.{GivesMessage}
use Rattle.refusals.specs.Numbers.{answered}
use Rattle.short_messages.specs.ShortMessages.{longest_short}
use Rattle.short_messages.specs.Promises.{Short}
use Rattle.short_scheme.specs.Calls.{short_sealing, short_opening}

-- Sealing is not refused, nor is opening the array as sealing left it, which gives the short message.
pub record Opens (p : ParameterSet) (f F2 h φ : List ℤ) (short : List ℕ) : Type 0 where
  pub e : List ℤ
  pub seals : short_sealing p h φ short (2 * p.N) ≡ done e
  pub opens : short_opening p f F2 e (longest_short p.N) ≡ done short

pub record Demand3 : Type 0 where
  pub opens : (p : ParameterSet) (f F2 Fq g h φ : List ℤ) (short : List ℕ) → AcceptedKey p f F2 Fq g h → Ephemeral p φ → Short p.N short → Opens p f F2 h φ short
  pub distinct : (p : ParameterSet) (f F2 Fq g h φ φ' : List ℤ) (short short' : List ℕ) (e e' : List ℤ) → AcceptedKey p f F2 Fq g h → Ephemeral p φ → Ephemeral p φ' → Short p.N short → Short p.N short' → short_sealing p h φ short (2 * p.N) ≡ done e → short_sealing p h φ' short' (2 * p.N) ≡ done e' → e ≡ e' → short ≡ short'
  -- Of the calls: whatever sealing and opening return by their contracts, and whatever their outputs held before, sealing returns 0, opening the length of the short message, and the lent bytes hold the short message, and behind it what they held.
  pub calls_open : (p : ParameterSet) (f F2 Fq g h φ : List ℤ) (short : List ℕ) (n : ℕ) (r : Result ℕ Refusal) (old e : List ℤ) (lent left : List ℕ) → AcceptedKey p f F2 Fq g h → Ephemeral p φ → Short p.N short → length old ≡ 2 * p.N → length lent ≡ longest_short p.N
      → Gives (short_sealing p h φ short (length old)) n old e → GivesMessage (short_opening p f F2 e (length lent)) r lent left → (n ≡ 0) × (answered r ≡ done (length short)) × (left ≡ short ++ drop (length short) lent)
  -- Two sealings that leave the same array had the same short message.
  pub calls_distinct : (p : ParameterSet) (f F2 Fq g h φ φ' : List ℤ) (short short' : List ℕ) (n n' : ℕ) (old old' e e' : List ℤ) → AcceptedKey p f F2 Fq g h → Ephemeral p φ → Ephemeral p φ' → Short p.N short → Short p.N short' → length old ≡ 2 * p.N → length old' ≡ 2 * p.N
      → Gives (short_sealing p h φ short (length old)) n old e → Gives (short_sealing p h φ' short' (length old')) n' old' e' → e ≡ e' → short ≡ short'
