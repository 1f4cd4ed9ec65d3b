-- Demand 3 (document 01, 'What the prover is held to'): with any accepted key, any messages and any ephemerals nothing is refused, opening gives exactly the message sealed, and equal sealed arrays come only from equal messages.
use Rattle.std.specs.Prelude.{◌≡◌, not, List, ℕ, ◌*◌, T, ℤ, length}
use Rattle.refusals.specs.Outcomes.{done}
use Rattle.parameters.specs.Sets.{ParameterSet}
use Rattle.polynomials.specs.Polynomials.{coefficient, whole_triples}
use Rattle.packing.specs.Messages.{message_bytes, unpacked, spare_bit_set}
use Rattle.packing.specs.Promises.{Bytes}
use Rattle.etru.specs.Scheme.{opened}
use Rattle.etru.specs.Calls.{key_check, sealing, opening}

-- "Its accepted key is parameters, f, F2, Fq and g that the key check does not refuse, with the h that the check wrote."
pub record AcceptedKey (p : ParameterSet) (f F2 Fq g h : List ℤ) : Type 0 where
  pub accepted : key_check p f F2 Fq g (2 * p.N) ≡ done h

-- "any φ of its set"
pub record Ephemeral (p : ParameterSet) (φ : List ℤ) : Type 0 where
  pub full : length φ ≡ 2 * p.N
  pub in_set : T (whole_triples p.N p.s (coefficient φ))

-- "any message: N/4 bytes, rounded up, with the spare bits zero"
pub record Message (p : ParameterSet) (message : List ℕ) : Type 0 where
  pub full : length message ≡ message_bytes p.N
  pub bytes : Bytes message
  pub no_spare : T (not (spare_bit_set p.N message))

-- Sealing is not refused, nor is opening the array as sealing left it, which gives the message; what opening by the definition forms unpacks to it.
pub record Opens (p : ParameterSet) (f F2 h φ : List ℤ) (message : List ℕ) : Type 0 where
  pub e : List ℤ
  pub seals : sealing p h φ message (2 * p.N) ≡ done e
  pub opens : opening p f F2 e (message_bytes p.N) ≡ done message
  pub forms : unpacked p.N (opened p (coefficient f) (coefficient F2) (coefficient e)) ≡ message

pub record Demand3 : Type 0 where
  pub opens : (p : ParameterSet) (f F2 Fq g h φ : List ℤ) (message : List ℕ) → AcceptedKey p f F2 Fq g h → Ephemeral p φ → Message p message → Opens p f F2 h φ message
  pub distinct : (p : ParameterSet) (f F2 Fq g h φ φ' : List ℤ) (message message' : List ℕ) (e e' : List ℤ) → AcceptedKey p f F2 Fq g h → Ephemeral p φ → Ephemeral p φ' → Message p message → Message p message' → sealing p h φ message (2 * p.N) ≡ done e → sealing p h φ' message' (2 * p.N) ≡ done e' → e ≡ e' → message ≡ message'
