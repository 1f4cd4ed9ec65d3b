-- What the calls one after another give: an outcome is known from the number that its call returned, the round trip gives the message, and two sealings that leave equal arrays have sealed equal messages.
use Rattle.std.specs.Prelude.{Ok, Result}
use Rattle.refusals.specs.declared.Refusal.{Refusal}
use mathlib.Core.Path.{◌≡◌, sym, ◌∙◌, ap}
use mathlib.Core.List.{List, ◌++◌}
use Prim.Native.Nat.{ℕ, ◌*◌}
use lib.IntN.{ℤ}
use lib.ListN.{length}
use Rattle.refusals.specs.Outcomes.{Outcome, done, number, written, Gives}
use Rattle.refusals.specs.Numbers.{answered}
use Rattle.refusals.proofs.Checks.{done_as_written, gives_same}
use Rattle.parameters.specs.Sets.{ParameterSet, parameter_checks}
use Rattle.polynomials.specs.Polynomials.{coefficient, array}
use Rattle.packing.specs.Messages.{message_bytes, packed}
use Rattle.etru.specs.Scheme.{public_key, sealed}
use Rattle.etru.specs.Calls.{key_checks, key_check, sealing_checks, sealing, opening}
use Rattle.etru.proofs.Demand3.{demand_3}
use Rattle.round_trip.specs.RoundTrip.{next, checked_sealing, round_trip, RoundTripReturns, sealing_twice, checked_sealing_twice, Lent}

-- ---- outcomes that are equal write the same

pub wrote_same : {A : Type 0} {o o' : Outcome A} (old : A) → o ≡ o' → written o' old ≡ written o old
wrote_same {A} old e = sym (ap (λ (x : Outcome A). written x old) e)

-- ---- an outcome from its number

pub key_done : (p : ParameterSet) (f F2 Fq g : List ℤ) (room : ℕ) (old new : List ℤ) (answer : Result (Unit {0}) Refusal) → answer ≡ (Ok tt) → Gives (key_check p f F2 Fq g room) (number (answered answer)) old new → key_check p f F2 Fq g room ≡ done new
unfolding key_check key_checks parameter_checks
key_done p f F2 Fq g room old new answer a o =
    done_as_written (parameter_checks p ++ key_checks p f F2 Fq g room) (array p.N (public_key p (coefficient Fq) (coefficient g))) old new tt
    (sym o.0 ∙ ap (λ (x : Result (Unit {0}) Refusal). number (answered x)) a)
    o.1

pub sealing_done : (p : ParameterSet) (h φ : List ℤ) (message : List ℕ) (room : ℕ) (old new : List ℤ) (answer : Result (Unit {0}) Refusal) → answer ≡ (Ok tt) → Gives (sealing p h φ message room) (number (answered answer)) old new → sealing p h φ message room ≡ done new
unfolding sealing sealing_checks parameter_checks
sealing_done p h φ message room old new answer a o =
    done_as_written (parameter_checks p ++ sealing_checks p h φ message room) (array p.N (sealed p (coefficient h) (coefficient φ) (packed message))) old new tt
    (sym o.0 ∙ ap (λ (x : Result (Unit {0}) Refusal). number (answered x)) a)
    o.1

-- ---- demand 3

pub round_trip_returns : RoundTripReturns
unfolding round_trip checked_sealing
round_trip_returns p f F2 Fq g h φ message key ephemeral msg =
    let o = demand_3.opens p f F2 Fq g h φ message key ephemeral msg in
    ap (λ (x : Outcome (List ℤ)). next (next x (λ h. sealing p h φ message (2 * p.N))) (λ e. opening p f F2 e (message_bytes p.N))) key.accepted
    ∙ ap (λ (x : Outcome (List ℤ)). next x (λ e. opening p f F2 e (message_bytes p.N))) o.seals
    ∙ o.opens

-- of the calls, from what their outputs hold

module _ {p : ParameterSet} {f F2 Fq g φ : List ℤ} {message : List ℕ} {h e : List ℤ} (l : Lent p f F2 Fq g φ message h e) where
  pub message_returns : (opened : List ℕ) → length opened ≡ message_bytes p.N → {answer : ℕ} {opened' : List ℕ} → Gives (round_trip p f F2 Fq g φ message (length h) (length e) (length opened)) answer opened opened' → (answer ≡ 0) × (opened' ≡ message)
  message_returns opened m o =
      let d : round_trip p f F2 Fq g φ message (length h) (length e) (length opened) ≡ done message = rw (l.h_full, l.e_full, m) (round_trip_returns p f F2 Fq g l.key φ message l.accepted l.ephemeral l.a_message) in
      gives_same opened (sym d) o

  pub sealings_differ : {φ' : List ℤ} {message' : List ℕ} {e' : List ℤ} → Lent p f F2 Fq g φ' message' h e' → {answer : ℕ} {new new' : List ℤ} → new ≡ written (checked_sealing p f F2 Fq g φ message (length h) (length e)) e → Gives (checked_sealing_twice p f F2 Fq g φ φ' message message' (length h) (length e) (length e')) answer e' new' → (answer ≡ 0) × (new ≡ new' → message ≡ message')
  unfolding checked_sealing checked_sealing_twice sealing_twice
  sealings_differ {φ'} {message'} {e'} l' w o =
      let k = l.key in
      let n = 2 * p.N in
      let s = demand_3.opens p f F2 Fq g k φ message l.accepted l.ephemeral l.a_message in
      let s' = demand_3.opens p f F2 Fq g k φ' message' l.accepted l'.ephemeral l'.a_message in
      let d : checked_sealing p f F2 Fq g φ message (length h) (length e) ≡ done s.e = rw (l.h_full, l.e_full) (ap (λ (x : Outcome (List ℤ)). next x (λ h. sealing p h φ message n)) l.accepted.accepted ∙ s.seals) in
      let d' : checked_sealing_twice p f F2 Fq g φ φ' message message' (length h) (length e) (length e') ≡ done s'.e = rw (l.h_full, l.e_full, l'.e_full) (ap (λ (x : Outcome (List ℤ)). next x (λ h. sealing_twice p h φ φ' message message' n n)) l.accepted.accepted ∙ ap (λ (x : Outcome (List ℤ)). next x (λ e. sealing p k φ' message' n)) s.seals ∙ s'.seals) in
      let o' = gives_same e' (sym d') o in (
        o'.0,
        (λ same. demand_3.distinct p f F2 Fq g k φ φ' message message' s.e s'.e l.accepted l.ephemeral l'.ephemeral l.a_message l'.a_message s.seals s'.seals (sym (w ∙ wrote_same e (sym d)) ∙ same ∙ o'.1)),
      )
