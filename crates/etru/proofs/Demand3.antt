-- Demand 3 of the definitions: what an accepted key gives, that sealing and opening then pass each check, and that they undo each other.
use mathlib.Core.Path.{◌≡◌, refl, sym, ◌∙◌, ap, subst}
use mathlib.Core.Bool.{◌&&◌}
use mathlib.Core.List.{List}
use mathlib.Core.Logic.{◌≢◌}
use Prim.Native.Nat.{ℕ, ◌*◌, ◌<◌}
use lib.Dec.{T, eqb, eqb→eq}
use lib.IntN.{ℤ}
use lib.ListN.{length}
use mir.Facts.{and_yes}
use Rattle.integers.proofs.Tests.{equal_4}
use Rattle.refusals.specs.Outcomes.{Outcome, done}
use Rattle.refusals.proofs.Checks.{passed, holds_passed, none_left, done_holds, done_value, done_all, passed_all}
use Rattle.eisenstein.specs.Values.{𝟘, ◌+ω◌, Congruent}
use Rattle.parameters.specs.Sets.{ParameterSet, bound, parameter_checks}
use Rattle.polynomials.specs.Polynomials.{Polynomial, coefficient, array, convolution, one, units_only, whole_triples, reduced_q, reduced2, congruent_q, congruent2}
use Rattle.polynomials.proofs.Arrays.{array_length}
use Rattle.polynomials.proofs.Members.{triples_units}
use Rattle.polynomials.proofs.Congruences.{congruent_q_at, congruent2_at, remainders_reduced, remainders_congruent}
use Rattle.arrays.specs.Arrays.{full}
use Rattle.packing.specs.Messages.{message_bytes, packed, unpacked, spare_bit_set}
use Rattle.packing.proofs.RoundTrips.{is_unset, packed_unpacks, packed_reduced, unpacked-same}
use Rattle.etru.specs.Scheme.{public_key, sealed, opened}
use Rattle.etru.specs.Calls.{key_checks, key_check, sealing_checks, sealing, opening_checks, opening}
use Rattle.etru.specs.Promises.{Setting}
use Rattle.etru.specs.Demand3.{AcceptedKey, Ephemeral, Message, Opens, Demand3}
use Rattle.parameters.proofs.AcceptedParameters.{Accepted, accepted_parameters, modulus_nonzero}
use Rattle.etru.proofs.Correctness.{opening_undoes_sealing}

-- ---- what an accepted key gives

pub record Key (p : ParameterSet) (f F2 Fq g h : List ℤ) : Type 0 where
  pub parameters : Accepted p
  pub f_full : length f ≡ 2 * p.N
  pub F2_full : length F2 ≡ 2 * p.N
  pub f_units : T (units_only p.N p.t (coefficient f))
  pub F2_reduced : T (reduced2 p.N (coefficient F2))
  pub g_units : T (whole_triples p.N p.s (coefficient g))
  pub inverse_2 : T (congruent2 p.N (convolution p.N (coefficient f) (coefficient F2)) one)
  pub inverse_q : T (congruent_q p.N p.q (convolution p.N (coefficient f) (coefficient Fq)) one)
  pub h_is : array p.N (public_key p (coefficient Fq) (coefficient g)) ≡ h

pub accepted_key : {p : ParameterSet} {f F2 Fq g h : List ℤ} → AcceptedKey p f F2 Fq g h → Key p f F2 Fq g h
unfolding key_check key_checks
accepted_key {p} {f} {F2} {Fq} {g} {h} a =
    let (c, k) = done_all (parameter_checks p) _ _ _ a.accepted in
    let k7 = done_holds 7 (full p.N (length f) && (full p.N (length F2) && (full p.N (length Fq) && (full p.N (length g) && full p.N (2 * p.N))))) _ _ _ k in
    let k8 = done_holds 8 (units_only p.N p.t (coefficient f)) _ _ _ k7.1 in
    let k11 = done_holds 11 (reduced2 p.N (coefficient F2)) _ _ _ k8.1 in
    let k12 = done_holds 12 (reduced_q p.N p.q (coefficient Fq)) _ _ _ k11.1 in
    let k9 = done_holds 9 (whole_triples p.N p.s (coefficient g)) _ _ _ k12.1 in
    let k13 = done_holds 13 (congruent2 p.N (convolution p.N (coefficient f) (coefficient F2)) one) _ _ _ k9.1 in
    let k14 = done_holds 14 (congruent_q p.N p.q (convolution p.N (coefficient f) (coefficient Fq)) one) _ _ _ k13.1 in
    let l = and_yes (full p.N (length f)) (full p.N (length F2) && (full p.N (length Fq) && (full p.N (length g) && full p.N (2 * p.N)))) k7.0 in
    let m = and_yes (full p.N (length F2)) (full p.N (length Fq) && (full p.N (length g) && full p.N (2 * p.N))) l.1 in
    record {
      parameters = accepted_parameters p c;
      f_full = eqb→eq (length f) (2 * p.N) l.0;
      F2_full = eqb→eq (length F2) (2 * p.N) m.0;
      f_units = k8.0;
      F2_reduced = k11.0;
      g_units = k9.0;
      inverse_2 = k13.0;
      inverse_q = k14.0;
      h_is = done_value _ _ k14.1;
    }

-- ---- sealing and opening

module _ {p : ParameterSet} {f F2 Fq g h : List ℤ} (accepted : AcceptedKey p f F2 Fq g h) where
  key : Key p f F2 Fq g h
  key = accepted_key accepted

  q≢0 : p.q ≢ 𝟘
  q≢0 = modulus_nonzero p key.parameters

  h_full : length h ≡ 2 * p.N
  h_full = ap length (sym key.h_is) ∙ array_length p.N (public_key p (coefficient Fq) (coefficient g))

  h_reduced : T (reduced_q p.N p.q (coefficient h))
  unfolding public_key
  h_reduced =
      subst (λ (x : List ℤ). T (reduced_q p.N p.q (coefficient x))) key.h_is
      (remainders_reduced p.N p.q q≢0 (public_key p (coefficient Fq) (coefficient g)) (convolution p.N (coefficient Fq) (coefficient g)) (λ i l. refl))

  h_congruent : (i : ℕ) → i < p.N → Congruent p.q (convolution p.N (coefficient Fq) (coefficient g) i) (coefficient h i)
  unfolding public_key
  h_congruent i l =
      subst (λ (x : List ℤ). Congruent p.q (convolution p.N (coefficient Fq) (coefficient g) i) (coefficient x i)) key.h_is
      (remainders_congruent p.N p.q q≢0 (public_key p (coefficient Fq) (coefficient g)) (convolution p.N (coefficient Fq) (coefficient g)) (λ i l. refl) i l)

  -- opening refuses no full array that is reduced
  pub opening_passes : (e : List ℤ) → length e ≡ 2 * p.N → T (reduced_q p.N p.q (coefficient e)) → opening p f F2 e (message_bytes p.N) ≡ done (unpacked p.N (opened p (coefficient f) (coefficient F2) (coefficient e)))
  unfolding opening opening_checks
  opening_passes e e_full e_reduced =
      passed_all (parameter_checks p) _ _ key.parameters.checks
      ∙ holds_passed 7 (eqb (message_bytes p.N) (message_bytes p.N) && (full p.N (length f) && (full p.N (length F2) && full p.N (length e)))) _ _
      (equal_4 {a = message_bytes p.N} refl key.f_full key.F2_full e_full)
      ∙ holds_passed 8 (units_only p.N p.t (coefficient f)) _ _ key.f_units
      ∙ holds_passed 11 (reduced2 p.N (coefficient F2)) _ _ key.F2_reduced
      ∙ holds_passed 12 (reduced_q p.N p.q (coefficient e)) _ _ e_reduced
      ∙ none_left _

  module _ {φ : List ℤ} {message : List ℕ} (ephemeral : Ephemeral p φ) (msg : Message p message) where
    -- what is sealed, before it is reduced
    masked : Polynomial
    masked i = convolution p.N (λ j. coefficient φ j +ω coefficient φ j) (coefficient h) i +ω packed message i

    e : List ℤ
    e = array p.N (sealed p (coefficient h) (coefficient φ) (packed message))

    e_full : length e ≡ 2 * p.N
    unfolding e
    e_full = array_length p.N (sealed p (coefficient h) (coefficient φ) (packed message))

    e_reduced : T (reduced_q p.N p.q (coefficient e))
    unfolding e sealed masked
    e_reduced = remainders_reduced p.N p.q q≢0 (sealed p (coefficient h) (coefficient φ) (packed message)) masked (λ i l. refl)

    e_congruent : (i : ℕ) → i < p.N → Congruent p.q (masked i) (coefficient e i)
    unfolding e sealed masked
    e_congruent = remainders_congruent p.N p.q q≢0 (sealed p (coefficient h) (coefficient φ) (packed message)) masked (λ i l. refl)

    seals : sealing p h φ message (2 * p.N) ≡ done e
    unfolding sealing sealing_checks e
    seals =
        passed_all (parameter_checks p) _ _ key.parameters.checks
        ∙ holds_passed 7 (eqb (length message) (message_bytes p.N) && (full p.N (length h) && (full p.N (length φ) && full p.N (2 * p.N)))) _ _
        (equal_4 {d = 2 * p.N} msg.full h_full ephemeral.full refl)
        ∙ holds_passed 12 (reduced_q p.N p.q (coefficient h)) _ _ h_reduced
        ∙ holds_passed 10 (whole_triples p.N p.s (coefficient φ)) _ _ ephemeral.in_set
        ∙ passed 15 _ _ (is_unset (spare_bit_set p.N message) msg.no_spare)
        ∙ none_left _

    setting : Setting p (coefficient f) (coefficient F2) (coefficient Fq) (coefficient g) (coefficient h) (coefficient φ) (packed message) (coefficient e)
    unfolding bound masked
    setting = record {
      modulus = q≢0;
      bound = key.parameters.below;
      f_units = key.f_units;
      g_units = triples_units p.N p.s (coefficient g) key.g_units;
      φ_units = triples_units p.N p.s (coefficient φ) ephemeral.in_set;
      m_reduced = packed_reduced p.N message;
      inverse_2 = congruent2_at p.N (convolution p.N (coefficient f) (coefficient F2)) one key.inverse_2;
      inverse_q = congruent_q_at p.N p.q (convolution p.N (coefficient f) (coefficient Fq)) one q≢0 key.inverse_q;
      h_is = h_congruent;
      e_is = e_congruent;
    }

    formed : (i : ℕ) → i < p.N → opened p (coefficient f) (coefficient F2) (coefficient e) i ≡ packed message i
    formed = opening_undoes_sealing p (coefficient f) (coefficient F2) (coefficient Fq) (coefficient g) (coefficient h) (coefficient φ) (packed message) (coefficient e) setting

    forms : unpacked p.N (opened p (coefficient f) (coefficient F2) (coefficient e)) ≡ message
    forms = unpacked-same p.N formed ∙ packed_unpacks p.N message msg.bytes msg.full msg.no_spare

    pub all_opens : Opens p f F2 h φ message
    all_opens = record { e = e; seals = seals; opens = opening_passes e e_full e_reduced ∙ ap done forms; forms = forms }

-- two outcomes of one call
one-outcome : {A : Type 0} {o : Outcome A} {a b : A} → o ≡ done a → o ≡ done b → a ≡ b
one-outcome p r = cc

pub demand_3 : Demand3
demand_3 = record {
  opens = λ p f F2 Fq g h φ message key ephemeral msg. all_opens key ephemeral msg;
  distinct = λ p f F2 Fq g h φ φ' message message' e e' key ephemeral ephemeral' msg msg' seals seals' same-e.
      let o = all_opens key ephemeral msg in
      let o' = all_opens key ephemeral' msg' in
      let same : o.e ≡ o'.e = one-outcome o.seals seals ∙ same-e ∙ one-outcome seals' o'.seals in
      one-outcome (subst (λ (x : List ℤ). opening p f F2 x (message_bytes p.N) ≡ done message) same o.opens) o'.opens;
}
