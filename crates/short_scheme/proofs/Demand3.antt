-- Demand 3 of short messages: it is that of their 2N bits.
use mathlib.Core.Path.{◌≡◌, sym, ◌∙◌, ap}
use mathlib.Core.List.{List, []}
use Prim.Native.Nat.{ℕ, ◌*◌}
use lib.IntN.{ℤ}
use lib.ListN.{length}
use Rattle.refusals.specs.Outcomes.{done, Gives}
use Rattle.refusals.proofs.Checks.{passed, none_left, gives_same}
use Rattle.parameters.specs.Sets.{ParameterSet}
use Rattle.etru.specs.Demand3.{AcceptedKey, Ephemeral}
use Rattle.etru.proofs.Demand3 as full
use Rattle.opened_arrays.proofs.Answers.{gives_as}
use Rattle.short_messages.specs.ShortMessages.{padded, short_of}
use Rattle.short_messages.specs.Promises.{Short}
use Rattle.short_messages.proofs.ReadingBack.{padded_reads, same_short}
use Rattle.short_scheme.specs.Calls.{short_sealing, short_opening}
use Rattle.short_scheme.specs.Demand3.{Opens, Demand3}
use Rattle.short_scheme.proofs.Promises.{padded_message, short_seals_as_padded, readings_agree}

module _ {p : ParameterSet} {f F2 Fq g h : List ℤ} (key : AcceptedKey p f F2 Fq g h) where
  module _ {φ : List ℤ} {short : List ℕ} (ephemeral : Ephemeral p φ) (s : Short p.N short) where
    opens : Opens p f F2 h φ short
    opens =
        let o = (full.demand_3).opens p f F2 Fq g h φ (padded p.N short) key ephemeral (padded_message p short s.fits) in
        let r = padded_reads p.N short s in
        record {
          e = o.e;
          seals = short_seals_as_padded p h φ short (2 * p.N) s.fits ∙ o.seals;
          opens = (readings_agree p f F2 o.e).reads (padded p.N short) o.opens ∙ passed 27 [] (short_of p.N (padded p.N short)) r.0 ∙ none_left _ ∙ ap done r.1;
        }

    -- the array that the call left is the one sealed
    left : (n : ℕ) (old e : List ℤ) → length old ≡ 2 * p.N → Gives (short_sealing p h φ short (length old)) n old e → (n ≡ 0) × (e ≡ opens.e)
    left n old e lent sealed = gives_same old (sym (ap (short_sealing p h φ short) lent ∙ opens.seals)) sealed

  distinct : {φ φ' : List ℤ} {short short' : List ℕ} (e e' : List ℤ) → Ephemeral p φ → Ephemeral p φ' → Short p.N short → Short p.N short' → short_sealing p h φ short (2 * p.N) ≡ done e → short_sealing p h φ' short' (2 * p.N) ≡ done e' → e ≡ e' → short ≡ short'
  distinct {φ} {φ'} {short} {short'} e e' ephemeral ephemeral' s s' seals seals' same-e =
      same_short p.N short short' s s'
      ((full.demand_3).distinct p f F2 Fq g h φ φ' (padded p.N short) (padded p.N short') e e' key ephemeral ephemeral' (padded_message p short s.fits) (padded_message p short' s'.fits)
      (sym (short_seals_as_padded p h φ short (2 * p.N) s.fits) ∙ seals) (sym (short_seals_as_padded p h φ' short' (2 * p.N) s'.fits) ∙ seals') same-e)

pub demand_3 : Demand3
demand_3 = record {
  opens = λ p f F2 Fq g h φ short key ephemeral s. opens key ephemeral s;
  distinct = λ p f F2 Fq g h φ φ' short short' e e' key ephemeral ephemeral' s s' seals seals' same-e. distinct key e e' ephemeral ephemeral' s s' seals seals' same-e;
  calls_open = λ p f F2 Fq g h φ short n r old e lent bytes key ephemeral s old-long lent-long sealed opened.
      let o = opens key ephemeral s in
      let l = left key ephemeral s n old e old-long sealed in
      let m = gives_as (ap (λ (x : List ℤ). short_opening p f F2 x (length lent)) l.1 ∙ ap (short_opening p f F2 o.e) lent-long ∙ o.opens) opened in
      (l.0, m.answer, m.left);
  calls_distinct = λ p f F2 Fq g h φ φ' short short' n n' old old' e e' key ephemeral ephemeral' s s' old-long old-long' sealed sealed' same-e.
      let o = opens key ephemeral s in
      let o' = opens key ephemeral' s' in
      distinct key o.e o'.e ephemeral ephemeral' s s' o.seals o'.seals (sym (left key ephemeral s n old e old-long sealed).1 ∙ same-e ∙ (left key ephemeral' s' n' old' e' old-long' sealed').1);
}
