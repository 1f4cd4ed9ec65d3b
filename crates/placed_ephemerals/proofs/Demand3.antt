-- Demand 3 of sealing from places: it is that of sealing, with the array that a list spreads to.
use mathlib.Core.Path.{◌≡◌, sym, ◌∙◌, ap}
use mathlib.Core.List.{List}
use Prim.Native.Nat.{ℕ, ◌*◌}
use lib.IntN.{ℤ}
use lib.ListN.{length}
use Rattle.refusals.specs.Outcomes.{Outcome, done, Gives}
use Rattle.refusals.proofs.Checks.{gives_same}
use Rattle.parameters.specs.Sets.{ParameterSet}
use Rattle.polynomials.specs.Polynomials.{array}
use Rattle.etru.specs.Calls.{opening}
use Rattle.etru.specs.Demand3.{AcceptedKey, Message}
use Rattle.etru.proofs.Demand3 as arrays
use Rattle.placed_units.specs.declared.PlacedUnit.{PlacedUnit}
use Rattle.placed_units.specs.PlacedUnits.{spread}
use Rattle.placed_ephemerals.specs.Calls.{places_sealing}
use Rattle.placed_ephemerals.specs.Promises.{PlacedEphemeral}
use Rattle.placed_ephemerals.specs.Demand3.{Opens, Demand3}
use Rattle.placed_ephemerals.proofs.Promises.{sealing_from_places, placed}

-- what a call gives whose outcome is done
given : {A : Type 0} {o : Outcome A} {a : A} (n : ℕ) (old new : A) → o ≡ done a → Gives o n old new → (n ≡ 0) × (new ≡ a)
given n old new e g = gives_same old (sym e) g

module _ {p : ParameterSet} {f F2 Fq g h : List ℤ} (key : AcceptedKey p f F2 Fq g h) where
  module _ {places : List PlacedUnit} {message : List ℕ} (ok : PlacedEphemeral p places) (msg : Message p message) where
    opens : Opens p f F2 h places message
    opens =
        let o = (arrays.demand_3).opens p f F2 Fq g h (array p.N (spread places)) message key (placed p places ok) msg in
        record { e = o.e; seals = sealing_from_places p h places message _ ok.spreadable ∙ o.seals; opens = o.opens; forms = o.forms }

    -- the array that the call left is the one sealed
    left : (n : ℕ) (old e : List ℤ) → length old ≡ 2 * p.N → Gives (places_sealing p h places message (length old)) n old e → (n ≡ 0) × (e ≡ opens.e)
    left n old e full sealed = given n old e (ap (places_sealing p h places message) full ∙ opens.seals) sealed

  distinct : {places places' : List PlacedUnit} {message message' : List ℕ} {e e' : List ℤ} → PlacedEphemeral p places → PlacedEphemeral p places' → Message p message → Message p message' → places_sealing p h places message (2 * p.N) ≡ done e → places_sealing p h places' message' (2 * p.N) ≡ done e' → e ≡ e' → message ≡ message'
  distinct {places} {places'} {message} {message'} {e} {e'} ok ok' msg msg' seals seals' same-e =
      (arrays.demand_3).distinct p f F2 Fq g h (array p.N (spread places)) (array p.N (spread places')) message message' e e' key (placed p places ok) (placed p places' ok') msg msg'
      (sym (sealing_from_places p h places message _ ok.spreadable) ∙ seals) (sym (sealing_from_places p h places' message' _ ok'.spreadable) ∙ seals') same-e

pub demand_3 : Demand3
demand_3 = record {
  opens = λ p f F2 Fq g h places message key ok msg. opens key ok msg;
  distinct = λ p f F2 Fq g h places places' message message' e e' key ok ok' msg msg' seals seals' same-e. distinct key ok ok' msg msg' seals seals' same-e;
  calls_open = λ p f F2 Fq g h places message n m old e lent opened key ok msg full lent-full sealed opening-given.
      let o = opens key ok msg in
      let l = left key ok msg n old e full sealed in
      let r = given m lent opened (ap (λ (x : List ℤ). opening p f F2 x (length lent)) l.1 ∙ ap (opening p f F2 o.e) lent-full ∙ o.opens) opening-given in
      (l.0, r.0, r.1);
  calls_distinct = λ p f F2 Fq g h places places' message message' n n' old old' e e' key ok ok' msg msg' full full' sealed sealed' same-e.
      let o = opens key ok msg in
      let o' = opens key ok' msg' in
      distinct key ok ok' msg msg' o.seals o'.seals (sym (left key ok msg n old e full sealed).1 ∙ same-e ∙ (left key ok' msg' n' old' e' full' sealed').1);
}
