-- `seal_checked` meets its contract.
use Rattle.std.specs.Prelude.{Result}
use Rattle.refusals.specs.declared.Refusal.{Refusal}
use mathlib.Core.Path.{◌≡◌, refl, sym, ◌∙◌, ap, subst}
use mathlib.Core.Bool.{true}
use mathlib.Core.List.{List, [], ◌++◌}
use Prim.Native.Nat.{ℕ, ◌+◌, ◌*◌}
use borrow.Author.Tests.{ltb-false}
use lib.Dec.{T}
use lib.IntN.{ℤ}
use lib.ListN.{length, take, replicate}
use Rattle.refusals.specs.Outcomes.{Check, Outcome, done, refused, outcome, number, Gives}
use Rattle.refusals.specs.Numbers.{answered}
use Rattle.refusals.proofs.Checks.{done_all, done_passed, gives_refused}
use Rattle.parameters.specs.Sets.{ParameterSet, set_of, parameter_checks}
use Rattle.parameters.proofs.AcceptedParameters.{accepted_parameters}
use Rattle.polynomials.specs.Polynomials.{coefficient, array}
use Rattle.packing.specs.Messages.{packed}
use Rattle.etru.specs.Scheme.{sealed}
use Rattle.short_messages.specs.ShortMessages.{too_long, padded}
use Rattle.short_messages.proofs.Rooms.{Lent, lent_room}
use Rattle.short_scheme.specs.Calls.{short_sealing_checks, short_sealing}
use Rattle.short_sealing.proofs.seal_checked.Goals as goal

-- a message that is too long is refused, by 26 at the latest
module _ (p : ParameterSet) (h φ : List ℤ) (short : List ℕ) (room : ℕ) (long : too_long p.N (length short) ≡ true) where
  abbrev checks : List Check
  checks = parameter_checks p ++ short_sealing_checks p h φ (length short) room

  never_done : outcome checks (tt {0}) ≡ done (tt {0}) → ⊥
  unfolding short_sealing_checks
  never_done e =
      let c = done_all (parameter_checks p) (short_sealing_checks p h φ (length short) room) _ _ e in
      let c26 = done_all (take 3 (short_sealing_checks p h φ (length short) room)) _ _ _ c.1 in
      subst T (sym long ∙ (done_passed 26 (too_long p.N (length short)) [] _ _ c26.1).0) tt

  refused_as : (r : Result (Unit {0}) Refusal) (old : List ℤ) → answered r ≡ outcome checks (tt {0}) → Gives (short_sealing p h φ short room) (number (answered r)) old old
  unfolding short_sealing
  refused_as r old a = go (outcome checks (tt {0})) refl
    where
      value_of : List ℤ
      value_of = array p.N (sealed p (coefficient h) (coefficient φ) (packed (padded p.N short)))

      go : (o : Outcome (Unit {0})) → outcome checks (tt {0}) ≡ o → Gives (outcome checks value_of) (number (answered r)) old old
      go (done _) e = absurd (never_done e)
      go (refused n) e = subst (λ (k : ℕ). Gives (outcome checks value_of) k old old) (sym (ap number (a ∙ e))) (gives_refused checks value_of old n e)

pub returns-then-too_long : goal.returns-then-too_long
returns-then-too_long c = refused_as (set_of c.args.p.parameters) c.args.h.now c.args.phi.now c.args.message.now (length c.args.e.now) (sym c.too_long.ensures ∙ c.if-too_long.true) c.short_sealing_refusal.result c.args.e.now c.short_sealing_refusal.ensures

pub slice_bounds-bits-end : goal.slice_bounds-bits-end
slice_bounds-bits-end c =
    let lent : Lent c.args.p.parameters.n c.message_bytes-k.result (replicate 256 0) = lent_room (accepted_parameters (set_of c.args.p.parameters) c.args.p.passes).N_small c.message_bytes-k.ensures refl in
    lent.enough

pub slice_bounds-seal_bits-end : goal.slice_bounds-seal_bits-end
slice_bounds-seal_bits-end c =
    let lent : Lent c.args.p.parameters.n c.message_bytes-k.result (replicate 256 0) = lent_room (accepted_parameters (set_of c.args.p.parameters) c.args.p.passes).N_small c.message_bytes-k.ensures refl in
    sym lent.long

pub seal_bits-requires : goal.seal_bits-requires
seal_bits-requires c =
    let lent : Lent c.args.p.parameters.n c.message_bytes-k.result (replicate 256 0) = lent_room (accepted_parameters (set_of c.args.p.parameters) c.args.p.passes).N_small c.message_bytes-k.ensures refl in
    (ltb-false (2 * c.args.p.parameters.n) (8 * length c.args.message.now + 1) (sym c.too_long.ensures ∙ c.if-too_long.false), lent.for_message)
