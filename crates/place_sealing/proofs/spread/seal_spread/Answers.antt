-- `seal_spread` meets its contract: a list that is spread seals as its array does, and one that is not is refused by sealing from it too.
use mathlib.Core.Path.{◌≡◌, refl, sym, ◌∙◌, ap}
use mathlib.Core.List.{List, [], ◌∷◌, ◌++◌}
use mathlib.Core.Bool.{◌&&◌}
use Prim.Native.Nat.{ℕ, ◌*◌, ◌≤◌, ◌<◌}
use native.Mathlib.Omega.{arith}
use lib.Dec.{eqb}
use lib.IntN.{ℤ, pos}
use lib.ListN.{length, take, replicate}
use Rattle.refusals.specs.Outcomes.{number}
use Rattle.refusals.proofs.Errors.{passed_on}
use Rattle.integers.proofs.Tests.{equal_2, are_equal_4}
use Rattle.refusals.specs.Outcomes.{refused, done, ◌if◌, Gives, Passes}
use Rattle.refusals.specs.Numbers.{number_of}
use Rattle.refusals.proofs.Checks.{holds_passed, passed_all, refused_first, refused_plain, done_all, done_holds, done_parts, done_as_written, gives_same}
use Rattle.refusals.proofs.Numbers.{number_positive, answer_refused}
use Rattle.parameters.specs.Sets.{ParameterSet, set_of, parameter_checks}
use Rattle.parameters.proofs.AcceptedParameters.{accepted_parameters}
use Rattle.polynomials.specs.Polynomials.{array}
use Rattle.arrays.specs.Arrays.{full}
use Rattle.arrays.proofs.Sizes.{zeros_part}
use Rattle.packing.specs.Messages.{message_bytes, spare_bit_set}
use Rattle.etru.specs.Calls.{sealing}
use Rattle.placed_units.specs.declared.PlacedUnit.{PlacedUnit}
use Rattle.placed_units.specs.PlacedUnits.{spread}
use Rattle.placed_ephemerals.specs.Calls.{place_checks, before_places, spreading_checks, spreading, places_sealing_checks, places_sealing}
use Rattle.placed_ephemerals.proofs.Promises.{sealing_from_places, spreading_accepted}
use Rattle.place_sealing.proofs.spread.seal_spread.Goals as goal
use Rattle.place_sealing.proofs.spread.seal_spread.Goals.{Start}

module _ (p : ParameterSet) (places : List PlacedUnit) where
  -- a list that was spread is accepted, and what was written is its array
  module _ (room : ℕ) (old new : List ℤ) (given : Gives (spreading p places room) 0 old new) where
    spread_done : spreading p places room ≡ done new
    unfolding spreading spreading_checks parameter_checks
    spread_done = done_as_written (parameter_checks p ++ spreading_checks p places room) (array p.N (spread places)) old new tt (sym given.0) given.1

    its_array : array p.N (spread places) ≡ new
    unfolding spreading
    its_array = (done_parts (parameter_checks p ++ spreading_checks p places room) _ new spread_done).1

    sealed_so : (h : List ℤ) (message : List ℕ) (roomE : ℕ) → places_sealing p h places message roomE ≡ sealing p h new message roomE
    sealed_so h message roomE =
        sealing_from_places p h places message roomE (spreading_accepted p places room new spread_done).0.spreadable ∙ ap (λ (φ : List ℤ). sealing p h φ message roomE) its_array

  -- a list whose records are refused is so by both calls
  refused_so : (h : List ℤ) (message : List ℕ) (room roomE n : ℕ) → Passes (parameter_checks p ++ before_places p h (length places) (length message) roomE) → room ≡ 2 * p.N
      → 0 < n → spreading p places room ≡ refused n → places_sealing p h places message roomE ≡ refused n
  unfolding spreading spreading_checks places_sealing places_sealing_checks
  refused_so h message room roomE n passes full-phi positive e =
      let before = done_all (parameter_checks p) (before_places p h (length places) (length message) roomE) _ _ passes in
      let lengths = (done_holds 7 (eqb (length message) (message_bytes p.N) && (eqb (length places) p.s && (full p.N (length h) && full p.N roomE))) _ _ _ before.1).0 in
      let records = (are_equal_4 (length message) (message_bytes p.N) (length places) p.s (length h) (2 * p.N) roomE (2 * p.N) lengths).1 in
      passed_all (parameter_checks p) _ _ before.0
      ∙ passed_all (before_places p h (length places) (length message) roomE) _ _ before.1
      ∙ refused_first (place_checks p places) (15 if spare_bit_set p.N message ∷ []) _ n (refused_plain (place_checks p places) _ n positive
      (sym (passed_all (parameter_checks p) _ _ before.0 ∙ holds_passed 7 (eqb (length places) p.s && full p.N room) _ _ (equal_2 {a = length places} {b = room} records full-phi)) ∙ e))

small : (s : Start) → s.args.p.n ≤ 1024
small s = (accepted_parameters (set_of s.args.p) (done_all (parameter_checks (set_of s.args.p)) _ _ _ s.requires).0).N_small

-- the part of the room that is lent
part : (s : Start) → length (take (2 * s.args.p.n) (replicate 2048 (pos 0))) ≡ 2 * s.args.p.n
part s = zeros_part s.args.p.n _ (small s) refl

pub slice_bounds-room-end : goal.slice_bounds-room-end
slice_bounds-room-end c = omega (arith, small (goal.at.slice_bounds-room-end c).Start)

pub slice_bounds-phi-end : goal.slice_bounds-phi-end
slice_bounds-phi-end c = sym (part (goal.at.slice_bounds-phi-end c).Start)

pub returns : goal.returns
returns c =
    gives_same c.args.e.now (sealed_so (set_of c.args.p) c.args.places.now _ _ _ c.in_ok-spread_places.ensures c.args.h.now c.args.message.now (length c.args.e.now)) c.seal.ensures

pub returns-in_err-spread_places : goal.returns-in_err-spread_places
returns-in_err-spread_places c =
    let refusal = c.in_err-spread_places.field-0.0 in
    let whole = part (goal.at.returns-in_err-spread_places c).Start in
    let refused-list = answer_refused _ c.spread_places.result refusal c.spread_places.ensures.0 c.in_err-spread_places.was in
    gives_same c.args.e.now
    (refused_so (set_of c.args.p) c.args.places.now c.args.h.now c.args.message.now _ (length c.args.e.now) (number_of refusal) c.requires whole (number_positive refusal) refused-list)
    (ap number (passed_on _ _ c.from_residual.ensures.1), refl)
