-- `open_message` meets its contract.
use Rattle.refusals.proofs.Errors.{err_is}
use Rattle.std.specs.Prelude.{Result}
use Rattle.refusals.specs.declared.Refusal.{Refusal}
use mathlib.Core.Path.{◌≡◌, sym, ◌∙◌, ap}
use mathlib.Core.List.{List, ◌++◌}
use Prim.Native.Nat.{ℕ, min, ◌≤◌}
use native.Mathlib.Omega.{arith}
use lib.IntN.{ℤ}
use lib.ListN.{length, take, drop, take-append-drop}
use lib.Seq.{length-take-le}
use Rattle.refusals.specs.Outcomes.{Outcome, done, number, written}
use Rattle.refusals.specs.Numbers.{answered}
use Rattle.refusals.proofs.Checks.{same_first}
use Rattle.refusals.proofs.Numbers.{answer_refused}
use Rattle.parameters.specs.Sets.{ParameterSet, set_of, parameter_checks}
use Rattle.parameters.proofs.AcceptedParameters.{accepted_parameters}
use Rattle.packing.specs.Messages.{message_bytes}
use Rattle.etru.specs.Calls.{opening}
use Rattle.opened_arrays.proofs.Answers.{gives_as, opening_done}
use Rattle.opened_arrays.proofs.open_message.Goals as goal
use Rattle.opened_arrays.proofs.open_message.Goals.{Start}

module _ (p : ParameterSet) (f F2 e : List ℤ) where
  -- with room for the longest message at most: N above 1024 is refused whatever the room
  same_room : opening p f F2 e (min (message_bytes p.N) 256) ≡ opening p f F2 e (message_bytes p.N)
  unfolding opening
  same_room =
      same_first (parameter_checks p) _ _ _ _ λ a.
      let enough : min (message_bytes p.N) 256 ≡ message_bytes p.N = omega (arith, (accepted_parameters p a).N_small) in
      rw enough

abbrev outcome_of : Start → Outcome (List ℕ)
outcome_of s = opening (set_of s.args.p) s.args.f.now s.args.f2.now s.args.e.now (message_bytes s.args.p.n)

pub returns : goal.returns
returns c =
    let part : (c.min-k.result ≤ length c.args.message.now) × (length (take c.min-k.result c.args.message.now) ≡ c.min-k.result) = let room : c.min-k.result ≤ length c.args.message.now = omega (arith, c.min-k.ensures, c.requires) in
    (room, length-take-le _ c.args.message.now room) in
    let lent : c.min-k.result ≡ min (message_bytes c.args.p.n) 256 = c.min-k.ensures ∙ ap (λ (k : ℕ). min k 256) c.message_bytes.ensures in
    let outcome-is : opening (set_of c.args.p) c.args.f.now c.args.f2.now c.args.e.now (length (take c.min-k.result c.args.message.now)) ≡ outcome_of (goal.at.returns c).Start = ap (opening (set_of c.args.p) c.args.f.now c.args.f2.now c.args.e.now) (part.1 ∙ lent) ∙ same_room (set_of c.args.p) c.args.f.now c.args.f2.now c.args.e.now in
    let number_is : number (answered c.open.result) ≡ number (outcome_of (goal.at.returns c).Start) = c.open.ensures.0 ∙ ap number outcome-is in
    let new : List ℕ = c.open.new.message in
    let new_is : new ≡ written (outcome_of (goal.at.returns c).Start) (take c.min-k.result c.args.message.now) = c.open.ensures.1 ∙ ap (λ (o : Outcome (List ℕ)). written o (take c.min-k.result c.args.message.now)) outcome-is in
    let old = c.args.message.now in
    let o = opening_done (set_of c.args.p) c.args.f.now c.args.f2.now c.args.e.now (message_bytes c.args.p.n) (take c.min-k.result old) new (sym number_is ∙ ap (λ (a : Result (Unit {0}) Refusal). number (answered a)) c.in_ok-open.was) new_is in
    let long : c.min-k.result ≡ length new = omega (arith, part.1) in
    gives_as (sym o) (record { answer = ap done long; left = ap (λ (j : ℕ). new ++ drop j old) long })

pub returns-in_err-open : goal.returns-in_err-open
returns-in_err-open c =
    let lent : c.min-k.result ≡ min (message_bytes c.args.p.n) 256 = c.min-k.ensures ∙ ap (λ (k : ℕ). min k 256) c.message_bytes.ensures in
    let part : (c.min-k.result ≤ length c.args.message.now) × (length (take c.min-k.result c.args.message.now) ≡ c.min-k.result) = let room : c.min-k.result ≤ length c.args.message.now = omega (arith, c.min-k.ensures, c.requires) in
    (room, length-take-le _ c.args.message.now room) in
    let outcome-is : opening (set_of c.args.p) c.args.f.now c.args.f2.now c.args.e.now (length (take c.min-k.result c.args.message.now)) ≡ outcome_of (goal.at.returns-in_err-open c).Start = ap (opening (set_of c.args.p) c.args.f.now c.args.f2.now c.args.e.now) (part.1 ∙ lent) ∙ same_room (set_of c.args.p) c.args.f.now c.args.f2.now c.args.e.now in
    let number_is : number (answered c.open.result) ≡ number (outcome_of (goal.at.returns-in_err-open c).Start) = c.open.ensures.0 ∙ ap number outcome-is in
    let new : List ℕ = c.open.new.message in
    let new_is : new ≡ written (outcome_of (goal.at.returns-in_err-open c).Start) (take c.min-k.result c.args.message.now) = c.open.ensures.1 ∙ ap (λ (o : Outcome (List ℕ)). written o (take c.min-k.result c.args.message.now)) outcome-is in
    let k = c.min-k.result in
    let old = c.args.message.now in
    let n = c.in_err-open.field-0.0 in
    let o = answer_refused (outcome_of (goal.at.returns-in_err-open c).Start) c.open.result n number_is c.in_err-open.was in
    let same : new ≡ take k old = new_is ∙ ap (λ (x : Outcome (List ℕ)). written x (take k old)) o in
    gives_as (sym o) (record { answer = ap answered (err_is _ _ c.from_residual.ensures.1); left = ap (λ (l : List ℕ). l ++ drop k old) same ∙ take-append-drop k old })
