-- `open_bits` meets its contract: what opening in full leaves is read as a short message.
use Rattle.refusals.proofs.Errors.{err_is}
use Rattle.std.specs.Prelude.{Result}
use Rattle.refusals.specs.declared.Refusal.{Refusal}
use mathlib.Core.Path.{◌≡◌, sym, ◌∙◌, ap}
use mathlib.Core.List.{List}
use Prim.Native.Nat.{ℕ}
use lib.ListN.{length}
use Rattle.refusals.specs.Outcomes.{Outcome, number, written}
use Rattle.refusals.specs.Numbers.{number_of, answered}
use Rattle.refusals.proofs.Numbers.{answer_refused}
use Rattle.parameters.specs.Sets.{ParameterSet, set_of}
use Rattle.packing.specs.Messages.{message_bytes}
use Rattle.etru.specs.Calls.{opening}
use Rattle.opened_arrays.proofs.Answers.{gives_as, gives_err, opening_done}
use Rattle.short_messages.specs.ShortMessages.{longest_short}
use Rattle.short_scheme.specs.Calls.{short_opening}
use Rattle.short_scheme.proofs.Promises.{readings_agree}
use Rattle.short_opening.proofs.open_bits.Goals as goal
use Rattle.short_opening.proofs.open_bits.Goals.{Start}

abbrev P : Start → ParameterSet
P s = set_of s.args.p

-- opening in full
abbrev in_full : Start → Outcome (List ℕ)
in_full s = opening (P s) s.args.f.now s.args.f2.now s.args.e.now (message_bytes (P s).N)

-- the lent output has the length that is asked
lent : (s : Start) → short_opening (P s) s.args.f.now s.args.f2.now s.args.e.now (length s.args.message.now) ≡ short_opening (P s) s.args.f.now s.args.f2.now s.args.e.now (longest_short (P s).N)
lent s = ap (short_opening (P s) s.args.f.now s.args.f2.now s.args.e.now) s.requires.1

-- the call's outcome is that of opening in full
room : (s : Start) → opening (P s) s.args.f.now s.args.f2.now s.args.e.now (length s.args.bits.now) ≡ in_full s
room s = ap (opening (P s) s.args.f.now s.args.f2.now s.args.e.now) s.requires.0

pub returns : goal.returns
returns c =
    let number_is : number (answered c.open.result) ≡ number (in_full (goal.at.returns c).Start) = c.open.ensures.0 ∙ ap number (room (goal.at.returns c).Start) in
    let new : List ℕ = c.open.new.message in
    let new_is : new ≡ written (in_full (goal.at.returns c).Start) c.args.bits.now = c.open.ensures.1 ∙ ap (λ (o : Outcome (List ℕ)). written o c.args.bits.now) (room (goal.at.returns c).Start) in
    let bits = new in
    let o = opening_done (P (goal.at.returns c).Start) c.args.f.now c.args.f2.now c.args.e.now (message_bytes (P (goal.at.returns c).Start).N) c.args.bits.now bits (sym number_is ∙ ap (λ (x : Result (Unit {0}) Refusal). number (answered x)) c.in_ok-open.was) new_is in
    gives_as (sym (lent (goal.at.returns c).Start ∙ (readings_agree (P (goal.at.returns c).Start) c.args.f.now c.args.f2.now c.args.e.now).reads bits o)) c.read_short.ensures

pub returns-in_err-open : goal.returns-in_err-open
returns-in_err-open c =
    let number_is : number (answered c.open.result) ≡ number (in_full (goal.at.returns-in_err-open c).Start) = c.open.ensures.0 ∙ ap number (room (goal.at.returns-in_err-open c).Start) in
    let n = c.in_err-open.field-0.0 in
    let o = answer_refused (in_full (goal.at.returns-in_err-open c).Start) c.open.result n number_is c.in_err-open.was in
    gives_err (err_is _ _ c.from_residual.ensures.1) (sym (lent (goal.at.returns-in_err-open c).Start ∙ (readings_agree (P (goal.at.returns-in_err-open c).Start) c.args.f.now c.args.f2.now c.args.e.now).refused_alike (number_of n) o))
