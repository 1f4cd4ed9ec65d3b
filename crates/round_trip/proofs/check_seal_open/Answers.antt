-- `check_seal_open` meets its contract.
use mathlib.Core.Path.{◌≡◌, refl, ◌∙◌, ap}
use mathlib.Core.List.{List}
use Prim.Native.Nat.{ℕ}
use lib.IntN.{ℤ}
use lib.ListN.{length}
use Rattle.refusals.specs.Outcomes.{number}
use Rattle.refusals.proofs.Errors.{passed_on}
use Rattle.refusals.specs.Outcomes.{Outcome, done}
use Rattle.refusals.proofs.Checks.{gives_same}
use Rattle.refusals.proofs.Numbers.{answer_refused}
use Rattle.parameters.specs.Sets.{set_of}
use Rattle.etru.specs.Calls.{key_check, sealing, opening}
use Rattle.round_trip.specs.RoundTrip.{next, checked_sealing, round_trip}
use Rattle.round_trip.proofs.Returns.{wrote_same, key_done, message_returns}
use Rattle.round_trip.proofs.check_seal_open.Goals as goal
use Rattle.round_trip.proofs.check_seal_open.Goals.{Start}

abbrev checks : Start → Outcome (List ℤ)
checks s = key_check (set_of s.args.p) s.args.f.now s.args.f2.now s.args.fq.now s.args.g.now (length s.args.h.now)

-- sealing, and the whole, from what the key check gives
abbrev seals : Start → Outcome (List ℤ) → Outcome (List ℤ)
seals s x = next x (λ h. sealing (set_of s.args.p) h s.args.phi.now s.args.message.now (length s.args.e.now))

abbrev whole : Start → Outcome (List ℤ) → Outcome (List ℕ)
whole s x = next (seals s x) (λ e. opening (set_of s.args.p) s.args.f.now s.args.f2.now e (length s.args.opened.now))

pub returns : goal.returns
unfolding round_trip checked_sealing
returns c =
    let checked_is : checks (goal.at.returns c).Start ≡ done c.check_key.new.h = key_done (set_of c.args.p) c.args.f.now c.args.f2.now c.args.fq.now c.args.g.now (length c.args.h.now) c.args.h.now _ c.check_key.result c.in_ok-check_key.was c.check_key.ensures in
    let d = checked_is in
    let k = c.seal_and_open.ensures in
    let o = gives_same c.args.opened.now (ap (whole (goal.at.returns c).Start) d) k.gives in
    record { h_after = wrote_same c.args.h.now d; e_after = k.e_after ∙ wrote_same c.args.e.now (ap (seals (goal.at.returns c).Start) d); gives = o; result_value = (λ l m. message_returns l c.args.opened.now m o) }

pub returns-in_err-check_key : goal.returns-in_err-check_key
unfolding round_trip checked_sealing
returns-in_err-check_key c = let d = answer_refused (checks (goal.at.returns-in_err-check_key c).Start) c.check_key.result c.in_err-check_key.field-0.0 c.check_key.ensures.0 c.in_err-check_key.was in
    let o = gives_same c.args.opened.now (ap (whole (goal.at.returns-in_err-check_key c).Start) d) (ap number (passed_on _ _ c.from_residual.ensures.1), refl) in
    record { h_after = c.check_key.ensures.1; e_after = wrote_same c.args.e.now (ap (seals (goal.at.returns-in_err-check_key c).Start) d); gives = o; result_value = (λ l m. message_returns l c.args.opened.now m o) }
