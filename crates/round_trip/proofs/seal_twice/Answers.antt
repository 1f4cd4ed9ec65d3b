-- `seal_twice` meets its contract.
use mathlib.Core.Path.{◌≡◌, refl, ap}
use mathlib.Core.List.{List}
use lib.IntN.{ℤ}
use lib.ListN.{length}
use Rattle.refusals.specs.Outcomes.{number}
use Rattle.refusals.proofs.Errors.{passed_on}
use Rattle.refusals.specs.Outcomes.{Outcome, done}
use Rattle.refusals.proofs.Checks.{gives_same}
use Rattle.refusals.proofs.Numbers.{answer_refused}
use Rattle.parameters.specs.Sets.{set_of}
use Rattle.etru.specs.Calls.{sealing}
use Rattle.round_trip.specs.RoundTrip.{next, sealing_twice}
use Rattle.round_trip.proofs.Returns.{wrote_same, sealing_done}
use Rattle.round_trip.proofs.seal_twice.Goals as goal
use Rattle.round_trip.proofs.seal_twice.Goals.{Start}

abbrev seals : Start → Outcome (List ℤ)
seals s = sealing (set_of s.args.p) s.args.h.now s.args.phi1.now s.args.message1.now (length s.args.e1.now)

-- both, from what the first sealing gives
abbrev both : Start → Outcome (List ℤ) → Outcome (List ℤ)
both s x = next x (λ e. sealing (set_of s.args.p) s.args.h.now s.args.phi2.now s.args.message2.now (length s.args.e2.now))

pub returns : goal.returns
unfolding sealing_twice
returns c =
    let sealed-is : seals (goal.at.returns c).Start ≡ done c.seal.new.e = sealing_done (set_of c.args.p) c.args.h.now c.args.phi1.now c.args.message1.now (length c.args.e1.now) c.args.e1.now _ c.seal.result c.in_ok-seal.was c.seal.ensures in
    let d = sealed-is in
    record { e1_after = wrote_same c.args.e1.now d; gives = gives_same c.args.e2.now (ap (both (goal.at.returns c).Start) d) c.seal-2.ensures }

pub returns-in_err-seal : goal.returns-in_err-seal
unfolding sealing_twice
returns-in_err-seal c = let d = answer_refused (seals (goal.at.returns-in_err-seal c).Start) c.seal.result c.in_err-seal.field-0.0 c.seal.ensures.0 c.in_err-seal.was in
    record { e1_after = c.seal.ensures.1; gives = gives_same c.args.e2.now (ap (both (goal.at.returns-in_err-seal c).Start) d) (ap number (passed_on _ _ c.from_residual.ensures.1), refl) }
