-- `seal_and_open` meets its contract.
use mathlib.Core.Path.{◌≡◌, ap}
use mathlib.Core.List.{List}
use Prim.Native.Nat.{ℕ}
use lib.IntN.{ℤ}
use lib.ListN.{length}
use Rattle.refusals.specs.Outcomes.{Outcome, done}
use Rattle.refusals.proofs.Checks.{gives_same}
use Rattle.parameters.specs.Sets.{set_of}
use Rattle.etru.specs.Calls.{sealing, opening}
use Rattle.round_trip.specs.RoundTrip.{next}
use Rattle.round_trip.proofs.Returns.{wrote_same, sealing_done}
use Rattle.round_trip.proofs.seal_and_open.Goals as goal
use Rattle.round_trip.proofs.seal_and_open.Goals.{Start}

abbrev seals : Start → Outcome (List ℤ)
seals s = sealing (set_of s.args.p) s.args.h.now s.args.phi.now s.args.message.now (length s.args.e.now)

abbrev opens : Start → List ℤ → Outcome (List ℕ)
opens s e = opening (set_of s.args.p) s.args.f.now s.args.f2.now e (length s.args.opened.now)

-- both, from what sealing gives
abbrev both : Start → Outcome (List ℤ) → Outcome (List ℕ)
both s x = next x (opens s)

pub returns : goal.returns
returns c =
    let sealed-is : seals (goal.at.returns c).Start ≡ done c.seal.new.e = sealing_done (set_of c.args.p) c.args.h.now c.args.phi.now c.args.message.now (length c.args.e.now) c.args.e.now _ c.seal.result c.in_ok-seal.was c.seal.ensures in
    let d = sealed-is in
    record { e_after = wrote_same c.args.e.now d; gives = gives_same c.args.opened.now (ap (both (goal.at.returns c).Start) d) c.open.ensures }
