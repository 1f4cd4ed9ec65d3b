-- `open_into` meets its contract: an accepted N fits the larger room.
use native.Mathlib.Omega.{arith}
use lib.ListN.{length}
use Rattle.parameters.specs.Sets.{set_of}
use Rattle.etru.proofs.Passed.{opening_passed}
use Rattle.unsealing.proofs.opened.open_into.Goals as goal

pub open_in-requires-else-p-le128-clause-room : goal.open_in-requires-else-p-le128-clause-room
open_in-requires-else-p-le128-clause-room c =
    let small = (opening_passed (set_of c.args.p) c.args.f.now c.args.f2.now c.args.e.now (length c.args.message.now) c.requires).accepted.N_small in
    (omega arith, omega arith)
