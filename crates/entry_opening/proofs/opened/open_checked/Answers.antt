-- `open_checked` meets its contract: 7 for the part's length, then what opening its numbers gives.
use mathlib.Core.Path.{◌≡◌, refl}
use native.Mathlib.Omega.{arith}
use lib.ListN.{length}
use Rattle.refusals.proofs.Checks.{gives_same}
use Rattle.parameters.specs.Sets.{set_of}
use Rattle.parameters.proofs.AcceptedParameters.{accepted_parameters}
use Rattle.etru.specs.Calls.{opening}
use Rattle.files.specs.Files.{numbers_from}
use Rattle.entry_opening.specs.Calls.{opening_entry}
use Rattle.entry_opening.proofs.Promises.{length_refused, opens_as_its_array}
use Rattle.entry_opening.proofs.opened.open_checked.Goals as goal

pub returns-then-part-p : goal.returns-then-part-p
returns-then-part-p c = gives_same c.args.message.now (length_refused (set_of c.args.p.parameters) c.args.f.now c.args.f2.now c.args.part.now (length c.args.message.now) c.args.p.passes c.if-part-p.true) (refl, refl)

pub returns-then-p-le128 : goal.returns-then-p-le128
returns-then-p-le128 c =
    let as_array : opening_entry (set_of c.args.p.parameters) c.args.f.now c.args.f2.now c.args.part.now (length c.args.message.now) ≡ opening (set_of c.args.p.parameters) c.args.f.now c.args.f2.now (numbers_from c.args.part.now) (length c.args.message.now) = opens_as_its_array (set_of c.args.p.parameters) c.args.f.now c.args.f2.now c.args.part.now (length c.args.message.now) c.if-part-p.false in
    gives_same _ as_array c.open_in.ensures

pub open_in-requires-2-clause-room : goal.open_in-requires-2-clause-room
open_in-requires-2-clause-room c =
    let small = (accepted_parameters (set_of c.args.p.parameters) c.args.p.passes).N_small in
    (omega arith, omega arith)

pub returns : goal.returns
returns c =
    let as_array : opening_entry (set_of c.args.p.parameters) c.args.f.now c.args.f2.now c.args.part.now (length c.args.message.now) ≡ opening (set_of c.args.p.parameters) c.args.f.now c.args.f2.now (numbers_from c.args.part.now) (length c.args.message.now) = opens_as_its_array (set_of c.args.p.parameters) c.args.f.now c.args.f2.now c.args.part.now (length c.args.message.now) c.if-part-p.false in
    gives_same _ as_array c.open_in-2.ensures
