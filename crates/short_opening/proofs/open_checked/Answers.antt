-- `open_checked` meets its contract.
use mathlib.Core.Path.{sym, refl}
use lib.ListN.{replicate}
use Rattle.parameters.specs.Sets.{set_of}
use Rattle.parameters.proofs.AcceptedParameters.{accepted_parameters}
use Rattle.short_messages.proofs.Rooms.{Lent, lent_room}
use Rattle.short_opening.proofs.open_checked.Goals as goal

pub slice_bounds-bits-end : goal.slice_bounds-bits-end
slice_bounds-bits-end c =
    let lent : Lent c.args.p.parameters.n c.message_bytes-k.result (replicate 256 0) = lent_room (accepted_parameters (set_of c.args.p.parameters) c.args.p.passes).N_small c.message_bytes-k.ensures refl in
    lent.enough

pub slice_bounds-open_bits-end : goal.slice_bounds-open_bits-end
slice_bounds-open_bits-end c =
    let lent : Lent c.args.p.parameters.n c.message_bytes-k.result (replicate 256 0) = lent_room (accepted_parameters (set_of c.args.p.parameters) c.args.p.passes).N_small c.message_bytes-k.ensures refl in
    sym lent.long

pub open_bits-requires : goal.open_bits-requires
open_bits-requires c =
    let lent : Lent c.args.p.parameters.n c.message_bytes-k.result (replicate 256 0) = lent_room (accepted_parameters (set_of c.args.p.parameters) c.args.p.passes).N_small c.message_bytes-k.ensures refl in
    (lent.for_message, c.requires)
