-- `read_into` meets its contract. The loop's invariant: the stops that are read are right.
use mathlib.Core.Path.{◌≡◌, sym, ◌∙◌}
use native.Mathlib.Omega.{arith}
use lib.ListN.{length}
use lib.Seq.{ext_get_or}
use Rattle.arrays.proofs.Changing.{set_next}
use Rattle.bundles.specs.Bundles.{stops_of, entries_of}
use Rattle.bundles.proofs.Entries.{stops_count, stop_is}
use Rattle.bundle_stops.proofs.read_into.Goals as goal

pub loop-k-preserved : goal.loop-k-preserved
loop-k-preserved c = set_next 0 c.loop-k.invariant (omega arith) (c.stop_of.ensures.0 ∙ sym (stop_is c.args.file.now c.loop-k.k (omega (arith, c.requires.0))))

pub returns : goal.returns
returns c =
    let stops = stops_of (entries_of c.args.file.now) in
    let long : length c.loop-k.stops ≡ length stops = c.loop-k.invariant.long ∙ c.requires.0 ∙ sym (stops_count c.args.file.now) in
    ext_get_or 0 c.loop-k.stops stops long (λ i h. c.loop-k.invariant.new i (omega arith))
