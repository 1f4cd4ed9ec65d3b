-- `read_places` meets its contract. The loop's invariant: the records that are read are those of the numbers.
use mathlib.Core.Path.{◌≡◌, sym, ◌∙◌, ap₂}
use Prim.Native.Nat.{ℕ}
use native.Mathlib.Omega.{arith}
use lib.ListN.{length}
use lib.Seq.{ext_get_or}
use Rattle.arrays.proofs.Changing.{set_next}
use Rattle.placed_units.specs.Layout.{record_at, records_from}
use Rattle.placed_units.proofs.Layouts.{records_length}
use Rattle.place_spreading.proofs.Reading.{no_record, read_from}
use Rattle.place_spreading.proofs.numbers.read_places.Goals as goal

pub loop-k-preserved : goal.loop-k-preserved
unfolding record_at
loop-k-preserved c =
    set_next no_record c.loop-k.invariant (omega (arith, c.loop-k-test.true, c.loop-k.invariant.long))
    (ap₂ (λ (p u : ℕ). record { place = p; unit = u }) c.number_at.ensures c.number_at-in-loop-k.ensures)

pub returns : goal.returns
returns c =
    let listed = records_from c.args.numbers.now 0 (length c.args.places.now) in
    let long : length c.loop-k.places ≡ length listed = c.loop-k.invariant.long ∙ sym (records_length c.args.numbers.now 0 (length c.args.places.now)) in
    ext_get_or no_record c.loop-k.places listed long (λ i h. c.loop-k.invariant.new i (omega arith) ∙ sym (read_from c.args.numbers.now 0 (length c.args.places.now) i i (omega arith) (omega arith)))
