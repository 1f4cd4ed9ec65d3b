-- `read_places` meets its contract. The loop's invariant: the records that are read are those of the numbers.
use lib.ListN.{get_or}
use Rattle.arrays.proofs.Changing.{Changed}
use Rattle.placed_units.specs.Layout.{record_at}
use Rattle.place_spreading.proofs.Reading.{no_record}
use Rattle.place_spreading.proofs.numbers.read_places.Given as goal

abbrev pub invariant-loop-k : goal.invariant-loop-k
invariant-loop-k l = Changed (λ m i. get_or m i no_record) (record_at l.numbers) l.initial.places l.places l.k
