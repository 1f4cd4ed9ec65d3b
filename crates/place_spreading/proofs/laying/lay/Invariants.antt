-- `lay` meets its contract. The loop's invariant: the records that it has passed are laid, and no place of theirs occurs twice.
use Rattle.std.specs.Iterator.Adapters.{rev_source}
use Rattle.std.specs.Slice.Iter.{iter_rest}
use Rattle.place_spreading.proofs.Records.{Laid}
use Rattle.place_spreading.proofs.laying.lay.Given as goal

abbrev pub invariant-loop-r : goal.invariant-loop-r
invariant-loop-r l = Laid l.n l.places l.x (iter_rest (rev_source l.r-iterator))
