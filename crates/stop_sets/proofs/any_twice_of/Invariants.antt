-- `any_twice_of` meets its contract. The loop's invariant: the stops from stop k on are in the set, and none of them occurs twice.
use Rattle.stop_sets.proofs.Twice.{Seen}
use Rattle.stop_sets.proofs.any_twice_of.Given as goal

abbrev pub invariant-loop-k : goal.invariant-loop-k
invariant-loop-k g l = Seen l.words (g.S.StopList.stops l.stops) l.k
