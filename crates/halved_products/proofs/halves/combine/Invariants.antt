-- `combine` meets its contract. The loop's invariant: the elements so far are combined.
use Rattle.halved_products.specs.Steps.{Combined}
use Rattle.halved_products.proofs.halves.combine.Given as goal

abbrev pub invariant-loop-k : goal.invariant-loop-k
invariant-loop-k g l = Combined (goal.F-post g l.op) l.to l.from l.initial.x l.x l.k
