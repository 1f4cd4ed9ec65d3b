-- `lay_row` meets its contract. The loop's invariant: the row is laid out as far as it was walked.
use lib.ListN.{get_or}
use Rattle.classes.specs.Classes.{product}
use Rattle.class_products.specs.Steps.{Laid}
use Rattle.class_products.proofs.rows.lay_row.Given as goal

abbrev pub invariant-loop-k : goal.invariant-loop-k
invariant-loop-k l = Laid l.k (λ i. product l.c (get_or l.classes i 0)) l.start l.initial.rows l.rows
