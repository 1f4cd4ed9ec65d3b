-- `classes_of` meets its contract. The loop's invariant: the classes so far are written.
use lib.ListN.{get_or}
use Rattle.polynomials.specs.Polynomials.{coefficient}
use Rattle.arrays.proofs.Changing.{Changed}
use Rattle.classes.specs.Classes.{class_of}
use Rattle.class_products.proofs.rows.classes_of.Given as goal

abbrev pub invariant-loop-k : goal.invariant-loop-k
invariant-loop-k l = Changed (λ m i. get_or m i 0) (λ i. class_of (coefficient l.y i)) l.initial.classes l.classes l.k
