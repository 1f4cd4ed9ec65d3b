-- `multiply_few` meets its contract.
use Rattle.polynomials.specs.Polynomials.{coefficient}
use Rattle.halving.specs.Products.{product}
use Rattle.arrays.proofs.Changing.{Changed}
use Rattle.halved_products.proofs.halves.multiply_few.Given as goal

abbrev pub invariant-loop-i : goal.invariant-loop-i
invariant-loop-i l = Changed coefficient (product (coefficient l.x) (coefficient l.y)) l.initial.w l.w l.i
