-- `turn` meets its contract. The loop's invariant: the coefficients so far are multiplied, the others as they came.
use Rattle.eisenstein.specs.Values.{◌*ω◌}
use Rattle.polynomials.specs.Polynomials.{coefficient}
use Rattle.arrays.proofs.Changing.{Changed}
use Rattle.unit_products.specs.Rotations.{ζ}
use Rattle.unit_products.proofs.rotations.turn.Given as goal

abbrev pub invariant-loop-i : goal.invariant-loop-i
invariant-loop-i l = Changed coefficient (λ k. ζ *ω coefficient l.initial.x k) l.initial.x l.x l.i
