-- `reduce_wrapped` meets its contract. The loop's invariant: the coefficients that are stored are right.
use Rattle.eisenstein.specs.Values.{value}
use Rattle.eisenstein.specs.Reduction.{mod_q}
use Rattle.polynomials.specs.Polynomials.{coefficient}
use Rattle.arrays.proofs.Changing.{Changed}
use Rattle.halving.specs.Products.{wrapped}
use Rattle.convolution.proofs.wrapping.reduce_wrapped.Given as goal

abbrev pub invariant-loop-i : goal.invariant-loop-i
invariant-loop-i l = Changed coefficient (λ k. mod_q (value l.c l.d) (wrapped l.n (coefficient l.w) k)) l.initial.out l.out l.i
