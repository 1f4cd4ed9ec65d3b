-- `convolve_few` meets its contract. The loop's invariant: the coefficients that are stored are right.
use Rattle.eisenstein.specs.Values.{value}
use Rattle.eisenstein.specs.Reduction.{mod_q}
use Rattle.polynomials.specs.Polynomials.{coefficient, convolution}
use Rattle.arrays.proofs.Changing.{Changed}
use Rattle.halved_products.proofs.few.convolve_few.Given as goal

abbrev pub invariant-loop-k : goal.invariant-loop-k
invariant-loop-k l = Changed coefficient (λ i. mod_q (value l.c l.d) (convolution l.n (coefficient l.x) (coefficient l.y) i)) l.initial.out l.out l.k
