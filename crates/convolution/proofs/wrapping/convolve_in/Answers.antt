-- `convolve_in` meets its contract.
use mathlib.Core.Path.{◌≡◌, ◌∙◌, ap₂}
use Prim.Native.Nat.{ℕ, ◌*◌, ◌<◌}
use native.Mathlib.Omega.{arith}
use Rattle.eisenstein.specs.Reduction.{mod_q}
use Rattle.eisenstein.proofs.Pairs.{pair_read}
use Rattle.polynomials.specs.Polynomials.{coefficient}
use Rattle.polynomials.proofs.Arrays.{array_same}
use Rattle.arrays.proofs.Sizes.{modulus_handed}
use Rattle.halving.specs.Products.{product}
use Rattle.halved_products.proofs.Tested.{fit_holds}
use Rattle.convolution.proofs.Wraps.{wraps, reducible, numbers_small}
use Rattle.convolution.proofs.wrapping.convolve_in.Goals as goal
use Rattle.convolution.proofs.wrapping.convolve_in.Goals.{After-multiply_halved}

-- the product is formed
formed : (m : After-multiply_halved) → (i : ℕ) → i < 2 * m.args.n → coefficient m.multiply_halved.new.w i ≡ product (coefficient m.args.x.now) (coefficient m.args.y.now) i
formed m =
    m.multiply_halved.ensures.2.2 (fit_holds m.args.n m.args.x.now m.args.y.now m.args.w.now m.requires.1 m.requires.0.x_small m.requires.0.y_small)

pub reduce_wrapped-requires : goal.reduce_wrapped-requires
reduce_wrapped-requires c = let n = c.args.n in
    let x = c.args.x.now in
    let y = c.args.y.now in
    let w = c.multiply_halved.new.w in
    let k = c.requires.0 in record { n_bound = (k.N_small, omega (arith, c.multiply_halved.auto.w, c.requires.1), c.multiply_halved.auto.x ∙ k.x_long, modulus_handed c.ranges.c c.ranges.d k.modulus); by_index = numbers_small n x y w k.N_small k.x_long k.y_long k.x_small k.y_small (formed (goal.at.reduce_wrapped-requires c).After-multiply_halved); by_index_2 = reducible n x y w k.N_small k.x_long k.y_long k.x_small k.y_small (formed (goal.at.reduce_wrapped-requires c).After-multiply_halved) }

pub returns : goal.returns
returns c = let k = c.requires.0 in
    c.reduce_wrapped.ensures
    ∙ array_same c.args.n (λ i p. ap₂ mod_q (pair_read c.ranges.c c.ranges.d) (wraps c.args.n c.args.x.now c.args.y.now c.multiply_halved.new.w k.N_small k.x_long k.y_long k.x_small k.y_small (formed (goal.at.returns c).After-multiply_halved) i p))
