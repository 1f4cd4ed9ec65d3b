-- `reduce_wrapped` meets its contract. The loop's invariant: the coefficients that are stored are right.
use mathlib.Core.Path.{sym, ◌∙◌, ap, subst}
use native.Mathlib.Omega.{arith}
use mir.Syntax.{w32}
use mir.Val.{to_z, of_z}
use Rattle.eisenstein.specs.Values.{ℤ[ω], value}
use Rattle.eisenstein.specs.Reduction.{mod_q}
use Rattle.eisenstein.proofs.Pairs.{pair_read}
use Rattle.polynomials.specs.Polynomials.{coefficient, array}
use Rattle.arrays.proofs.Changing.{stored_all}
use Rattle.arrays.proofs.Sizes.{modulus_handed}
use Rattle.halving.specs.Products.{wrapped}
use Rattle.halved_products.specs.Conditions.{Reducible}
use Rattle.halved_products.proofs.Storing.{next_remainder}
use Rattle.convolution.proofs.wrapping.reduce_wrapped.Goals as goal

pub loop-i-preserved : goal.loop-i-preserved
loop-i-preserved c = let taken = c.loop-i-test.true in
    let q : ℤ[ω] = value (to_z w32 (of_z w32 c.args.c)) (to_z w32 (of_z w32 c.args.d)) in
    let m = modulus_handed c.ranges.c c.ranges.d c.requires.n_bound.3 in
    let v = c.wrapped_at in
    let r = subst Reducible (sym v.ensures) (c.requires.by_index_2 c.loop-i.i taken) in
    next_remainder c.loop-i.out c.loop-i.i q (value v.result.a v.result.b) m r c.loop-i.invariant c.store_remainder.ensures (omega (arith, taken, c.loop-i.invariant.long, c.requires.n_bound.2)) (ap (mod_q q) v.ensures)

pub returns : goal.returns
returns c = stored_all c.args.n c.loop-i.invariant c.requires.n_bound.2 (omega arith)
    ∙ ap (λ (q : ℤ[ω]). array c.args.n (λ i. mod_q q (wrapped c.args.n (coefficient c.args.w.now) i))) (pair_read c.ranges.c c.ranges.d)
