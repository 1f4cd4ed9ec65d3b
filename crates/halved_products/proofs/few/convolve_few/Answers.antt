-- `convolve_few` meets its contract. The loop's invariant: the coefficients that are stored are right.
use mathlib.Core.Path.{sym, ◌∙◌, ap, subst}
use native.Mathlib.Omega.{arith}
use borrow.Author.Tests.{le-leb}
use mir.Syntax.{w32}
use mir.Val.{to_z, of_z}
use Rattle.eisenstein.specs.Values.{ℤ[ω], value}
use Rattle.eisenstein.specs.Reduction.{mod_q}
use Rattle.eisenstein.proofs.Pairs.{pair_read}
use Rattle.polynomials.specs.Polynomials.{coefficient, array, convolution}
use Rattle.arrays.proofs.Changing.{stored_all}
use Rattle.arrays.proofs.Sizes.{modulus_handed}
use Rattle.halved_products.specs.Conditions.{Reducible}
use Rattle.halved_products.proofs.Bounds.{convolution_reducible}
use Rattle.halved_products.proofs.Operands.{chosen}
use Rattle.halved_products.proofs.Storing.{next_remainder}
use Rattle.halved_products.proofs.few.convolve_few.Goals as goal

pub loop-k-preserved : goal.loop-k-preserved
loop-k-preserved c =
    let k = c.requires in
    let q : ℤ[ω] = value (to_z w32 (of_z w32 c.args.c)) (to_z w32 (of_z w32 c.args.d)) in
    let m = modulus_handed c.ranges.c c.ranges.d k.modulus in
    let v = c.few_wrapped_at in
    let r = subst Reducible (sym v.ensures) (convolution_reducible c.args.n c.args.x.now c.args.y.now k.N_small k.x_small k.y_small c.loop-k.k (omega arith)) in
    next_remainder c.loop-k.out c.loop-k.k q (value v.result.a v.result.b) m r c.loop-k.invariant c.store_remainder.ensures (omega (arith, c.loop-k.invariant.long)) (ap (mod_q q) v.ensures)

pub returns : goal.returns
returns c =
    let few = le-leb c.args.n 16 c.if-n-gt16.false in (
      sym few,
      stored_all c.args.n c.loop-k.invariant c.requires.out_long (omega arith)
          ∙ ap (λ (q : ℤ[ω]). array c.args.n (λ i. mod_q q (convolution c.args.n (coefficient c.args.x.now) (coefficient c.args.y.now) i))) (pair_read c.ranges.c c.ranges.d)
          ∙ chosen c.args.n _ c.args.out.now few,
    )
