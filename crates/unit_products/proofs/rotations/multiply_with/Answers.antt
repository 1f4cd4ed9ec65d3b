-- `multiply_with` meets its contract.
use mathlib.Core.Path.{◌≡◌, sym, ◌∙◌, ap, subst}
use mathlib.Core.Bool.{true}
use mathlib.Core.List.{◌++◌}
use Prim.Native.Nat.{ℕ, ◌*◌}
use native.Mathlib.Omega.{arith}
use lib.IntN.{nat_abs}
use lib.ListN.{length}
use Rattle.eisenstein.specs.Values.{◌*ω◌}
use Rattle.polynomials.specs.Polynomials.{coefficient}
use Rattle.polynomials.proofs.Arrays.{array_same}
use Rattle.polynomials.proofs.Eisenstein.{sum_same}
use Rattle.polynomials.proofs.Promises.{convolution_single}
use Rattle.unit_operands.specs.Operands.{repeatable}
use Rattle.unit_operands.specs.Repeated.{Twice}
use Rattle.unit_operands.proofs.Operands.{was_formed}
use Rattle.unit_operands.proofs.Repeated.{twice_joined, repeatable_holds}
use Rattle.unit_products.proofs.RotatedSums.{run_is, twice_below}
use Rattle.unit_products.proofs.rotations.multiply_with.Goals as goal

pub add_units-requires : goal.add_units-requires
add_units-requires c =
    let laid_out : Twice c.args.y.now c.lay_out_twice.new.twice = let y = c.args.y.now in
    let a = c.requires.0 in
    let can : repeatable y (length c.args.twice.now) ≡ true = repeatable_holds y (length c.args.twice.now) (omega (arith, a.y_long, a.N_small)) (omega (arith, a.y_long, c.requires.1)) a.y_small in
    subst (Twice y) (sym (was_formed (y ++ y) c.args.twice.now can c.lay_out_twice.ensures).1) (twice_joined y) in
    let a = c.requires.0 in record {
      x_len = (a.x_long, a.units, c.requires.2, c.requires.3);
      zeros = (
        c.clear.ensures.1,
        record {
          N_small = a.N_small;
          long = c.clear.ensures.0 ∙ a.out_long;
          twice_long = laid_out.long ∙ ap (λ (k : ℕ). 2 * k) a.y_long;
          sums_below = λ k. omega (arith, ap nat_abs (c.clear.ensures.1 k));
          twice_below = twice_below laid_out a.y_small;
        },
      );
    }

pub returns : goal.returns
returns c =
    let laid_out : Twice c.args.y.now c.lay_out_twice.new.twice = let y = c.args.y.now in
    let a = c.requires.0 in
    let can : repeatable y (length c.args.twice.now) ≡ true = repeatable_holds y (length c.args.twice.now) (omega (arith, a.y_long, a.N_small)) (omega (arith, a.y_long, c.requires.1)) a.y_small in
    subst (Twice y) (sym (was_formed (y ++ y) c.args.twice.now can c.lay_out_twice.ensures).1) (twice_joined y) in
    let n = c.args.n in
    let x = coefficient c.args.x.now in
    let y = coefficient c.args.y.now in
    c.add_units.ensures
    ∙ array_same n (λ i p.
    sum_same n (λ j q. ap (◌*ω◌ (x j)) (run_is laid_out n j i c.requires.0.y_long q p)) ∙ sym (convolution_single n x y i p))
