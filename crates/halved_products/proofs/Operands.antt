-- What convolution's checks leave, where all are passed, and how it is handed on.
use mathlib.Core.Path.{◌≡◌, sym, ap, subst}
use mathlib.Core.Bool.{Bool, cond, ◌&&◌}
use mathlib.Core.List.{List, ◌++◌}
use Prim.Native.Nat.{ℕ, ◌*◌}
use lib.Dec.{leb}
use lib.IntN.{ℤ}
use lib.ListN.{length}
use mir.Facts.{and_yes}
use mir.Syntax.{w32}
use mir.Val.{SFits, to_z, of_z}
use Rattle.integers.proofs.Tests.{are_equal_3}
use Rattle.refusals.specs.Outcomes.{Passes}
use Rattle.refusals.proofs.Checks.{done_all, done_holds}
use Rattle.eisenstein.specs.Values.{ℤ[ω], value}
use Rattle.eisenstein.proofs.Pairs.{pair_read}
use Rattle.parameters.specs.Sets.{ParameterSet, parameter_checks}
use Rattle.parameters.proofs.AcceptedParameters.{accepted_parameters, modulus_nonzero}
use Rattle.polynomials.specs.Polynomials.{coefficient, reduced_q}
use Rattle.arrays.specs.Arrays.{full}
use Rattle.arrays.proofs.Sizes.{reduced_q-small}
use Rattle.convolution_refusals.specs.Checks.{convolving_checks}
use Rattle.halved_products.specs.Conditions.{Convolvable, Convolved}

pub convolving_passed : (p : ParameterSet) (x y out : List ℤ) → Passes (parameter_checks p ++ convolving_checks p.N p.q x y (length out)) → Convolvable p.N p.q x y out
unfolding convolving_checks
convolving_passed p x y out e =
    let k = done_all (parameter_checks p) (convolving_checks p.N p.q x y (length out)) (tt {0}) (tt {0}) e in
    let a = accepted_parameters p k.0 in
    let z = modulus_nonzero p a in
    let k7 = done_holds 7 (full p.N (length x) && (full p.N (length y) && full p.N (length out))) _ _ _ k.1 in
    let k12 = done_holds 12 (reduced_q p.N p.q (coefficient x) && reduced_q p.N p.q (coefficient y)) _ _ _ k7.1 in
    let l = are_equal_3 (length x) (2 * p.N) (length y) (2 * p.N) (length out) (2 * p.N) k7.0 in
    let r = and_yes (reduced_q p.N p.q (coefficient x)) (reduced_q p.N p.q (coefficient y)) k12.0 in
    record {
      N_small = a.N_small;
      modulus = record { in_range = a.q_small; not_zero = z };
      x_long = l.0;
      y_long = l.1;
      out_long = l.2;
      x_small = reduced_q-small p.N p.q x a.q_small z l.0 r.0;
      y_small = reduced_q-small p.N p.q y a.q_small z l.1 r.1;
    }

-- the modulus is handed from one function to another in two numbers of 32 bits
module _ (n : ℕ) (x y out : List ℤ) {c d : ℤ} (f : SFits w32 c) (g : SFits w32 d) where
  pub convolvable_handed : Convolvable n (value c d) x y out → Convolvable n (value (to_z w32 (of_z w32 c)) (to_z w32 (of_z w32 d))) x y out
  convolvable_handed = subst (λ (q : ℤ[ω]). Convolvable n q x y out) (sym (pair_read f g))

  pub convolved_handed : Convolved n (value (to_z w32 (of_z w32 c)) (to_z w32 (of_z w32 d))) x y out → Convolved n (value c d) x y out
  convolved_handed = subst (λ (q : ℤ[ω]). Convolved n q x y out) (pair_read f g)

-- one of two arrays, once it is known whether there are at most 16 coefficients
pub chosen : (n : ℕ) {t : Bool} (a b : List ℤ) → leb n 16 ≡ t → cond t a b ≡ cond (leb n 16) a b
chosen n a b e = ap (λ (t : Bool). cond t a b) (sym e)
