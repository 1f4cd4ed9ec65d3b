-- Accepted parameters: each fits into its place of a head.
use Prim.Native.Nat.{◌<◌}
use native.Mathlib.Omega.{arith}
use native.Mathlib.Nat.{le_trans}
use lib.Dec.{lit≤}
use Rattle.refusals.specs.Outcomes.{Passes}
use Rattle.eisenstein.proofs.Limits.{within}
use Rattle.parameters.specs.Sets.{ParameterSet, parameter_checks}
use Rattle.parameters.proofs.AcceptedParameters.{accepted_parameters}
use Rattle.heads.proofs.Numbers.{Fits16, fits_small}

pub record PartsFit (p : ParameterSet) : Type 0 where
  pub N_fits : p.N < 65536
  pub c_fits : Fits16 p.q.a
  pub d_fits : Fits16 p.q.b
  pub s_fits : p.s < 65536
  pub t_fits : p.t < 65536

pub parts_fit : (p : ParameterSet) → Passes (parameter_checks p) → PartsFit p
parts_fit p e =
    let k = accepted_parameters p e in
    let q = within 4095 p.q k.q_small in
    record {
      N_fits = omega arith;
      c_fits = fits_small p.q.a (le_trans q.0 (lit≤ tt));
      d_fits = fits_small p.q.b (le_trans q.1 (lit≤ tt));
      s_fits = omega arith;
      t_fits = omega arith;
    }
