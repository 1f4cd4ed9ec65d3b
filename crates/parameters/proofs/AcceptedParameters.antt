-- What a parameter set that passes its checks gives.
use mathlib.Core.Path.{◌≡◌, ap}
use mathlib.Core.Bool.{false, not, ◌&&◌, ◌||◌}
use mathlib.Core.Logic.{◌≢◌}
use Prim.Native.Nat.{◌%◌, ◌≤◌, ◌<◌}
use native.Mathlib.Omega.{arith}
use lib.Dec.{ltb, eqb}
use mir.Facts.{ltb_yes}
use Rattle.integers.proofs.Tests.{neither_first}
use Rattle.refusals.specs.Outcomes.{Passes}
use Rattle.refusals.proofs.Checks.{done_passed, done_holds}
use Rattle.eisenstein.specs.Values.{𝟘, norm}
use Rattle.eisenstein.specs.Calls.{beyond}
use Rattle.parameters.specs.Sets.{ParameterSet, outside, even, bound, parameter_checks}
use Rattle.parameters.proofs.Ranges.{in_range_lem, from_low}

pub record Accepted (p : ParameterSet) : Type 0 where
  pub checks : Passes (parameter_checks p)
  pub N_large : 3 ≤ p.N
  pub N_small : p.N ≤ 1024
  pub q_small : beyond 4095 p.q ≡ false
  pub s_large : 3 ≤ p.s
  pub s_small : p.s ≤ p.N
  pub t_large : 1 ≤ p.t
  pub t_small : p.t ≤ p.N
  pub below : bound p < norm p.q

pub accepted_parameters : (p : ParameterSet) → Passes (parameter_checks p) → Accepted p
unfolding parameter_checks
accepted_parameters p e =
    let c1 = done_passed 1 (outside 3 1024 p.N) _ _ _ e in
    let c2 = done_passed 2 (beyond 4095 p.q) _ _ _ c1.1 in
    let c3 = done_passed 3 (even p.q.a && even p.q.b) _ _ _ c2.1 in
    let c4 = done_passed 4 (outside 3 p.N p.s || not (eqb (p.s % 3) 0)) _ _ _ c3.1 in
    let c5 = done_passed 5 (outside 1 p.N p.t) _ _ _ c4.1 in
    let c6 = done_holds 6 (ltb (bound p) (norm p.q)) _ _ _ c5.1 in
    let s-in = neither_first (outside 3 p.N p.s) _ c4.0 in
    record {
      checks = e;
      N_large = from_low 3 1024 p.N c1.0;
      N_small = in_range_lem 3 1024 p.N c1.0;
      q_small = c2.0;
      s_large = from_low 3 p.N p.s s-in;
      s_small = in_range_lem 3 p.N p.s s-in;
      t_large = from_low 1 p.N p.t c5.0;
      t_small = in_range_lem 1 p.N p.t c5.0;
      below = ltb_yes c6.0;
    }

pub modulus_nonzero : (p : ParameterSet) → Accepted p → p.q ≢ 𝟘
unfolding norm
modulus_nonzero p h e = omega (arith, ap norm e, h.below)
