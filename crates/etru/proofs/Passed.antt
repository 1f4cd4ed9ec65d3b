-- What the checks of each call leave, where all are passed: an accepted parameter set, lengths, numbers small enough to compute with, and arrays of zeros and units.
use mathlib.Core.Path.{◌≡◌, ◌∙◌, ap}
use mathlib.Core.Bool.{◌&&◌}
use mathlib.Core.List.{List, ◌++◌, append_assoc}
use Prim.Native.Nat.{ℕ, ◌*◌}
use lib.Dec.{T, eqb}
use lib.IntN.{ℤ}
use lib.ListN.{length}
use Rattle.integers.proofs.Tests.{are_equal_4, are_equal_5}
use Rattle.refusals.specs.Outcomes.{Check, outcome, Passes}
use Rattle.refusals.proofs.Checks.{done_holds, done_all}
use Rattle.parameters.specs.Sets.{ParameterSet, parameter_checks}
use Rattle.parameters.proofs.AcceptedParameters.{Accepted, accepted_parameters, modulus_nonzero}
use Rattle.polynomials.specs.Polynomials.{coefficient, units_only, whole_triples, reduced_q, reduced2}
use Rattle.polynomials.proofs.Members.{triples_units}
use Rattle.arrays.specs.Arrays.{full, Small}
use Rattle.arrays.proofs.Sizes.{AllUnits, reduced_q-small, units-all, reduced2-all}
use Rattle.packing.specs.Messages.{message_bytes}
use Rattle.etru.specs.Calls.{key_array_checks, inverse_checks, key_checks, sealing_checks, opening_checks}

-- an array of full length, whose numbers are small
pub record Ready (N : ℕ) (l : List ℤ) : Type 0 where
  pub long : length l ≡ 2 * N
  pub small : Small l

-- an array of full length, of zeros and units
pub record Units (N : ℕ) (l : List ℤ) : Type 0 where
  pub long : length l ≡ 2 * N
  pub units : AllUnits N (coefficient l)

module _ (p : ParameterSet) where
  open p use {N, q, s, t}

  pub remainders : Accepted p → (l : List ℤ) → length l ≡ 2 * N → T (reduced_q N q (coefficient l)) → Ready N l
  remainders a l e r = record { long = e; small = reduced_q-small N q l a.q_small (modulus_nonzero p a) e r }

  pub record Sealing (h φ : List ℤ) (message : List ℕ) (room : ℕ) : Type 0 where
    pub accepted : Accepted p
    pub h_ready : Ready N h
    pub φ_units : Units N φ
    pub room_is : room ≡ 2 * N

  pub sealing_passed : (h φ : List ℤ) (message : List ℕ) (room : ℕ) → Passes (parameter_checks p ++ sealing_checks p h φ message room) → Sealing h φ message room
  unfolding sealing_checks
  sealing_passed h φ message room e =
      let (e6, e7) = done_all (parameter_checks p) _ _ _ e in
      let a = accepted_parameters p e6 in
      let k7 = done_holds 7 (eqb (length message) (message_bytes N) && (full N (length h) && (full N (length φ) && full N room))) _ _ _ e7 in
      let k12 = done_holds 12 (reduced_q N q (coefficient h)) _ _ _ k7.1 in
      let k10 = done_holds 10 (whole_triples N s (coefficient φ)) _ _ _ k12.1 in
      let l = are_equal_4 (length message) (message_bytes N) (length h) (2 * N) (length φ) (2 * N) room (2 * N) k7.0 in
      record {
        accepted = a;
        h_ready = remainders a h l.1 k12.0;
        φ_units = record { long = l.2; units = units-all N s (coefficient φ) (triples_units N s (coefficient φ) k10.0) };
        room_is = l.3;
      }

  pub record Opening (f F2 e : List ℤ) (room : ℕ) : Type 0 where
    pub accepted : Accepted p
    pub f_units : Units N f
    pub F2_units : Units N F2
    pub e_ready : Ready N e
    pub room_is : room ≡ message_bytes N

  pub opening_passed : (f F2 e : List ℤ) (room : ℕ) → Passes (parameter_checks p ++ opening_checks p f F2 e room) → Opening f F2 e room
  unfolding opening_checks
  opening_passed f F2 e room d =
      let (e6, e7) = done_all (parameter_checks p) _ _ _ d in
      let a = accepted_parameters p e6 in
      let k7 = done_holds 7 (eqb room (message_bytes N) && (full N (length f) && (full N (length F2) && full N (length e)))) _ _ _ e7 in
      let k8 = done_holds 8 (units_only N t (coefficient f)) _ _ _ k7.1 in
      let k11 = done_holds 11 (reduced2 N (coefficient F2)) _ _ _ k8.1 in
      let k12 = done_holds 12 (reduced_q N q (coefficient e)) _ _ _ k11.1 in
      let l = are_equal_4 room (message_bytes N) (length f) (2 * N) (length F2) (2 * N) (length e) (2 * N) k7.0 in
      record {
        accepted = a;
        f_units = record { long = l.1; units = units-all N t (coefficient f) k8.0 };
        F2_units = record { long = l.2; units = reduced2-all N (coefficient F2) k11.0 };
        e_ready = remainders a e l.3 k12.0;
        room_is = l.0;
      }

  -- what the key check has asked before the inverses
  pub record InSets (f F2 Fq g : List ℤ) (room : ℕ) : Type 0 where
    pub passes : Passes (parameter_checks p)
    pub f_full : length f ≡ 2 * N
    pub F2_full : length F2 ≡ 2 * N
    pub Fq_full : length Fq ≡ 2 * N
    pub g_full : length g ≡ 2 * N
    pub room_is : room ≡ 2 * N
    pub f_units : T (units_only N t (coefficient f))
    pub F2_reduced : T (reduced2 N (coefficient F2))
    pub Fq_reduced : T (reduced_q N q (coefficient Fq))
    pub g_whole : T (whole_triples N s (coefficient g))

  pub key_arrays_passed : (f F2 Fq g : List ℤ) (room : ℕ) → Passes (parameter_checks p ++ key_array_checks p f F2 Fq g room) → InSets f F2 Fq g room
  key_arrays_passed f F2 Fq g room d =
      let (e6, e7) = done_all (parameter_checks p) _ _ _ d in
      let k7 = done_holds 7 (full N (length f) && (full N (length F2) && (full N (length Fq) && (full N (length g) && full N room)))) _ _ _ e7 in
      let k8 = done_holds 8 (units_only N t (coefficient f)) _ _ _ k7.1 in
      let k11 = done_holds 11 (reduced2 N (coefficient F2)) _ _ _ k8.1 in
      let k12 = done_holds 12 (reduced_q N q (coefficient Fq)) _ _ _ k11.1 in
      let k9 = done_holds 9 (whole_triples N s (coefficient g)) _ _ _ k12.1 in
      let l = are_equal_5 (length f) (2 * N) (length F2) (2 * N) (length Fq) (2 * N) (length g) (2 * N) room (2 * N) k7.0 in
      record {
        passes = e6;
        f_full = l.0;
        F2_full = l.1;
        Fq_full = l.2;
        g_full = l.3;
        room_is = l.4;
        f_units = k8.0;
        F2_reduced = k11.0;
        Fq_reduced = k12.0;
        g_whole = k9.0;
      }

  -- the inverses are asked last
  pub key_checks_apart : (f F2 Fq g : List ℤ) (room : ℕ) → outcome ((parameter_checks p ++ key_array_checks p f F2 Fq g room) ++ inverse_checks p f F2 Fq) (tt {0}) ≡ outcome (parameter_checks p ++ key_checks p f F2 Fq g room) (tt {0})
  unfolding key_checks
  key_checks_apart f F2 Fq g room = ap (λ (cs : List Check). outcome cs (tt {0})) (append_assoc (parameter_checks p) (key_array_checks p f F2 Fq g room) (inverse_checks p f F2 Fq))

  pub record Checking (Fq g : List ℤ) (room : ℕ) : Type 0 where
    pub accepted : Accepted p
    pub Fq_ready : Ready N Fq
    pub g_units : Units N g
    pub room_is : room ≡ 2 * N

  pub key_passed : (f F2 Fq g : List ℤ) (room : ℕ) → Passes (parameter_checks p ++ key_checks p f F2 Fq g room) → Checking Fq g room
  key_passed f F2 Fq g room d =
      let k = key_arrays_passed f F2 Fq g room (done_all (parameter_checks p ++ key_array_checks p f F2 Fq g room) (inverse_checks p f F2 Fq) _ _ (key_checks_apart f F2 Fq g room ∙ d)).0 in
      let a = accepted_parameters p k.passes in
      record {
        accepted = a;
        Fq_ready = remainders a Fq k.Fq_full k.Fq_reduced;
        g_units = record { long = k.g_full; units = units-all N s (coefficient g) (triples_units N s (coefficient g) k.g_whole) };
        room_is = k.room_is;
      }
