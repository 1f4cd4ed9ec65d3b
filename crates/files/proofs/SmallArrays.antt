-- Arrays that are in their sets, under parameters that are accepted, have small numbers.
use mathlib.Core.Path.{◌≡◌, ◌∙◌}
use mathlib.Core.List.{List, [], ◌∷◌}
use Prim.Native.Nat.{ℕ, ◌+◌, ◌-◌, ◌*◌, ◌≤◌, ◌<◌}
use native.Mathlib.Omega.{arith}
use native.Mathlib.Decide.{dec_lt}
use lib.Dec.{T, lit≤}
use lib.IntN.{ℤ, pos, nat_abs}
use lib.ListN.{length, get_or, take, drop, length-take, length-drop}
use lib.Seq.{get_or-take, get_or-drop}
use Rattle.refusals.specs.Outcomes.{Passes}
use Rattle.refusals.proofs.Checks.{done_holds}
use Rattle.parameters.specs.Sets.{ParameterSet, parameter_checks}
use Rattle.parameters.proofs.AcceptedParameters.{Accepted, accepted_parameters, modulus_nonzero}
use Rattle.polynomials.specs.Polynomials.{coefficient}
use Rattle.polynomials.proofs.Members.{triples_units}
use Rattle.arrays.specs.Arrays.{Small}
use Rattle.array_sets.specs.Sets.{in_set, not_in_set}
use Rattle.array_sets.specs.declared.ArraySet.{ArraySet}
use Rattle.array_sets.specs.declared.ArraySet.TheVariants.{F, G, Phi, ReducedModulo2, ReducedModuloQ}
use Rattle.arrays.proofs.Sizes.{units_small, reduced2-small, reduced_q-small}
use Rattle.heads.specs.Kinds.{arrays_of}
use Rattle.files.specs.Files.{file_numbers}
use Rattle.files.specs.Calls.{set_checks}
use Rattle.files.proofs.SetChecks.{first_judged}

set-small : (p : ParameterSet) → Accepted p → (a : ArraySet) (x : List ℤ) → length x ≡ 2 * p.N → T (in_set p a x) → Small x
set-small p ok F x e t = units_small p.N p.t x e t
set-small p ok G x e t = units_small p.N p.s x e (triples_units p.N p.s (coefficient x) t)
set-small p ok Phi x e t = units_small p.N p.s x e (triples_units p.N p.s (coefficient x) t)
set-small p ok ReducedModulo2 x e t = reduced2-small p.N x e t
set-small p ok ReducedModuloQ x e t = reduced_q-small p.N p.q x ok.q_small (modulus_nonzero p ok) e t

small-joined : (n : ℕ) (l : List ℤ) → Small (take n l) → Small (drop n l) → Small l
small-joined n l h r k = go (dec_lt k n)
  where
    go : Dec (k < n) → nat_abs (get_or l k (pos 0)) ≤ 5461
    go (yes p) = rw get_or-take at (h k)
    go (no p) =
        let e : n + (k - n) ≡ k = omega arith in
        rw (get_or-drop, e) at (r (k - n))

arrays_small : (p : ParameterSet) → Accepted p → (sets : List ArraySet) (l : List ℤ) → length l ≡ 2 * p.N * length sets → Passes (set_checks p sets l) → Small l
arrays_small p ok [] [] e c = λ k. lit≤ tt
arrays_small p ok [] (z ∷ l) e c = absurd (omega arith)
arrays_small p ok (a ∷ sets) l e c =
    let q = done_holds (not_in_set a) (in_set p a (take (2 * p.N) l)) _ _ _ (rw (first_judged p a sets l) at c) in
    small-joined (2 * p.N) l
    (set-small p ok a (take (2 * p.N) l) (length-take (2 * p.N) l ∙ omega arith) q.0)
    (arrays_small p ok sets (drop (2 * p.N) l) (length-drop (2 * p.N) l ∙ omega arith) q.1)

pub contents_small : (kind : ℕ) (p : ParameterSet) (l : List ℤ) → Passes (parameter_checks p) → length l ≡ file_numbers kind p.N → Passes (set_checks p (arrays_of kind) l) → Small l
unfolding file_numbers
contents_small kind p l e n c = arrays_small p (accepted_parameters p e) (arrays_of kind) l n c
