-- The key of a private file that is read: its arrays are in their sets, so the key check refuses by 13 and 14 alone, and opening refuses nothing.
use Rattle.std.specs.Prelude.{Result}
use Rattle.refusals.specs.declared.Refusal.{Refusal}
use mathlib.Core.Path.{◌≡◌, refl, sym, ◌∙◌, ap, ap₂, subst}
use mathlib.Core.Bool.{Bool, true, false, not, ◌&&◌}
use mathlib.Core.List.{List, [], ◌∷◌}
use Prim.Native.Nat.{ℕ, ◌+◌, ◌*◌, ◌≤◌}
use native.Mathlib.Omega.{arith}
use lib.Dec.{T, eqb, eqb→eq, lit<}
use lib.IntN.{ℤ}
use lib.ListN.{length, drop, length-drop}
use lib.Seq.{length-take-le}
use mir.Facts.{and_yes, yes_and, yes_eqb}
use Rattle.integers.proofs.Tests.{equal_4}
use Rattle.refusals.specs.Outcomes.{Check, Outcome, done, outcome, first, number, ◌if◌}
use Rattle.refusals.specs.Numbers.{answered}
use Rattle.refusals.proofs.Checks.{positive, same_number, passed_all, holds_passed, fails_refused, none_left, done_holds, first_of, first_done}
use Rattle.refusals.proofs.Numbers.{answer_by_number}
use Rattle.eisenstein.specs.Values.{ℤ[ω], same}
use Rattle.eisenstein.proofs.Equality.{same_yes}
use Rattle.parameters.specs.Sets.{ParameterSet, parameter_checks}
use Rattle.parameter_comparison.specs.Comparison.{same_set}
use Rattle.polynomials.specs.Polynomials.{coefficient, array, units_only, reduced2, reduced_q}
use Rattle.packing.specs.Messages.{message_bytes}
use Rattle.arrays.specs.Arrays.{full}
use Rattle.array_sets.specs.declared.ArraySet.TheVariants.{F, G, ReducedModulo2, ReducedModuloQ}
use Rattle.etru.specs.Scheme.{public_key}
use Rattle.etru.specs.Calls.{key_checks, key_check, opening_checks, opening}
use Rattle.heads.specs.Kinds.{arrays_of}
use Rattle.files.specs.Files.{file_numbers, array_at}
use Rattle.files.specs.Calls.{set_checks}
use Rattle.array_sets.proofs.ArrayChecks.{own}
use Rattle.files.proofs.SetChecks.{first-array, next-array}
use Rattle.stored_keys.specs.Keys.{stored_key_check}
use Rattle.opened_files.specs.Pairs.{inverse_checks, pair_checks, message_of}
use Rattle.opened_files.specs.Steps.{KeyRead}
use Rattle.opened_arrays.specs.Openings.{opening_arrays, opening_with}

-- two sets that are the same have the same ring
same_ring : (p p' : ParameterSet) → T (same_set p p') → (p.N ≡ p'.N) × (p.q ≡ p'.q)
unfolding same_set
same_ring p p' t =
    let n = and_yes (eqb p.N p'.N) _ t in
    let q = and_yes (same p.q p'.q) _ n.1 in
    (eqb→eq p.N p'.N n.0, same_yes p.q p'.q q.0)

inverses_positive : (p : ParameterSet) (l : List ℤ) → T (positive (inverse_checks p l))
unfolding inverse_checks
inverses_positive p l = tt

module _ (p : ParameterSet) (numbers : List ℤ) (key : KeyRead p numbers) where
  four_long : length numbers ≡ 2 * p.N * 4
  unfolding file_numbers arrays_of
  four_long = key.long

  abbrev f : List ℤ
  f = array_at p 0 numbers

  abbrev F2 : List ℤ
  F2 = array_at p 1 numbers

  abbrev Fq : List ℤ
  Fq = array_at p 2 numbers

  abbrev g : List ℤ
  g = array_at p 3 numbers

  array_long : (k : ℕ) → 2 * p.N * k + 2 * p.N ≤ 2 * p.N * 4 → length (array_at p k numbers) ≡ 2 * p.N
  unfolding array_at
  array_long k h = length-take-le (2 * p.N) (drop (2 * p.N * k) numbers) (omega (arith, four_long, length-drop (2 * p.N * k) numbers))

  -- the checks of the four arrays
  abbrev four : List Check
  four = own p F f ∷ own p ReducedModulo2 F2 ∷ own p ReducedModuloQ Fq ∷ own p G g ∷ []

  four_are : set_checks p (arrays_of 2) numbers ≡ four
  unfolding set_checks arrays_of
  four_are =
      let next = next-array p (arrays_of 2) numbers in
      cc (first-array p (arrays_of 2) numbers, next 0 (lit< tt), next 1 (lit< tt), next 2 (lit< tt), next 3 (lit< tt))

  four_passed : outcome four (tt {0}) ≡ done (tt {0})
  four_passed = ap (λ (cs : List Check). outcome cs (tt {0})) (sym four_are) ∙ key.sets

  key_checked : (room : ℕ) → room ≡ 2 * p.N → key_check p f F2 Fq g room ≡ outcome (inverse_checks p numbers) (array p.N (public_key p (coefficient Fq) (coefficient g)))
  unfolding key_check key_checks inverse_checks
  key_checked room e =
      let h = array p.N (public_key p (coefficient Fq) (coefficient g)) in
      passed_all (parameter_checks p) (key_checks p f F2 Fq g room) h key.accepted
      ∙ holds_passed 7 (full p.N (length f) && (full p.N (length F2) && (full p.N (length Fq) && (full p.N (length g) && full p.N room)))) _ h
      (yes_and (full p.N (length f)) _ (yes_eqb (array_long 0 (omega arith))) (equal_4 (array_long 1 (omega arith)) (array_long 2 (omega arith)) (array_long 3 (omega arith)) e))
      ∙ passed_all four (inverse_checks p numbers) h four_passed

  -- what the key check of the numbers answered
  pub key_answered : (a : Result (Unit {0}) Refusal) → number (answered a) ≡ number (stored_key_check p numbers) → answered a ≡ outcome (inverse_checks p numbers) (tt {0})
  unfolding stored_key_check
  key_answered a e =
      let cs = inverse_checks p numbers in
      answer_by_number a cs (inverses_positive p numbers) (e ∙ ap number (key_checked (2 * p.N) refl) ∙ same_number cs (array p.N (public_key p (coefficient Fq) (coefficient g))) (tt {0}))

  pub opens : (e : List ℤ) → length e ≡ 2 * p.N → T (reduced_q p.N p.q (coefficient e)) → opening p f F2 e (message_bytes p.N) ≡ done (message_of p numbers e)
  unfolding opening opening_checks message_of
  opens e n r =
      let m = message_of p numbers e in
      let k8 = done_holds 8 (units_only p.N p.t (coefficient f)) _ _ _ four_passed in
      let k11 = done_holds 11 (reduced2 p.N (coefficient F2)) _ _ _ k8.1 in
      passed_all (parameter_checks p) (opening_checks p f F2 e (message_bytes p.N)) m key.accepted
      ∙ holds_passed 7 (eqb (message_bytes p.N) (message_bytes p.N) && (full p.N (length f) && (full p.N (length F2) && full p.N (length e)))) _ m (equal_4 {a = message_bytes p.N} refl (array_long 0 (omega arith)) (array_long 1 (omega arith)) n)
      ∙ holds_passed 8 (units_only p.N p.t (coefficient f)) _ m k8.0
      ∙ holds_passed 11 (reduced2 p.N (coefficient F2)) _ m k11.0
      ∙ holds_passed 12 (reduced_q p.N p.q (coefficient e)) [] m r
      ∙ none_left m

  -- the pair with a sealed file, after the key check: l holds f, F2 and e
  pub pair_is : (p' : ParameterSet) (o : Outcome (Unit {0})) (l e : List ℤ) → o ≡ outcome (inverse_checks p numbers) (tt {0}) → array_at p 0 l ≡ f → array_at p 1 l ≡ F2 → (p.N ≡ p'.N → array_at p 2 l ≡ e) → length e ≡ 2 * p'.N → T (reduced_q p'.N p'.q (coefficient e)) → opening_with p p' o l ≡ outcome (pair_checks p numbers p') (message_of p numbers e)
  unfolding pair_checks
  pair_is p' o l e k f_is F2_is e_is n r = go (same_set p p') refl
    where
      go : (t : Bool) → same_set p p' ≡ t → opening_with p p' o l ≡ outcome (20 if not (same_set p p') ∷ inverse_checks p numbers) (message_of p numbers e)
      go true s =
          let w = same_ring p p' (subst T (sym s) tt) in
          let n' : length e ≡ 2 * p.N = omega (arith, w.0, n) in
          let r' = subst T (ap₂ (λ (N : ℕ) (q : ℤ[ω]). reduced_q N q (coefficient e)) (sym w.0) (sym w.1)) r in
          let o' : opening_arrays p l ≡ done (message_of p numbers e) = (λ i. opening p (f_is i) (F2_is i) (e_is w.0 i) (message_bytes p.N)) ∙ opens e n' r' in
          ap (first (outcome (20 if not (same_set p p') ∷ []) (tt {0}))) (ap₂ first k o' ∙ first_done (inverse_checks p numbers) (message_of p numbers e))
          ∙ first_of (20 if not (same_set p p') ∷ []) (inverse_checks p numbers) (message_of p numbers e)
      go false s =
          ap (λ (x : Outcome (Unit {0})). first x (first o (opening_arrays p l))) (fails_refused 20 (same_set p p') [] (tt {0}) s)
          ∙ sym (fails_refused 20 (same_set p p') (inverse_checks p numbers) (message_of p numbers e) s)
