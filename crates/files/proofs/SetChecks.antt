-- The checks of a file's arrays, array by array.
use mathlib.Core.Path.{◌≡◌, refl, sym, ◌∙◌, ap, ap₂}
use mathlib.Core.List.{List, [], ◌∷◌}
use Prim.Native.Nat.{ℕ, ◌+◌, ◌*◌, ◌<◌}
use native.Mathlib.Nat.{mul-zero, mul-suc}
use native.Mathlib.Numerals.{add-one}
use lib.IntN.{ℤ}
use lib.ListN.{length, get_or, take, drop}
use lib.Seq.{drop-cons, drop-drop, drop-length}
use Rattle.refusals.specs.Outcomes.{Check, refused, outcome, Passes}
use Rattle.refusals.proofs.Checks.{passed_all, refused_first, none_left}
use Rattle.parameters.specs.Sets.{ParameterSet}
use Rattle.array_sets.specs.declared.ArraySet.{ArraySet}
use Rattle.array_sets.specs.declared.ArraySet.TheVariants.{ReducedModuloQ}
use Rattle.array_sets.proofs.ArrayChecks.{own}
use Rattle.files.specs.Files.{array_at}
use Rattle.files.specs.Calls.{set_checks}

-- the first array is judged before the others
pub first_judged : (p : ParameterSet) (a : ArraySet) (sets : List ArraySet) (l : List ℤ) → set_checks p (a ∷ sets) l ≡ own p a (take (2 * p.N) l) ∷ set_checks p sets (drop (2 * p.N) l)
unfolding set_checks
first_judged p a sets l = refl

module _ (p : ParameterSet) (arrays : List ArraySet) (l : List ℤ) where
  -- the set of array k, and the checks from array k on
  abbrev pub set_at : ℕ → ArraySet
  set_at k = get_or arrays k ReducedModuloQ

  abbrev pub from_array : ℕ → List Check
  from_array k = set_checks p (drop k arrays) (drop (2 * p.N * k) l)

  pub first-array : set_checks p arrays l ≡ from_array 0
  first-array = ap (λ (i : ℕ). set_checks p arrays (drop i l)) (sym (mul-zero (2 * p.N)))

  pub next-array : (k : ℕ) → k < length arrays → from_array k ≡ own p (set_at k) (array_at p k l) ∷ from_array (k + 1)
  unfolding set_checks array_at
  next-array k h =
      ap (λ (r : List ArraySet). set_checks p r (drop (2 * p.N * k) l)) (drop-cons arrays k ReducedModuloQ h)
      ∙ ap₂ (λ (r : List ArraySet) (x : List ℤ). own p (set_at k) (array_at p k l) ∷ set_checks p r x) (ap (λ (i : ℕ). drop i arrays) (sym (add-one k))) (drop-drop (2 * p.N) (2 * p.N * k) l ∙ ap (λ (i : ℕ). drop i l) (sym (mul-suc (2 * p.N) k) ∙ ap (λ (i : ℕ). 2 * p.N * i) (sym (add-one k))))

  pub array_passed : (k : ℕ) → k < length arrays → Passes (own p (set_at k) (array_at p k l) ∷ []) → outcome (from_array k) (tt {0}) ≡ outcome (from_array (k + 1)) (tt {0})
  array_passed k h e = ap (λ (cs : List Check). outcome cs (tt {0})) (next-array k h) ∙ passed_all (own p (set_at k) (array_at p k l) ∷ []) (from_array (k + 1)) tt e

  pub array_refused : (k n : ℕ) → k < length arrays → outcome (own p (set_at k) (array_at p k l) ∷ []) (tt {0}) ≡ refused n → outcome (from_array k) (tt {0}) ≡ refused n
  array_refused k n h e = ap (λ (cs : List Check). outcome cs (tt {0})) (next-array k h) ∙ refused_first (own p (set_at k) (array_at p k l) ∷ []) (from_array (k + 1)) tt n e

  pub all_arrays_passed : (k : ℕ) → k ≡ length arrays → Passes (from_array k)
  unfolding set_checks
  all_arrays_passed k e =
      ap (λ (r : List ArraySet). outcome (set_checks p r (drop (2 * p.N * k) l)) (tt {0})) (ap (λ (i : ℕ). drop i arrays) e ∙ drop-length arrays) ∙ none_left tt
