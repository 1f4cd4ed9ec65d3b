-- The arrays of a file of accepted parameters, judged one after another: what the check of array k passes or refuses.
use mathlib.Core.Path.{◌≡◌, sym, ◌∙◌}
use mathlib.Core.List.{List, [], ◌∷◌}
use Prim.Native.Nat.{ℕ, ◌+◌, ◌*◌, ◌<◌, ◌≤◌}
use native.Mathlib.Omega.{arith}
use lib.IntN.{ℤ}
use lib.ListN.{length, get_or, take, drop, length-drop}
use lib.Seq.{length-take-le}
use Rattle.std.proofs.lemmas.List.{get_or_default}
use Rattle.refusals.specs.Outcomes.{done, refused, outcome, Passes}
use Rattle.parameters.specs.Sets.{ParameterSet, parameter_checks}
use Rattle.array_sets.specs.Sets.{array_check}
use Rattle.array_sets.specs.declared.ArraySet.{ArraySet}
use Rattle.array_sets.specs.declared.ArraySet.TheVariants.{ReducedModuloQ}
use Rattle.array_sets.proofs.ArrayChecks.{own, own_check}
use Rattle.heads.specs.Kinds.{arrays_of}
use Rattle.files.specs.Files.{file_numbers, array_at}
use Rattle.files.specs.Calls.{set_checks}
use Rattle.files.proofs.Bounds.{end_of_array}
use Rattle.files.proofs.SetChecks.{first-array, set_at, from_array, array_passed, array_refused, all_arrays_passed}

-- the sets are those of a kind, and the numbers are its arrays
module _ (kind : ℕ) (p : ParameterSet) (l : List ℤ) (sets : List ArraySet) (sets_are : sets ≡ arrays_of kind) (long : length l ≡ file_numbers kind p.N) where
  -- the arrays before the k-th are passed
  abbrev pub JudgedTo : ℕ → Type 0
  JudgedTo k = outcome (set_checks p sets l) (tt {0}) ≡ outcome (from_array p sets l k) (tt {0})

  pub none_judged : JudgedTo 0
  none_judged = rw (first-array p sets l)

  pub all_judged : (k : ℕ) → k ≡ length sets → JudgedTo k → Passes (set_checks p (arrays_of kind) l)
  all_judged k e h = rw (← sets_are) (h ∙ all_arrays_passed p sets l k e)

  module _ (k : ℕ) (within : k < length sets) where
    pub array_ends : 2 * p.N * k + 2 * p.N ≤ length l
    array_ends = omega (arith, end_of_array kind p.N k (rw sets_are at within))

    module _ (accepted : Passes (parameter_checks p)) (other : ArraySet) (judged : JudgedTo k) where
      checked : outcome (own p (set_at p sets l k) (array_at p k l) ∷ []) (tt {0}) ≡ array_check p (get_or sets k other) (array_at p k l)
      unfolding array_at
      checked =
          let w = 2 * p.N in
          let whole : length (take w (drop (w * k) l)) ≡ w = length-take-le w (drop (w * k) l) (omega (arith, length-drop (w * k) l, array_ends)) in
          rw (get_or_default sets k other ReducedModuloQ within) (sym (own_check p (set_at p sets l k) (take w (drop (w * k) l)) accepted whole))

      pub one_more_judged : array_check p (get_or sets k other) (array_at p k l) ≡ done (tt {0}) → JudgedTo (k + 1)
      one_more_judged e = judged ∙ array_passed p sets l k within (checked ∙ e)

      pub one_refused : (n : ℕ) → array_check p (get_or sets k other) (array_at p k l) ≡ refused n → outcome (set_checks p (arrays_of kind) l) (tt {0}) ≡ refused n
      one_refused n e = rw (← sets_are) (judged ∙ array_refused p sets l k n within (checked ∙ e))
