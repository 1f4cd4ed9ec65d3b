-- The checks of a bundle's arrays, entry by entry.
use mathlib.Core.Path.{◌≡◌, sym, ◌∙◌, ap}
use mathlib.Core.Bool.{false}
use mathlib.Core.List.{List, [], ◌∷◌}
use Prim.Native.Nat.{ℕ, ◌+◌, ◌<◌}
use native.Mathlib.Numerals.{add-one}
use lib.ListN.{length, drop}
use lib.Seq.{drop-cons, drop-length}
use Rattle.refusals.specs.Outcomes.{Check, refused, outcome, Passes}
use Rattle.refusals.proofs.Checks.{done_passed, passed_all, refused_first, none_left}
use Rattle.parameters.specs.Sets.{ParameterSet}
use Rattle.array_sets.specs.declared.ArraySet.TheVariants.{ReducedModuloQ}
use Rattle.array_sets.proofs.ArrayChecks.{own}
use Rattle.stop_sets.specs.Stops.{any_twice}
use Rattle.bundles.specs.Bundles.{Entry, stops_of, array_of}
use Rattle.bundles.specs.Calls.{arrays_checks, entries_checks}

-- 25 and the arrays apart
pub entries_parts : (p : ParameterSet) (es : List Entry) → Passes (entries_checks p es) → (any_twice (stops_of es) ≡ false) × Passes (arrays_checks p es)
unfolding entries_checks
entries_parts p es e = done_passed 25 (any_twice (stops_of es)) (arrays_checks p es) _ _ e

module _ (p : ParameterSet) (es : List Entry) where
  -- the checks from entry k on
  abbrev pub from_entry : ℕ → List Check
  from_entry k = arrays_checks p (drop k es)

  next_entry : (k : ℕ) → k < length es → from_entry k ≡ own p ReducedModuloQ (array_of es k) ∷ from_entry (k + 1)
  unfolding arrays_checks
  next_entry k h =
      ap (arrays_checks p) (drop-cons es k (record { stop = 0; array = [] }) h)
      ∙ ap (λ (i : ℕ). own p ReducedModuloQ (array_of es k) ∷ arrays_checks p (drop i es)) (sym (add-one k))

  pub entry_passed : (k : ℕ) → k < length es → Passes (own p ReducedModuloQ (array_of es k) ∷ []) → outcome (from_entry k) (tt {0}) ≡ outcome (from_entry (k + 1)) (tt {0})
  entry_passed k h e =
      ap (λ (cs : List Check). outcome cs (tt {0})) (next_entry k h) ∙ passed_all (own p ReducedModuloQ (array_of es k) ∷ []) (from_entry (k + 1)) tt e

  pub entry_refused : (k n : ℕ) → k < length es → outcome (own p ReducedModuloQ (array_of es k) ∷ []) (tt {0}) ≡ refused n → outcome (from_entry k) (tt {0}) ≡ refused n
  entry_refused k n h e =
      ap (λ (cs : List Check). outcome cs (tt {0})) (next_entry k h) ∙ refused_first (own p ReducedModuloQ (array_of es k) ∷ []) (from_entry (k + 1)) tt n e

  pub all_entries_passed : (k : ℕ) → k ≡ length es → Passes (from_entry k)
  unfolding arrays_checks
  all_entries_passed k e = ap (λ (r : List Entry). outcome (arrays_checks p r) (tt {0})) (ap (λ (i : ℕ). drop i es) e ∙ drop-length es) ∙ none_left tt
