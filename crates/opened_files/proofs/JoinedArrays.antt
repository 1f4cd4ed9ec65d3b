-- Arrays of 2N numbers, one after another: each by its place, and the checks of their sets.
use mathlib.Core.Path.{◌≡◌, ap, ap₂}
use mathlib.Core.List.{List, [], ◌∷◌, ◌++◌}
use Prim.Native.Nat.{ℕ, suc, ◌+◌, ◌*◌}
use native.Mathlib.Omega.{arith}
use native.Mathlib.Nat.{mul-zero}
use lib.IntN.{ℤ}
use lib.ListN.{length}
use lib.Seq.{take_at, drop_at, take_all, drop-append-add}
use Rattle.parameters.specs.Sets.{ParameterSet}
use Rattle.array_sets.specs.declared.ArraySet.{ArraySet}
use Rattle.files.specs.Files.{array_at}
use Rattle.files.specs.Calls.{set_checks}
use Rattle.array_sets.proofs.ArrayChecks.{own}

module _ (p : ParameterSet) (x : List ℤ) (long : length x ≡ 2 * p.N) where
  pub first-array : (l : List ℤ) → array_at p 0 (x ++ l) ≡ x
  unfolding array_at
  first-array l = rw mul-zero (take_at x l (2 * p.N) long)

  pub later_array : (k : ℕ) (l : List ℤ) → array_at p (suc k) (x ++ l) ≡ array_at p k l
  unfolding array_at
  later_array k l =
      let e : 2 * p.N * suc k ≡ length x + 2 * p.N * k = omega arith in
      rw (e, drop-append-add)

  pub first_check : (a : ArraySet) (sets : List ArraySet) (l : List ℤ) → set_checks p (a ∷ sets) (x ++ l) ≡ own p a x ∷ set_checks p sets l
  unfolding set_checks
  first_check a sets l =
      ap₂ (λ (y r : List ℤ). own p a y ∷ set_checks p sets r) (take_at x l (2 * p.N) long) (drop_at x l (2 * p.N) long)

  pub last_check : (a : ArraySet) → set_checks p (a ∷ []) x ≡ own p a x ∷ []
  unfolding set_checks
  last_check a = ap (λ (y : List ℤ). own p a y ∷ []) (take_all (2 * p.N) x (omega arith))
