-- Refused before an array is looked at: the parameters, and numbers that are too few for four arrays.
use mathlib.Core.Path.{◌≡◌, refl, ◌∙◌}
use mathlib.Core.Bool.{Bool, true, false, ◌&&◌}
use mathlib.Core.List.{List}
use Prim.Native.Nat.{ℕ, ◌*◌, ◌<◌}
use native.Mathlib.Omega.{arith}
use lib.Dec.{T}
use lib.IntN.{ℤ}
use lib.ListN.{length, drop, length-take, length-drop}
use Rattle.integers.proofs.Tests.{are_equal_5}
use Rattle.refusals.specs.Outcomes.{refused, outcome, Passes}
use Rattle.refusals.proofs.Checks.{passed_all, refused_first, fails_refused}
use Rattle.parameters.specs.Sets.{ParameterSet, parameter_checks}
use Rattle.arrays.specs.Arrays.{full}
use Rattle.etru.specs.Calls.{key_checks, key_check}
use Rattle.files.specs.Files.{array_at}
use Rattle.stored_keys.specs.Keys.{stored_key_check}

pub set_refused : (p : ParameterSet) (l : List ℤ) (n : ℕ) → outcome (parameter_checks p) (tt {0}) ≡ refused n → stored_key_check p l ≡ refused n
unfolding stored_key_check key_check
set_refused p l n e = refused_first (parameter_checks p) _ _ n e

fails : (t : Bool) → (T t → ⊥) → t ≡ false
fails true h = absurd (h tt)
fails false h = refl

-- the last array is too short
short : (p : ParameterSet) (l : List ℤ) → length l < 8 * p.N → length (array_at p 3 l) < 2 * p.N
unfolding array_at
short p l h = omega (arith, length-take (2 * p.N) (drop (2 * p.N * 3) l), length-drop (2 * p.N * 3) l)

pub too_few : (p : ParameterSet) (l : List ℤ) → Passes (parameter_checks p) → length l < 8 * p.N → stored_key_check p l ≡ refused 7
unfolding stored_key_check key_check key_checks
too_few p l e h =
    let n = 2 * p.N in
    passed_all (parameter_checks p) _ _ e
    ∙ fails_refused 7 (full p.N (length (array_at p 0 l)) && (full p.N (length (array_at p 1 l)) && (full p.N (length (array_at p 2 l)) && (full p.N (length (array_at p 3 l)) && full p.N n)))) _ _
    (fails _ λ t. omega (arith, (are_equal_5 (length (array_at p 0 l)) n (length (array_at p 1 l)) n (length (array_at p 2 l)) n (length (array_at p 3 l)) n n n t).3, short p l h))
