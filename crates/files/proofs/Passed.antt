-- What the checks of a file leave, where all are passed.
use mathlib.Core.Path.{◌≡◌, sym, ◌∙◌, ap, subst}
use mathlib.Core.Bool.{Bool, true, false, not, ◌&&◌}
use mathlib.Core.List.{List, ◌++◌}
use Prim.Native.Nat.{ℕ, ◌+◌, ◌*◌}
use native.Mathlib.Omega.{arith}
use lib.Dec.{T, eqb}
use lib.IntN.{ℤ}
use Rattle.refusals.specs.Outcomes.{refused, outcome, Passes}
use Rattle.refusals.proofs.Checks.{done_holds, holds_passed, fails_refused, refused_by, passed}
use mir.Facts.{and_yes}
use Rattle.integers.proofs.Tests.{are_equal_2}
use Rattle.parameters.specs.Sets.{ParameterSet, parameter_checks}
use Rattle.heads.specs.declared.kinds.Kind.{Kind}
use Rattle.heads.specs.Kinds.{arrays_of, made_of_arrays, known_kind, number_of_kind}
use Rattle.heads.proofs.ArraysOfKinds.{kind_known}
use Rattle.heads.specs.Heads.{head_length}
use Rattle.files.specs.Files.{file_numbers, file_bytes, file_of}
use Rattle.files.specs.Calls.{set_checks, right_lengths, content_checks, given_checks, writing_checks, writing}

-- what the test of the lengths says
right_lengths_lem : (kind N numbers file : ℕ) → T (right_lengths kind N numbers file) → (file ≡ file_bytes kind N) × (numbers ≡ file_numbers kind N)
right_lengths_lem kind N numbers file t =
    are_equal_2 file (file_bytes kind N) numbers (file_numbers kind N) (and_yes (made_of_arrays kind) (eqb file (file_bytes kind N) && eqb numbers (file_numbers kind N)) t).1

-- the test of the two lengths, as `lengths_right` answers it
module _ (kind : ℕ) (p : ParameterSet) (l : List ℤ) (numbers file : ℕ) (right : Bool) (tested : right ≡ right_lengths kind p.N numbers file) where
  pub lengths_are : right ≡ true → (file ≡ file_bytes kind p.N) × (numbers ≡ file_numbers kind p.N)
  lengths_are e = right_lengths_lem kind p.N numbers file (subst T (sym e ∙ tested) tt)

  pub lengths_refused : right ≡ false → outcome (content_checks kind p l numbers file) (tt {0}) ≡ refused 7
  unfolding content_checks
  lengths_refused e = fails_refused 7 _ _ tt (sym tested ∙ e)

  pub lengths_passed : right ≡ true → outcome (content_checks kind p l numbers file) (tt {0}) ≡ outcome (set_checks p (arrays_of kind) l) (tt {0})
  unfolding content_checks
  lengths_passed e = holds_passed 7 (right_lengths kind p.N numbers file) _ tt (subst T (sym e ∙ tested) tt)

-- writing tests the kind first
module _ (p : ParameterSet) (l : List ℤ) (room : ℕ) where
  pub kind_refused : (number : ℕ) → known_kind number ≡ false → writing number p l room ≡ refused 19
  unfolding writing writing_checks
  kind_refused number e = refused_by 19 _ _ (ap not e)

  pub kind_passed : {number : ℕ} (kind : Kind) → number_of_kind kind ≡ number → writing number p l room ≡ outcome (parameter_checks p ++ given_checks (number_of_kind kind) p l room) (file_of (number_of_kind kind) p l)
  unfolding writing writing_checks
  kind_passed kind e = rw (← e) (passed 19 _ _ (ap not (kind_known kind)))

pub record Contents (kind : ℕ) (p : ParameterSet) (l : List ℤ) (numbers file : ℕ) : Type 0 where
  pub file_is : file ≡ file_bytes kind p.N
  pub numbers_are : numbers ≡ file_numbers kind p.N
  pub sets : Passes (set_checks p (arrays_of kind) l)

pub contents_passed : (kind : ℕ) (p : ParameterSet) (l : List ℤ) (numbers file : ℕ) → Passes (content_checks kind p l numbers file) → Contents kind p l numbers file
unfolding content_checks
contents_passed kind p l numbers file e =
    let k7 = done_holds 7 (right_lengths kind p.N numbers file) _ _ _ e in
    let n = right_lengths_lem kind p.N numbers file k7.0 in
    record { file_is = n.0; numbers_are = n.1; sets = k7.1 }

pub file_bytes_lem : (kind N : ℕ) → file_bytes kind N ≡ head_length + 2 * file_numbers kind N
unfolding file_bytes file_numbers
file_bytes_lem kind N = omega arith
