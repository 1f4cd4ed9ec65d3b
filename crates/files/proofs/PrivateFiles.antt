-- A private file whose g is not in whole triples meets 9, in reading and in writing.
use mathlib.Core.Path.{◌≡◌, refl, ◌∙◌, ap}
use mathlib.Core.Bool.{true, false}
use mathlib.Core.List.{List, [], ◌∷◌, ◌++◌}
use Prim.Native.Nat.{ℕ, ◌+◌, ◌*◌}
use native.Mathlib.Omega.{arith}
use lib.IntN.{ℤ}
use lib.ListN.{take, drop}
use lib.Seq.{drop-drop}
use Rattle.refusals.specs.Outcomes.{outcome, ◌if◌}
use Rattle.refusals.proofs.Checks.{passed, same_first, ends_at}
use Rattle.parameters.specs.Sets.{ParameterSet, parameter_checks}
use Rattle.polynomials.specs.Polynomials.{coefficient, whole_triples}
use Rattle.heads.specs.Kinds.{arrays_of}
use Rattle.heads.specs.Heads.{head_of}
use Rattle.head_reading.specs.Calls.{head_checks}
use Rattle.files.specs.Files.{numbers_of, array_at}
use Rattle.files.specs.Calls.{set_checks, content_checks, reading_checks, reading, writing_checks, writing}
use Rattle.files.specs.Promises.{OtherGNotRead, OtherGNotWritten}

-- the fourth array
fourth : (p : ParameterSet) (l : List ℤ) → take (2 * p.N) (drop (2 * p.N) (drop (2 * p.N) (drop (2 * p.N) l))) ≡ array_at p 3 l
unfolding array_at
fourth p l =
    let n : ℕ = 2 * p.N in
    let three : n + n + n ≡ n * 3 = omega arith in
    ap (take n) (ap (drop n) (drop-drop n n l) ∙ drop-drop n (n + n) l ∙ ap (λ (i : ℕ). drop i l) three)

module _ (p : ParameterSet) (l : List ℤ) (other : whole_triples p.N p.s (coefficient (array_at p 3 l)) ≡ false) {A : Type 0} (a a' : A) (numbers file : ℕ) where
  refused_9 : outcome (content_checks 2 p l numbers file) a ≡ outcome (take 4 (content_checks 2 p l numbers file) ++ 9 if true ∷ []) a'
  unfolding content_checks set_checks arrays_of
  refused_9 = ends_at (take 4 (content_checks 2 p l numbers file)) 9 _ _ a a' (ap (λ (x : List ℤ). whole_triples p.N p.s (coefficient x)) (fourth p l) ∙ other)

pub other_g_not_read : OtherGNotRead
unfolding reading reading_checks
other_g_not_read file room other =
    same_first (head_checks 2 file) _ _ _ _ (λ head. same_first (parameter_checks (head_of file)) _ _ _ _ (λ accepted. refused_9 (head_of file) (numbers_of file) other _ _ _ _))

pub other_g_not_written : OtherGNotWritten
unfolding writing writing_checks arrays_of
other_g_not_written p numbers room other =
    passed 19 _ _ refl ∙ same_first (parameter_checks p) _ _ _ _ (λ accepted. refused_9 p numbers other _ _ _ _)
