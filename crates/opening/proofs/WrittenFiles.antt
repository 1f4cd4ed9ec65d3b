-- The private file of an accepted key and a sealed file, as they are written, open to the message.
use mathlib.Core.Path.{◌≡◌, refl, sym, ◌∙◌, ap, ap₂, subst}
use mathlib.Core.Bool.{◌&&◌}
use mathlib.Core.List.{List, [], ◌∷◌, ◌++◌}
use Prim.Native.Nat.{ℕ, ◌*◌, ◌≤◌}
use native.Mathlib.Omega.{arith}
use lib.Dec.{T, eqb, eqb_refl}
use lib.IntN.{ℤ}
use lib.ListN.{length, length-append, get_or-append}
use lib.Seq.{take_at, drop_at}
use mir.Facts.{yes_and}
use Rattle.integers.proofs.Tests.{equal_2}
use Rattle.refusals.specs.Outcomes.{done, outcome, Passes}
use Rattle.refusals.proofs.Checks.{holds_passed, none_left, done_passed, done_parts, done_all, passed_all, done_with}
use Rattle.eisenstein.specs.Values.{same}
use Rattle.eisenstein.proofs.Equality.{same_true}
use Rattle.parameters.specs.Sets.{ParameterSet, parameter_checks}
use Rattle.parameter_comparison.specs.Comparison.{same_set}
use Rattle.polynomials.specs.Polynomials.{coefficient, convolution, one, congruent_q, congruent2}
use Rattle.packing.specs.Messages.{message_bytes}
use Rattle.array_sets.specs.declared.ArraySet.TheVariants.{F, G, ReducedModulo2, ReducedModuloQ}
use Rattle.etru.specs.Calls.{key_checks, key_check, opening_checks, opening}
use Rattle.etru.specs.Demand3.{AcceptedKey, Opens}
use Rattle.etru.proofs.Passed.{Checking, key_passed, opening_passed}
use Rattle.etru.proofs.Demand3.{Key, accepted_key, demand_3}
use Rattle.heads.specs.Kinds.{arrays_of, made_of_arrays, known_kind}
use Rattle.heads.specs.Heads.{head_length, number16, unsigned_at, head_of}
use Rattle.files.specs.Files.{file_numbers, file_bytes, array_at, file_of}
use Rattle.files.specs.Calls.{set_checks, right_lengths, content_checks, writing_checks, writing}
use Rattle.array_sets.proofs.ArrayChecks.{own}
use Rattle.heads.proofs.ArraysOfKinds.{private_arrays, sealed_arrays, of_arrays_known}
use Rattle.files.proofs.Passed.{file_bytes_lem}
use Rattle.files.proofs.RoundTrips.{reading_undoes_writing}
use Rattle.lines.specs.Lines.{decimal, line_of}
use Rattle.opened_files.specs.Pairs.{first_length, file_checks, pair_checks, inverse_checks, message_of, opening_pair, opening_files}
use Rattle.opening.specs.Program.{opening_line}
use Rattle.opening.specs.Promises.{OpensFiles, WrittenFilesOpen}
use Rattle.opened_files.proofs.JoinedArrays.{first-array, later_array, first_check, last_check}
use Rattle.opened_files.proofs.ReadFiles.{Read, read_done}

-- ---- writing, where all is in order

writes : (kind : ℕ) (p : ParameterSet) (l : List ℤ) → T (made_of_arrays kind) → Passes (parameter_checks p) → length l ≡ file_numbers kind p.N → Passes (set_checks p (arrays_of kind) l) → writing kind p l (file_bytes kind p.N) ≡ done (file_of kind p l)
unfolding writing writing_checks content_checks
writes kind p l k c n s =
    holds_passed 19 (known_kind kind) _ _ (of_arrays_known kind k)
    ∙ passed_all (parameter_checks p) _ _ c
    ∙ holds_passed 7 (right_lengths kind p.N (length l) (file_bytes kind p.N)) _ _
    (yes_and (made_of_arrays kind) _ k (equal_2 {a = file_bytes kind p.N} refl n))
    ∙ done_with (set_checks p (arrays_of kind) l) _ s

-- ---- a file that is written, as the program reads it

written_read : (kind : ℕ) (p : ParameterSet) (l : List ℤ) (room : ℕ) (file : List ℕ) → writing kind p l room ≡ done file → Read kind p file l
written_read kind p l room file e = let r = reading_undoes_writing kind p l room file e in read_done kind file p r.0 (length l) l r.1

-- ---- two files, parted where the first one's head says

first_length_lem : (first second : List ℕ) → head_length ≤ length first → first_length (first ++ second) ≡ file_bytes 2 (head_of first).N
unfolding first_length head_of unsigned_at
first_length_lem first second h =
    ap₂ (λ (high low : ℕ). file_bytes 2 (number16 high low)) (get_or-append first second 0 6 (omega arith)) (get_or-append first second 0 7 (omega arith))

parted : (first second : List ℕ) → length first ≡ file_bytes 2 (head_of first).N → opening_files (first ++ second) ≡ opening_pair first second
unfolding opening_files
parted first second e =
    let f = first_length_lem first second (omega (arith, file_bytes_lem 2 (head_of first).N)) in
    ap₂ opening_pair (take_at first second _ (e ∙ sym f)) (drop_at first second _ (e ∙ sym f))

-- ---- the pair of an accepted key and what was sealed for it

same_set_lem : (p : ParameterSet) → T (same_set p p)
unfolding same_set
same_set_lem p =
    yes_and (eqb p.N p.N) (same p.q p.q && (eqb p.s p.s && eqb p.t p.t)) (eqb_refl p.N)
    (yes_and (same p.q p.q) (eqb p.s p.s && eqb p.t p.t) (subst T (sym (same_true {x = p.q} refl)) tt) (equal_2 {a = p.s} {b = p.t} refl refl))

module _ {p : ParameterSet} {f F2 Fq g h φ : List ℤ} {message : List ℕ} (accepted : AcceptedKey p f F2 Fq g h) (o : Opens p f F2 h φ message) where
  -- the numbers of the private file
  abbrev numbers : List ℤ
  numbers = f ++ (F2 ++ (Fq ++ g))

  key : Key p f F2 Fq g h
  key = accepted_key accepted

  -- what the key check and opening have passed, and that after the parameters
  all_key_checks : Passes (parameter_checks p ++ key_checks p f F2 Fq g (2 * p.N))
  unfolding key_check
  all_key_checks = (done_parts _ _ _ accepted.accepted).0

  key_checks_lem : Passes (key_checks p f F2 Fq g (2 * p.N))
  key_checks_lem = (done_all (parameter_checks p) _ _ _ all_key_checks).1

  all_opening_checks : Passes (parameter_checks p ++ opening_checks p f F2 o.e (message_bytes p.N))
  unfolding opening
  all_opening_checks = (done_parts _ _ _ o.opens).0

  opening_checks_lem : Passes (opening_checks p f F2 o.e (message_bytes p.N))
  opening_checks_lem = (done_all (parameter_checks p) _ _ _ all_opening_checks).1

  key_arrays : Checking p Fq g (2 * p.N)
  key_arrays = key_passed p f F2 Fq g (2 * p.N) all_key_checks

  e_full : length o.e ≡ 2 * p.N
  e_full = (opening_passed p f F2 o.e (message_bytes p.N) all_opening_checks).e_ready.long

  -- each array is in its set: the four checks after the lengths, and the last one of opening
  private_sets : Passes (set_checks p (arrays_of 2) numbers)
  unfolding key_checks
  private_sets =
      rw (private_arrays 2 refl, first_check p f key.f_full, first_check p F2 key.F2_full, first_check p Fq key_arrays.Fq_ready.long, last_check p g key_arrays.g_units.long)
      (done_all (own p F f ∷ own p ReducedModulo2 F2 ∷ own p ReducedModuloQ Fq ∷ own p G g ∷ []) _ _ _ (done_passed 7 _ _ _ _ key_checks_lem).1).0

  sealed_sets : Passes (set_checks p (arrays_of 3) o.e)
  unfolding opening_checks
  sealed_sets =
      rw (sealed_arrays 3 refl, last_check p o.e e_full)
      (done_passed 11 _ _ _ _ (done_passed 8 _ _ _ _ (done_passed 7 _ _ _ _ opening_checks_lem).1).1).1

  -- the two files are written
  private : List ℕ
  private = file_of 2 p numbers

  sealed : List ℕ
  sealed = file_of 3 p o.e

  writes_private : writing 2 p numbers (file_bytes 2 p.N) ≡ done private
  unfolding private file_numbers arrays_of
  writes_private =
      writes 2 p numbers tt key.parameters.checks
      (simp length-append (omega (arith, key.f_full, key.F2_full, key_arrays.Fq_ready.long, key_arrays.g_units.long)))
      private_sets

  writes_sealed : writing 3 p o.e (file_bytes 3 p.N) ≡ done sealed
  unfolding sealed file_numbers arrays_of
  writes_sealed = writes 3 p o.e tt key.parameters.checks (omega (arith, e_full)) sealed_sets

  -- the pair passes its checks, and opens
  f_is : array_at p 0 numbers ≡ f
  f_is = first-array p f key.f_full (F2 ++ (Fq ++ g))

  F2_is : array_at p 1 numbers ≡ F2
  F2_is = later_array p f key.f_full 0 (F2 ++ (Fq ++ g)) ∙ first-array p F2 key.F2_full (Fq ++ g)

  Fq_is : array_at p 2 numbers ≡ Fq
  Fq_is =
      later_array p f key.f_full 1 (F2 ++ (Fq ++ g))
      ∙ later_array p F2 key.F2_full 0 (Fq ++ g)
      ∙ first-array p Fq key_arrays.Fq_ready.long g

  pair_opens : outcome (pair_checks p numbers p) (message_of p numbers o.e) ≡ done message
  unfolding pair_checks inverse_checks message_of
  pair_opens =
      rw (f_is, F2_is, Fq_is)
      (holds_passed 20 (same_set p p) _ _ (same_set_lem p)
      ∙ holds_passed 13 (congruent2 p.N (convolution p.N (coefficient f) (coefficient F2)) one) _ _ key.inverse_2
      ∙ holds_passed 14 (congruent_q p.N p.q (convolution p.N (coefficient f) (coefficient Fq)) one) _ _ key.inverse_q
      ∙ none_left _
      ∙ ap done o.forms)

  files_open : opening_files (private ++ sealed) ≡ done message
  unfolding opening_pair
  files_open =
      let r = written_read 2 p numbers (file_bytes 2 p.N) private writes_private in
      let t = written_read 3 p o.e (file_bytes 3 p.N) sealed writes_sealed in
      parted private sealed (rw r.head r.long)
      ∙ passed_all (file_checks 2 private) _ _ r.checks
      ∙ passed_all (file_checks 3 sealed) _ _ t.checks
      ∙ rw (r.head, r.numbers_are, t.head, t.numbers_are) pair_opens

  files_line : OpensFiles p f F2 Fq g h φ message
  unfolding opening_line decimal
  files_line = record {
    e = o.e;
    private = private;
    sealed = sealed;
    seals = o.seals;
    writes_private = writes_private;
    writes_sealed = writes_sealed;
    line = ap line_of files_open;
  }

pub written_files_open : WrittenFilesOpen
written_files_open p f F2 Fq g h φ message key ephemeral msg =
    files_line key (demand_3.opens p f F2 Fq g h φ message key ephemeral msg)
