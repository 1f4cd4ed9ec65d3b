-- Reading and writing undo each other.
use mathlib.Core.Path.{◌≡◌, ◌∙◌, ap, ap₂, subst}
use mathlib.Core.List.{List, [], ◌∷◌, ◌++◌}
use Prim.Native.Nat.{ℕ, suc, ◌+◌, ◌*◌, ◌%◌, ◌<◌}
use native.Mathlib.Omega.{arith}
use lib.Dec.{T, lit<}
use lib.IntN.{ℤ}
use lib.ListN.{length, drop, length-drop, take-append-drop}
use lib.Seq.{get_or-drop}
use Rattle.refusals.specs.Outcomes.{done, Passes}
use Rattle.refusals.proofs.Checks.{holds_passed, done_holds, done_parts, done_all, passed_all, done_with}
use Rattle.parameters.specs.Sets.{ParameterSet, parameter_checks}
use Rattle.packing.specs.Promises.{Bytes}
use Rattle.heads.specs.Kinds.{known_kind}
use Rattle.heads.specs.Heads.{head_length, bytes16, bits16, head_of, head_bytes}
use Rattle.files.specs.Files.{numbers_of, bytes_of, file_of}
use Rattle.head_reading.specs.Calls.{head_checks, reading_head}
use Rattle.files.specs.Calls.{reading_checks, reading, given_checks, writing_checks, writing}
use Rattle.files.specs.Promises.{ReadingUndoesWriting, WritingUndoesReading, WrittenBytes}
use Rattle.heads.proofs.ArraysOfKinds.{kind_small}
use Rattle.heads.proofs.Numbers.{bits_lt}
use Rattle.files.proofs.Lists.{Fitting, fitting_small, bytes_length, numbers_length, numbers_of_bytes, bytes_of_numbers}
use Rattle.heads.proofs.PartsFit.{PartsFit, parts_fit}
use Rattle.head_reading.proofs.HeadChecks.{Head, head_passed}
use Rattle.files.proofs.HeadTrips.{written_head, headed_length, written_head_passed, bytes_append, headed_bytes, read_head}
use Rattle.files.proofs.Passed.{contents_passed, file_bytes_lem}
use Rattle.files.proofs.SmallArrays.{contents_small}

-- ---- a file that is written

module _ (kind : ℕ) (p : ParameterSet) (l : List ℤ) where
  head_written : PartsFit p → head_of (file_of kind p l) ≡ p
  unfolding file_of
  head_written = written_head kind p (bytes_of l)

  written_numbers : Fitting l → numbers_of (file_of kind p l) ≡ l
  unfolding file_of head_bytes bytes16
  written_numbers f = numbers_of_bytes l f

  written_length : length (file_of kind p l) ≡ head_length + 2 * length l
  unfolding file_of
  written_length = headed_length kind p (bytes_of l) ∙ ap (λ (n : ℕ). head_length + n) (bytes_length l)

  head_accepted : T (known_kind kind) → Passes (head_checks kind (file_of kind p l))
  unfolding file_of
  head_accepted = written_head_passed kind p (bytes_of l)

  -- what writing has passed
  record Written : Type 0 where
    known : T (known_kind kind)
    parameters : Passes (parameter_checks p)
    contents : Passes (given_checks kind p l (length (file_of kind p l)))
    parts : PartsFit p
    fitting : Fitting l

  writing_passed : (room : ℕ) → Passes (writing_checks kind p l room) → Written
  unfolding writing_checks
  writing_passed room e =
      let k19 = done_holds 19 (known_kind kind) _ _ _ e in
      let k = done_all (parameter_checks p) (given_checks kind p l room) _ _ k19.1 in
      let c = contents_passed kind p l (length l) room k.1 in
      let r : room ≡ length (file_of kind p l) = omega (arith, c.file_is, c.numbers_are, file_bytes_lem kind p.N, written_length) in
      record {
        known = k19.0;
        parameters = k.0;
        contents = rw r at k.1;
        parts = parts_fit p k.0;
        fitting = fitting_small l (contents_small kind p l k.0 c.numbers_are c.sets);
      }

  written_head_reads : Written → reading_head kind (file_of kind p l) ≡ done p
  unfolding reading_head
  written_head_reads w =
      passed_all (head_checks kind (file_of kind p l)) _ _ (head_accepted w.known)
      ∙ rw (head_written w.parts) (done_with (parameter_checks p) p w.parameters)

  written_reads : Written → reading kind (file_of kind p l) (length l) ≡ done l
  unfolding reading reading_checks
  written_reads w =
      passed_all (head_checks kind (file_of kind p l)) _ _ (head_accepted w.known)
      ∙ rw (head_written w.parts, written_numbers w.fitting)
      (passed_all (parameter_checks p) _ l w.parameters ∙ done_with _ l w.contents)

pub reading_undoes_writing : ReadingUndoesWriting
unfolding writing
reading_undoes_writing kind p l room file e =
    let d = done_parts (writing_checks kind p l room) (file_of kind p l) file e in
    let w = writing_passed kind p l room d.0 in
    subst (λ (f : List ℕ). (reading_head kind f ≡ done p) × (reading kind f (length l) ≡ done l)) d.1
    (written_head_reads kind p l w, written_reads kind p l w)

-- ---- what is written are bytes

pub bytes_of_list : (l : List ℤ) → Fitting l → Bytes (bytes_of l)
unfolding bytes_of bytes16
bytes_of_list [] f = λ i. lit< tt
bytes_of_list (z ∷ l) f =
    bytes_append (bytes16 (bits16 z)) (bytes_of l) (omega (arith, bits_lt (f 0))) (bytes_of_list l (λ k. f (suc k)))

bytes_of_file : (kind : ℕ) (p : ParameterSet) (l : List ℤ) → kind < 256 → PartsFit p → Fitting l → Bytes (file_of kind p l)
unfolding file_of
bytes_of_file kind p l k f g = headed_bytes kind p (bytes_of l) k f (bytes_of_list l g)

pub written_bytes : WrittenBytes
unfolding writing
written_bytes kind p l room file e =
    let d = done_parts (writing_checks kind p l room) (file_of kind p l) file e in
    let w = writing_passed kind p l room d.0 in
    subst Bytes d.1 (bytes_of_file kind p l (kind_small kind w.known) w.parts w.fitting)

-- ---- a file that is read

module _ (file : List ℕ) (bytes : Bytes file) where
  read_rest : length file % 2 ≡ 0 → bytes_of (numbers_of file) ≡ drop head_length file
  read_rest e =
      bytes_of_numbers (drop head_length file) (λ k. rw get_or-drop (bytes (head_length + k))) (omega (arith, length-drop head_length file))

  read_file : (kind : ℕ) → Head kind file → length file % 2 ≡ 0 → file_of kind (head_of file) (numbers_of file) ≡ file
  unfolding file_of
  read_file kind h e = ap₂ ◌++◌ (read_head file bytes kind h) (read_rest e) ∙ take-append-drop head_length file

pub writing_undoes_reading : WritingUndoesReading
unfolding reading_head reading reading_checks writing writing_checks
writing_undoes_reading kind file room l bytes e =
    let d = done_parts (reading_checks kind file room) (numbers_of file) l e in
    let k = done_all (head_checks kind file) _ _ _ d.0 in
    let h = head_passed kind file k.0 in
    let m = done_all (parameter_checks (head_of file)) _ _ _ k.1 in
    let c = contents_passed kind (head_of file) (numbers_of file) room (length file) m.1 in
    let r : room ≡ length (numbers_of file) = omega (arith, numbers_length (drop head_length file), length-drop head_length file, c.file_is, c.numbers_are, file_bytes_lem kind (head_of file).N) in
    let w =
    subst (λ (x : List ℤ). writing kind (head_of file) x (length file) ≡ done file) d.1
    (holds_passed 19 (known_kind kind) _ _ h.known
    ∙ passed_all (parameter_checks (head_of file)) _ _ m.0
    ∙ done_with (given_checks kind (head_of file) (numbers_of file) (length file)) _ (rw r at m.1)
    ∙ ap done (read_file file bytes kind h (omega (arith, c.file_is, file_bytes_lem kind (head_of file).N)))) in
    (passed_all (head_checks kind file) (parameter_checks (head_of file)) (head_of file) k.0 ∙ done_with (parameter_checks (head_of file)) (head_of file) m.0, w)
