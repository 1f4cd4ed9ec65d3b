-- A file that the program reads, by what reading its head and reading all of it answer.
use Rattle.std.specs.Prelude.{Err, Ok, Result}
use mathlib.Core.Path.{◌≡◌}
use mathlib.Core.List.{List, [], ◌∷◌, ◌++◌, append_assoc}
use Prim.Native.Nat.{ℕ, ◌≤◌}
use lib.Dec.{T}
use lib.IntN.{ℤ}
use lib.ListN.{length}
use Rattle.refusals.specs.Outcomes.{done, refused, outcome, number, written, Passes}
use Rattle.refusals.specs.Numbers.{number_of, answered}
use Rattle.refusals.specs.declared.Refusal.{Refusal}
use Rattle.refusals.proofs.Checks.{positive, done_as_written, refused_by_number, refused_plain, refused_first, done_all, done_parts}
use Rattle.refusals.proofs.Numbers.{number_positive}
use Rattle.parameters.specs.Sets.{ParameterSet, parameter_checks}
use Rattle.array_sets.specs.declared.ArraySet.{ArraySet}
use Rattle.array_sets.specs.declared.ArraySet.TheVariants.{F, G, Phi, ReducedModulo2, ReducedModuloQ}
use Rattle.parameters.proofs.AcceptedParameters.{accepted_parameters}
use Rattle.heads.specs.Kinds.{arrays_of}
use Rattle.heads.specs.Heads.{head_of}
use Rattle.files.specs.Files.{file_numbers, file_bytes, numbers_of}
use Rattle.head_reading.specs.Calls.{head_checks, reading_head}
use Rattle.files.specs.Calls.{set_checks, content_checks, reading_checks, reading}
use Rattle.files.proofs.Passed.{contents_passed}
use Rattle.opened_files.specs.Pairs.{file_checks}

-- ---- no check of a file has the number 0

positive_sets : (p : ParameterSet) (sets : List ArraySet) (l : List ℤ) → T (positive (set_checks p sets l))
unfolding set_checks
positive_sets p [] l = tt
positive_sets p (F ∷ rest) l = positive_sets p rest _
positive_sets p (G ∷ rest) l = positive_sets p rest _
positive_sets p (Phi ∷ rest) l = positive_sets p rest _
positive_sets p (ReducedModulo2 ∷ rest) l = positive_sets p rest _
positive_sets p (ReducedModuloQ ∷ rest) l = positive_sets p rest _

positive_file : (kind : ℕ) (file : List ℕ) (room : ℕ) → T (positive (reading_checks kind file room))
unfolding reading_checks head_checks parameter_checks content_checks
positive_file kind file room = positive_sets (head_of file) (arrays_of kind) (numbers_of file)

-- ---- a refused head

pub head_refused : (kind : ℕ) (file : List ℕ) (r : Refusal) → reading_head kind file ≡ refused (number_of r) → outcome (file_checks kind file) (tt {0}) ≡ refused (number_of r)
unfolding reading_head file_checks reading_checks
head_refused kind file r e =
    rw (← append_assoc) (refused_first (head_checks kind file ++ parameter_checks (head_of file)) _ tt (number_of r) (refused_plain _ (head_of file) (number_of r) (number_positive r) e))

-- ---- a head that is read, and then the file, with room for its numbers

pub record Read (kind : ℕ) (p : ParameterSet) (file : List ℕ) (numbers : List ℤ) : Type 0 where
  pub head : head_of file ≡ p
  pub numbers_are : numbers_of file ≡ numbers
  pub long : length file ≡ file_bytes kind p.N
  pub checks : Passes (file_checks kind file)
  pub sets : Passes (set_checks p (arrays_of kind) numbers)

module _ (kind : ℕ) (file : List ℕ) (p : ParameterSet) (head : reading_head kind file ≡ done p) where
  pub head_is : head_of file ≡ p
  unfolding reading_head
  head_is = (done_parts _ _ _ head).1

  pub accepted : Passes (parameter_checks p)
  unfolding reading_head
  accepted = rw head_is at (done_parts _ _ _ (done_all (head_checks kind file) _ _ _ head).1).0

  pub N_small : p.N ≤ 1024
  N_small = (accepted_parameters p accepted).N_small

  pub read_done : (room : ℕ) (numbers : List ℤ) → reading kind file room ≡ done numbers → Read kind p file numbers
  unfolding reading reading_checks file_checks
  read_done room numbers e =
      let d = done_parts (reading_checks kind file room) (numbers_of file) numbers e in
      let k = done_all (head_checks kind file) _ _ _ d.0 in
      let m = done_all (parameter_checks (head_of file)) _ _ _ k.1 in
      let c = contents_passed kind (head_of file) (numbers_of file) room (length file) m.1 in
      record {
        head = head_is;
        numbers_are = d.1;
        long = rw head_is at c.file_is;
        checks = rw c.numbers_are at d.0;
        sets = rw (head_is, d.1) at c.sets;
      }

  -- what `read` answered
  module _ (old : List ℤ) (answer : Result (Unit {0}) Refusal) (says : number (answered answer) ≡ number (reading kind file (length old))) where
    number_is : (a : Result (Unit {0}) Refusal) → answer ≡ a → number (reading kind file (length old)) ≡ number (answered a)
    number_is a e = cc

    pub file_read : (new : List ℤ) → answer ≡ (Ok tt) → new ≡ written (reading kind file (length old)) old → Read kind p file new
    unfolding reading
    file_read new e w = read_done (length old) new (done_as_written (reading_checks kind file (length old)) (numbers_of file) old new (positive_file kind file (length old)) (number_is (Ok tt) e) w)

    pub file_refused : length old ≡ file_numbers kind p.N → (r : Refusal) → answer ≡ Err r → outcome (file_checks kind file) (tt {0}) ≡ refused (number_of r)
    unfolding reading file_checks
    file_refused room r e =
        let f = refused_plain (reading_checks kind file (length old)) (numbers_of file) (number_of r) (number_positive r) (refused_by_number _ (number_of r) (number_positive r) (number_is (Err r) e)) in
        rw (room, ← head_is) at f
