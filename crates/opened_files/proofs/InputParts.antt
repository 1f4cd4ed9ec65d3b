-- The input in its two parts: the first file ends where its own head says, or with the input, and its head is the input's.
use mathlib.Core.Path.{◌≡◌, ◌∙◌}
use mathlib.Core.List.{List}
use Prim.Native.Nat.{ℕ, ◌-◌, min, ◌≤◌}
use native.Mathlib.Omega.{arith}
use lib.ListN.{length, take, drop}
use Rattle.refusals.specs.Outcomes.{done, refused, outcome}
use Rattle.refusals.specs.Numbers.{number_of}
use Rattle.refusals.specs.declared.Refusal.{Refusal}
use Rattle.refusals.proofs.Checks.{refused_first}
use Rattle.parameters.specs.Sets.{ParameterSet}
use Rattle.heads.specs.Heads.{head_length, head_of}
use Rattle.files.specs.Files.{file_bytes}
use Rattle.head_reading.specs.Calls.{reading_head}
use Rattle.files.proofs.Lists.{rest_taken}
use Rattle.files.proofs.Passed.{file_bytes_lem}
use Rattle.opened_files.specs.Pairs.{first_length, file_checks, opening_pair, opening_files}
use Rattle.opened_files.proofs.FirstBytes.{head_of_part}
use Rattle.opened_arrays.proofs.Parts.{end_taken, end_dropped}
use Rattle.opened_files.proofs.ReadFiles.{head_refused, head_is}

-- the head is within the first part
head_inside : (kind N : ℕ) → head_length ≤ file_bytes kind N
head_inside kind N = omega (arith, file_bytes_lem kind N)

-- ---- a refused head, and one that is read

pub pair_refused : (first second : List ℕ) (r : Refusal) → outcome (file_checks 2 first) (tt {0}) ≡ refused (number_of r) → opening_pair first second ≡ refused (number_of r)
unfolding opening_pair
pair_refused first second r e = refused_first (file_checks 2 first) _ _ (number_of r) e

pub input_refused : (input : List ℕ) (r : Refusal) → reading_head 2 input ≡ refused (number_of r) → opening_files input ≡ refused (number_of r)
unfolding opening_files first_length
input_refused input r e =
    pair_refused _ _ r (head_refused 2 _ r (head_of_part 2 input _ (head_inside 2 (head_of input).N) ∙ e))

module _ (input : List ℕ) (p : ParameterSet) (end : ℕ) (head : reading_head 2 input ≡ done p) (ends : end ≡ min (file_bytes 2 p.N) (length input)) where
  pub first_head : reading_head 2 (take end input) ≡ done p
  first_head = rw (ends, end_taken) (head_of_part 2 input _ (head_inside 2 p.N) ∙ head)

  pub input_parted : opening_pair (take end input) (take (length input - end) (drop end input)) ≡ opening_files input
  unfolding opening_files first_length
  input_parted = rw (rest_taken, ends, end_taken, end_dropped, head_is 2 input p head)
