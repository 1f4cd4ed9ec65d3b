-- The bytes of a head decide what is read of it, whatever follows them.
use mathlib.Core.Path.{◌≡◌, sym, ◌∙◌, ap}
use mathlib.Core.List.{List, ◌++◌}
use Prim.Native.Nat.{ℕ, ◌≤◌}
use native.Mathlib.Omega.{arith}
use native.Mathlib.Decide.{dec_le}
use borrow.Author.Tests.{le-ltb}
use lib.Dec.{T, ltb, lit<}
use lib.ListN.{length, get_or, take, length-take}
use lib.Seq.{take_all, take-take, get_or-take}
use Rattle.refusals.specs.Outcomes.{outcome}
use Rattle.parameters.specs.Sets.{parameter_checks}
use Rattle.heads.specs.Heads.{head_length, head_of, unsigned_at, signed_at}
use Rattle.head_reading.specs.Calls.{marked, version_one, head_checks, reading_head}

module _ (file : List ℕ) where
  byte_of_start : (k : ℕ) → T (ltb k head_length) → get_or (take head_length file) k 0 ≡ get_or file k 0
  byte_of_start k h = get_or-take head_length file k 0 (lit< h)

  length_of_start : ltb (length (take head_length file)) head_length ≡ ltb (length file) head_length
  length_of_start = go (dec_le head_length (length file))
    where
      go : Dec (head_length ≤ length file) → ltb (length (take head_length file)) head_length ≡ ltb (length file) head_length
      go (yes h) = le-ltb (length (take head_length file)) head_length (omega (arith, length-take head_length file)) ∙ sym (le-ltb (length file) head_length h)
      go (no h) = ap (λ (l : List ℕ). ltb (length l) head_length) (take_all head_length file (omega arith))

  pub head_of_start : head_of (take head_length file) ≡ head_of file
  unfolding head_of unsigned_at signed_at
  head_of_start = simp (byte_of_start, tt {0})

  pub checks_of_start : (kind : ℕ) → head_checks kind (take head_length file) ≡ head_checks kind file
  unfolding head_checks marked version_one unsigned_at
  checks_of_start kind = simp (length_of_start, byte_of_start, tt {0})

  head_reads : (kind : ℕ) → reading_head kind (take head_length file) ≡ reading_head kind file
  unfolding reading_head
  head_reads kind = λ i. outcome (checks_of_start kind i ++ parameter_checks (head_of_start i)) (head_of_start i)

-- so does any longer part
pub head_of_part : (kind : ℕ) (input : List ℕ) (end : ℕ) → head_length ≤ end → reading_head kind (take end input) ≡ reading_head kind input
head_of_part kind input end h = sym (head_reads (take end input) kind) ∙ ap (reading_head kind) (take-take head_length end input h) ∙ head_reads input kind
