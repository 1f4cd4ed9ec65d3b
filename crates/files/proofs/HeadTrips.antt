-- A head and what stands behind it: written and read back, read and written back.
use mathlib.Core.Path.{◌≡◌, refl, sym, ◌∙◌, ap}
use mathlib.Core.Bool.{◌&&◌}
use mathlib.Core.List.{List, [], ◌∷◌, ◌++◌}
use Prim.Native.Nat.{ℕ, zero, suc, ◌+◌, ◌/◌, ◌%◌, ◌≤◌, ◌<◌}
use native.Mathlib.Omega.{arith}
use borrow.Author.Tests.{le-ltb}
use lib.Dec.{T, eqb, eqb_refl}
use lib.IntN.{ℤ}
use lib.ListN.{length, get_or, take}
use mir.Facts.{yes_and}
use Rattle.refusals.specs.Outcomes.{Passes}
use Rattle.refusals.proofs.Checks.{passed, holds_passed, none_left}
use Rattle.parameters.specs.Sets.{ParameterSet, set}
use Rattle.packing.specs.Messages.{listed}
use Rattle.packing.specs.Promises.{Bytes}
use Rattle.heads.specs.Kinds.{known_kind}
use Rattle.heads.specs.Heads.{head_length, bytes16, number16, bits16, signed16, unsigned_at, signed_at, head_of, head_bytes}
use Rattle.head_reading.specs.Calls.{marked, version_one, head_checks}
use Rattle.heads.proofs.Numbers.{Fits16, signed_bits, bits_signed, bits_lt, number_bytes, bytes_number, number_lt}
use Rattle.heads.proofs.PartsFit.{PartsFit}
use Rattle.head_reading.proofs.HeadChecks.{Head}

-- ---- a head that is written

module _ (kind : ℕ) (p : ParameterSet) (rest : List ℕ) where
  pub written_head : PartsFit p → head_of (head_bytes kind p ++ rest) ≡ p
  unfolding head_of unsigned_at signed_at head_bytes bytes16
  written_head f =
      λ i.
      set (number_bytes p.N i) (signed f.c_fits i) (signed f.d_fits i) (number_bytes p.s i) (number_bytes p.t i)
    where
      signed : {z : ℤ} → Fits16 z → signed16 (number16 (bits16 z / 256) (bits16 z % 256)) ≡ z
      signed {z} g = ap signed16 (number_bytes (bits16 z)) ∙ signed_bits g

  pub headed_length : length (head_bytes kind p ++ rest) ≡ head_length + length rest
  unfolding head_bytes bytes16
  headed_length = omega arith

  pub written_head_passed : T (known_kind kind) → Passes (head_checks kind (head_bytes kind p ++ rest))
  unfolding head_checks marked version_one unsigned_at number16 head_bytes bytes16
  written_head_passed k =
      passed 16 _ _ (le-ltb (length (head_bytes kind p ++ rest)) head_length (omega (arith, headed_length)))
      ∙ holds_passed 17 (marked (head_bytes kind p ++ rest)) _ _ tt
      ∙ holds_passed 18 (version_one (head_bytes kind p ++ rest)) _ _ tt
      ∙ holds_passed 19 (known_kind kind && eqb kind kind) _ _ (yes_and (known_kind kind) (eqb kind kind) k (eqb_refl kind))
      ∙ none_left _

-- ---- what is written are bytes

-- each number of a list is a byte, as a pair for each cons: `omega` proves it of a list that is written out
abbrev pub Below : List ℕ → Type 0
Below [] = Unit {0}
Below (n ∷ l) = (n < 256) × Below l

pub bytes_append : (l m : List ℕ) → Below l → Bytes m → Bytes (l ++ m)
bytes_append [] m h b i = b i
bytes_append (n ∷ l) m h b zero = h.0
bytes_append (n ∷ l) m h b (suc i) = bytes_append l m h.1 b i

pub headed_bytes : (kind : ℕ) (p : ParameterSet) (rest : List ℕ) → kind < 256 → PartsFit p → Bytes rest → Bytes (head_bytes kind p ++ rest)
unfolding head_bytes bytes16
headed_bytes kind p rest k f b = bytes_append (head_bytes kind p) rest (omega (arith, bits_lt f.c_fits, bits_lt f.d_fits)) b

-- ---- a head that is read

-- the first n bytes, written out
pub firsts : (n : ℕ) (l : List ℕ) → n ≤ length l → take n l ≡ listed n (λ i. get_or l i 0)
unfolding listed
firsts zero l h = refl
firsts (suc n) [] h = absurd (omega arith)
firsts (suc n) (x ∷ l) h = ap (λ (r : List ℕ). x ∷ r) (firsts n l (omega arith))

module _ (file : List ℕ) (bytes : Bytes file) where
  pub unsigned_bytes : (k : ℕ) → bytes16 (unsigned_at file k) ≡ get_or file k 0 ∷ get_or file (suc k) 0 ∷ []
  unfolding unsigned_at
  unsigned_bytes k = bytes_number (get_or file k 0) (get_or file (suc k) 0) (bytes (suc k))

  signed_bytes : (k : ℕ) → bytes16 (bits16 (signed_at file k)) ≡ get_or file k 0 ∷ get_or file (suc k) 0 ∷ []
  unfolding signed_at unsigned_at
  signed_bytes k = ap bytes16 (bits_signed (number_lt (bytes k) (bytes (suc k)))) ∙ unsigned_bytes k

  pub read_head : (kind : ℕ) → Head kind file → head_bytes kind (head_of file) ≡ take head_length file
  unfolding head_of head_bytes listed
  read_head kind h =
      (λ i.
      sym h.mark.0 i
      ∷ sym h.mark.1 i
      ∷ sym h.mark.2 i
      ∷ (ap bytes16 (sym h.version-is) ∙ unsigned_bytes 3) i
      ++ (sym h.kind_is i ∷ unsigned_bytes 6 i ++ (signed_bytes 8 i ++ (signed_bytes 10 i ++ (unsigned_bytes 12 i ++ unsigned_bytes 14 i)))))
      ∙ sym (firsts head_length file h.long)
