-- The bits of a short message, the 1 and the zeros, bit by bit and byte by byte.
use mathlib.Core.Path.{◌≡◌, sym, ◌∙◌, ap, subst}
use mathlib.Core.Bool.{Bool, cond}
use mathlib.Core.List.{List}
use Prim.Native.Nat.{ℕ, ◌+◌, ◌*◌, ◌≤◌, ◌<◌}
use native.Mathlib.Omega.{arith}
use native.Mathlib.Decide.{dec_lt, ℕ_discrete}
use borrow.Author.Tests.{lt-ltb, le-ltb, eq-eqb, ne_eqb}
use lib.ListN.{length, get_or}
use Rattle.packing.specs.Messages.{bit_of, byte}
use Rattle.packing.proofs.RoundTrips.{bit_of_lt, byte_of_bits, byte-same}
use Rattle.short_messages.specs.ShortMessages.{one_then_zeros, padded_bit}

module _ (short : List ℕ) where
  pub own_bit : (k : ℕ) → k < 8 * length short → padded_bit short k ≡ bit_of short k
  unfolding padded_bit
  own_bit k l = ap (λ (t : Bool). cond t (bit_of short k) (one_then_zeros (8 * length short) k)) (lt-ltb k (8 * length short) l)

  after_own : (k : ℕ) → 8 * length short ≤ k → padded_bit short k ≡ one_then_zeros (8 * length short) k
  unfolding padded_bit
  after_own k l = ap (λ (t : Bool). cond t (bit_of short k) (one_then_zeros (8 * length short) k)) (le-ltb k (8 * length short) l)

  pub one_bit : (k : ℕ) → k ≡ 8 * length short → padded_bit short k ≡ 1
  unfolding one_then_zeros
  one_bit k e = after_own k (omega arith) ∙ ap (λ (t : Bool). cond t 1 0) (eq-eqb k (8 * length short) e)

  pub zero_bit : (k : ℕ) → 8 * length short < k → padded_bit short k ≡ 0
  unfolding one_then_zeros
  zero_bit k l = after_own k (omega arith) ∙ ap (λ (t : Bool). cond t 1 0) (ne_eqb k (8 * length short) (λ e. omega arith))

  pub padded_lt : (k : ℕ) → padded_bit short k < 2
  padded_lt k = go (dec_lt k (8 * length short)) (ℕ_discrete k (8 * length short))
    where
      go : Dec (k < 8 * length short) → Dec (k ≡ 8 * length short) → padded_bit short k < 2
      go (yes l) d = subst (λ (b : ℕ). b < 2) (sym (own_bit k l)) (bit_of_lt short k)
      go (no l) (yes d) = omega (arith, one_bit k d)
      go (no l) (no d) = omega (arith, zero_bit k (omega arith))

  pub own_byte : (j : ℕ) → j < length short → get_or short j 0 < 256 → byte (padded_bit short) j ≡ get_or short j 0
  own_byte j l b = byte-same (padded_bit short) (bit_of short) j (length short) l own_bit ∙ byte_of_bits short j b

  pub one_byte : (j : ℕ) → j ≡ length short → byte (padded_bit short) j ≡ 128
  unfolding byte
  one_byte j e =
      omega (arith, one_bit (8 * j) (omega arith), zero_bit (8 * j + 1) (omega arith), zero_bit (8 * j + 2) (omega arith), zero_bit (8 * j + 3) (omega arith), zero_bit (8 * j + 4) (omega arith), zero_bit (8 * j + 5) (omega arith), zero_bit (8 * j + 6) (omega arith), zero_bit (8 * j + 7) (omega arith))

  pub zero_byte : (j : ℕ) → length short < j → byte (padded_bit short) j ≡ 0
  unfolding byte
  zero_byte j l =
      omega (arith, zero_bit (8 * j) (omega arith), zero_bit (8 * j + 1) (omega arith), zero_bit (8 * j + 2) (omega arith), zero_bit (8 * j + 3) (omega arith), zero_bit (8 * j + 4) (omega arith), zero_bit (8 * j + 5) (omega arith), zero_bit (8 * j + 6) (omega arith), zero_bit (8 * j + 7) (omega arith))
