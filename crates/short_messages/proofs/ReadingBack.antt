-- Short messages and their bits: each reads back to itself, and each that is read comes from just one.
use Rattle.std.specs.Prelude.{None, Option, Some}
use mathlib.Core.Path.{◌≡◌, refl, sym, ◌∙◌, ap, subst}
use mathlib.Core.Bool.{false, not}
use mathlib.Core.List.{List}
use Prim.Native.Nat.{ℕ, ◌+◌, ◌-◌, ◌*◌, ◌/◌, ◌%◌, ◌^◌, ◌≤◌, ◌<◌}
use native.Mathlib.Omega.{arith}
use native.Mathlib.Decide.{dec_lt, ℕ_discrete}
use borrow.Author.Tests.{eq-eqb, eqb-true, not-false}
use lib.Dec.{T, eqb}
use lib.ListN.{length, get_or, take, get_or-eq_default}
use lib.Seq.{ext_get_or, length-take-le, get_or-take}
use Rattle.packing.specs.Messages.{message_bytes, bit_of, byte, spare_bit_set}
use Rattle.packing.specs.Promises.{Bytes}
use Rattle.packing.proofs.RoundTrips.{bit_of_lt, listed_length, listed_at, listed-bit, listed_bytes, listed-is, spare_zero, zero_spare}
use Rattle.short_messages.specs.ShortMessages.{padded_bit, padded, last_one, ends_no_short, not_short, bytes_before, short_of}
use Rattle.short_messages.specs.Promises.{Short, LongestIsLargest, PaddedBitsHold, PaddedWhole, PaddedReads, PaddedDistinct, ReadFromJustOne}
use Rattle.short_messages.proofs.LastOnes.{last_is, Last, last_known}
use Rattle.short_messages.proofs.PaddedBits.{own_bit, one_bit, zero_bit, padded_lt, own_byte}

pub longest_is_largest : LongestIsLargest
longest_is_largest N n l = (λ h. omega arith, λ h. omega arith)

-- a message of its length, with the spare bits zero
record Whole (N : ℕ) (message : List ℕ) : Type 0 where
  full : length message ≡ message_bytes N
  bytes : Bytes message
  no_spare : T (not (spare_bit_set N message))

-- ---- what is padded

padded-bit : (N : ℕ) (short : List ℕ) (k : ℕ) → k < 8 * message_bytes N → bit_of (padded N short) k ≡ padded_bit short k
unfolding padded
padded-bit N short k l = listed-bit (message_bytes N) (padded_bit short) (padded_lt short) k l

pub padded_bits : PaddedBitsHold
padded_bits N short s = record {
  own = λ k l. padded-bit N short k (omega (arith, s.fits)) ∙ own_bit short k l;
  one = padded-bit N short (8 * length short) (omega (arith, s.fits)) ∙ one_bit short (8 * length short) refl;
  zeros = λ k l m. padded-bit N short k (omega arith) ∙ zero_bit short k l;
}

whole_padded : (N : ℕ) (short : List ℕ) → 8 * length short + 1 ≤ 2 * N → Whole N (padded N short)
unfolding padded
whole_padded N short fits = record {
  full = listed_length (message_bytes N) (byte (padded_bit short));
  bytes = listed_bytes (message_bytes N) (padded_bit short) (padded_lt short);
  no_spare = zero_spare N (padded N short) (λ k l m. padded-bit N short k l ∙ zero_bit short k (omega arith));
}

pub padded_whole : PaddedWhole
padded_whole N short fits = let w = whole_padded N short fits in (w.full, w.bytes, w.no_spare)

-- the last 1 is the one that was put there
padded_last : (N : ℕ) (short : List ℕ) → Short N short → last_one (2 * N) (bit_of (padded N short)) ≡ Some (8 * length short)
padded_last N short s =
    let p = padded_bits N short s in
    last_is (bit_of (padded N short)) (2 * N) (8 * length short) (omega (arith, s.fits)) p.one p.zeros

-- the bytes before it are those of the short message
padded_front : (N : ℕ) (short : List ℕ) → Short N short → take (length short) (padded N short) ≡ short
unfolding padded
padded_front N short s = ext_get_or 0 (take (length short) (padded N short)) short long at
  where
    enough : length short ≤ length (padded N short)
    enough = omega (arith, s.fits, listed_length (message_bytes N) (byte (padded_bit short)))

    long : length (take (length short) (padded N short)) ≡ length short
    long = length-take-le (length short) (padded N short) enough

    at : (j : ℕ) → j < length (take (length short) (padded N short)) → get_or (take (length short) (padded N short)) j 0 ≡ get_or short j 0
    at j l =
        let m : j < length short = omega (arith, long) in
        get_or-take (length short) (padded N short) j 0 m
        ∙ listed_at (message_bytes N) (byte (padded_bit short)) j (omega (arith, s.fits))
        ∙ own_byte short j m (s.bytes j)

pub padded_reads : PaddedReads
unfolding not_short short_of
padded_reads N short s =
    let e = padded_last N short s in
    let m : 8 * length short % 8 ≡ 0 = omega arith in
    let d : 8 * length short / 8 ≡ length short = omega arith in (
      ap ends_no_short e ∙ ap not (eq-eqb (8 * length short % 8) 0 m),
      ap (λ (o : Option ℕ). bytes_before o (padded N short)) e ∙ ap (λ (n : ℕ). take n (padded N short)) d ∙ padded_front N short s,
    )

-- bits that agree below 2N make the same message
same_message : (N : ℕ) (message message' : List ℕ) → Whole N message → Whole N message' → ((k : ℕ) → k < 2 * N → bit_of message k ≡ bit_of message' k) → message ≡ message'
same_message N message message' w w' h =
    sym (listed-is (message_bytes N) (bit_of message) message w.bytes w.full (λ k l. refl)) ∙ listed-is (message_bytes N) (bit_of message) message' w'.bytes w'.full bits
  where
    bits : (k : ℕ) → k < 8 * message_bytes N → bit_of message k ≡ bit_of message' k
    bits k l = go (dec_lt k (2 * N))
      where
        go : Dec (k < 2 * N) → bit_of message k ≡ bit_of message' k
        go (yes p) = h k p
        go (no p) = spare_zero N message w.no_spare k l (omega arith) ∙ sym (spare_zero N message' w'.no_spare k l (omega arith))

-- two short messages with the same padded message are the same
pub same_short : (N : ℕ) (short short' : List ℕ) → Short N short → Short N short' → padded N short ≡ padded N short' → short ≡ short'
same_short N short short' s s' e = sym (padded_reads N short s).1 ∙ ap (short_of N) e ∙ (padded_reads N short' s').1

pub padded_distinct : PaddedDistinct
padded_distinct N short short' s s' h =
    same_short N short short' s s' (same_message N (padded N short) (padded N short') (whole_padded N short s.fits) (whole_padded N short' s'.fits) h)

-- ---- what is read

-- where the last 1 of a message that is a short one stands
record Ends (N : ℕ) (message : List ℕ) : Type 0 where
  place : ℕ
  last : last_one (2 * N) (bit_of message) ≡ Some place
  byte-first : place % 8 ≡ 0

ends : (N : ℕ) (message : List ℕ) → not_short N message ≡ false → Ends N message
unfolding not_short
ends N message e = go (last_one (2 * N) (bit_of message)) refl e
  where
    go : (o : Option ℕ) → last_one (2 * N) (bit_of message) ≡ o → ends_no_short o ≡ false → Ends N message
    go (Some k) h t = record { place = k; last = h; byte-first = eqb-true (k % 8) 0 (not-false (eqb (k % 8) 0) t) }
    go None h t = absurd (subst T t tt)

module _ (N : ℕ) (message : List ℕ) (whole : Whole N message) (end : Ends N message) where
  last : Last (bit_of message) (2 * N) end.place
  last = last_known (bit_of message) (2 * N) end.place end.last

  short : List ℕ
  short = take (end.place / 8) message

  enough : end.place / 8 ≤ length message
  enough = omega (arith, last.inside, whole.full)

  short_length : length short ≡ end.place / 8
  unfolding short
  short_length = length-take-le (end.place / 8) message enough

  ends_at : 8 * length short ≡ end.place
  ends_at = omega (arith, short_length, end.byte-first)

  short_bit : (k : ℕ) → k < 8 * length short → bit_of short k ≡ bit_of message k
  unfolding bit_of short
  short_bit k l = ap (λ (v : ℕ). v / 2 ^ (7 - k % 8) % 2) (get_or-take (end.place / 8) message (k / 8) 0 (omega (arith, short_length)))

  short_is : Short N short
  unfolding short
  short_is = record {
    bytes = λ i. go i (dec_lt i (end.place / 8));
    fits = omega (arith, ends_at, last.inside);
  }
    where
      go : (i : ℕ) → Dec (i < end.place / 8) → get_or short i 0 < 256
      go i (yes l) = subst (λ (v : ℕ). v < 256) (sym (get_or-take (end.place / 8) message i 0 l)) (whole.bytes i)
      go i (no l) = subst (λ (v : ℕ). v < 256) (sym (get_or-eq_default short 0 (omega (arith, short_length)))) (omega arith)

  same_bits : (k : ℕ) → k < 8 * message_bytes N → padded_bit short k ≡ bit_of message k
  same_bits k l = go (dec_lt k (8 * length short)) (ℕ_discrete k (8 * length short)) (dec_lt k (2 * N))
    where
      go : Dec (k < 8 * length short) → Dec (k ≡ 8 * length short) → Dec (k < 2 * N) → padded_bit short k ≡ bit_of message k
      go (yes p) d e = own_bit short k p ∙ short_bit k p
      go (no p) (yes d) e = one_bit short k d ∙ sym (ap (bit_of message) (d ∙ ends_at) ∙ last.one)
      go (no p) (no d) (yes e) =
          let other = last.none_after k (omega (arith, ends_at)) e in
          omega (arith, zero_bit short k (omega arith), bit_of_lt message k)
      go (no p) (no d) (no e) = zero_bit short k (omega arith) ∙ sym (spare_zero N message whole.no_spare k l (omega arith))

  pads : padded N short ≡ message
  unfolding padded
  pads = listed-is (message_bytes N) (padded_bit short) message whole.bytes whole.full same_bits

  short_of_lem : short_of N message ≡ short
  unfolding short_of short
  short_of_lem = ap (λ (o : Option ℕ). bytes_before o message) end.last

pub read_from_just_one : ReadFromJustOne
read_from_just_one N message full bytes no_spare e =
    let whole : Whole N message = record { full = full; bytes = bytes; no_spare = no_spare } in
    let end = ends N message e in
    let is = short_of_lem N message whole end in
    let short-there = subst (Short N) (sym is) (short_is N message whole end) in
    let pads-there : padded N (short_of N message) ≡ message = ap (padded N) is ∙ pads N message whole end in
    record {
      short = short-there;
      pads = pads-there;
      only = λ other o p. same_short N other (short_of N message) o short-there (p ∙ sym pads-there);
    }
