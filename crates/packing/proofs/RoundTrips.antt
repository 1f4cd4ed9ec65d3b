-- What is packed and what is unpacked undo each other.
use mathlib.Core.Path.{◌≡◌, refl, sym, ◌∙◌, ap, ap₂, subst}
use mathlib.Core.Bool.{Bool, true, false, not, cond, ◌&&◌, ◌||◌}
use mathlib.Core.List.{List}
use mathlib.Core.Logic.{⊎_elim}
use Prim.Native.Nat.{ℕ, zero, suc, ◌+◌, ◌-◌, ◌*◌, ◌/◌, ◌%◌, ◌^◌, ◌≤◌, ◌<◌}
use native.Mathlib.Omega.{arith}
use native.Mathlib.Decide.{dec_lt, ℕ_discrete}
use borrow.Author.Tests.{lt-ltb, le-ltb, eq-eqb, ne_eqb}
use lib.Dec.{T, eqb, ltb, eqb→eq}
use lib.IntN.{ℤ, pos, negsuc}
use lib.ListN.{length, get_or}
use lib.Seq.{ext_get_or}
use mir.Facts.{T_not-not, or_yes, ltb_yes}
use Rattle.integers.proofs.Tests.{every_at}
use Rattle.eisenstein.specs.Values.{ℤ[ω], value}
use Rattle.eisenstein.specs.Reduction.{bit, mod2}
use Rattle.polynomials.specs.Polynomials.{Polynomial, all}
use Rattle.polynomials.proofs.Members.{all_at, at_all, reduced2_at, at_reduced2}
use Rattle.packing.specs.Messages.{message_bytes, bit_of, pair, packed, spare_bit_set, message_bit, byte, listed, unpacked}
use Rattle.packing.specs.Promises.{Bytes, PackedUnpacks, PackedReduced, UnpackedPacks, UnpackedBytes, UnpackedSpare}

-- ---- lists: their length, and what stands at each place

pub listed_length : (n : ℕ) (f : ℕ → ℕ) → length (listed n f) ≡ n
unfolding listed
listed_length zero f = refl
listed_length (suc n) f = ap suc (listed_length n (λ i. f (suc i)))

pub listed_at : (n : ℕ) (f : ℕ → ℕ) (i : ℕ) → i < n → get_or (listed n f) i 0 ≡ f i
unfolding listed
listed_at zero f i h = absurd (omega arith)
listed_at (suc n) f zero h = refl
listed_at (suc n) f (suc i) h = listed_at n (λ i. f (suc i)) i (omega arith)

pub listed-past : (n : ℕ) (f : ℕ → ℕ) (i : ℕ) → n ≤ i → get_or (listed n f) i 0 ≡ 0
unfolding listed
listed-past zero f i h = refl
listed-past (suc n) f zero h = absurd (omega arith)
listed-past (suc n) f (suc i) h = listed-past n (λ i. f (suc i)) i (omega arith)

-- ---- bits

pub bit_of_lt : (message : List ℕ) (k : ℕ) → bit_of message k < 2
unfolding bit_of
bit_of_lt message k = omega arith

message_bit_lt : (N : ℕ) (m : Polynomial) (k : ℕ) → message_bit N m k < 2
unfolding message_bit bit
message_bit_lt N m k = go (ltb k (2 * N)) (cond (eqb (k % 2) 0) (m (k / 2)).a (m (k / 2)).b)
  where
    go : (c : Bool) (z : ℤ) → cond c (lib.IntN.nat_abs z % 2) 0 < 2
    go true z = omega arith
    go false z = omega arith

-- the eight bits of a byte make it up
bits_of : ℕ → ℕ
bits_of v = 128 * (v / 128 % 2) + 64 * (v / 64 % 2) + 32 * (v / 32 % 2) + 16 * (v / 16 % 2) + 8 * (v / 8 % 2) + 4 * (v / 4 % 2) + 2 * (v / 2 % 2) + v / 1 % 2

bits_make : (v : ℕ) → v < 256 → bits_of v ≡ v
unfolding bits_of
bits_make v h = eqb→eq (bits_of v) v (every_at (λ v. eqb (bits_of v) v) 256 tt v h)

-- and the byte that eight bits make has each of them
module _ (a b c d e f g h : ℕ) (pa : a < 2) (pb : b < 2) (pc : c < 2) (pd : d < 2) (pe : e < 2) (pf : f < 2) (pg : g < 2) (ph : h < 2) where
  at_0 : (128 * a + 64 * b + 32 * c + 16 * d + 8 * e + 4 * f + 2 * g + h) / 128 % 2 ≡ a
  at_0 = omega arith

  at_1 : (128 * a + 64 * b + 32 * c + 16 * d + 8 * e + 4 * f + 2 * g + h) / 64 % 2 ≡ b
  at_1 = omega arith

  at_2 : (128 * a + 64 * b + 32 * c + 16 * d + 8 * e + 4 * f + 2 * g + h) / 32 % 2 ≡ c
  at_2 = omega arith

  at_3 : (128 * a + 64 * b + 32 * c + 16 * d + 8 * e + 4 * f + 2 * g + h) / 16 % 2 ≡ d
  at_3 = omega arith

  at_4 : (128 * a + 64 * b + 32 * c + 16 * d + 8 * e + 4 * f + 2 * g + h) / 8 % 2 ≡ e
  at_4 = omega arith

  at_5 : (128 * a + 64 * b + 32 * c + 16 * d + 8 * e + 4 * f + 2 * g + h) / 4 % 2 ≡ f
  at_5 = omega arith

  at_6 : (128 * a + 64 * b + 32 * c + 16 * d + 8 * e + 4 * f + 2 * g + h) / 2 % 2 ≡ g
  at_6 = omega arith

  at_7 : (128 * a + 64 * b + 32 * c + 16 * d + 8 * e + 4 * f + 2 * g + h) / 1 % 2 ≡ h
  at_7 = omega arith

bit_in : (b : ℕ → ℕ) (j r : ℕ) → ((k : ℕ) → b k < 2) → r < 8 → byte b j / 2 ^ (7 - r) % 2 ≡ b (8 * j + r)
unfolding byte
bit_in b j zero h l = at_0 (b (8 * j)) (b (8 * j + 1)) (b (8 * j + 2)) (b (8 * j + 3)) (b (8 * j + 4)) (b (8 * j + 5)) (b (8 * j + 6)) (b (8 * j + 7)) (h (8 * j)) (h (8 * j + 1)) (h (8 * j + 2)) (h (8 * j + 3)) (h (8 * j + 4)) (h (8 * j + 5)) (h (8 * j + 6)) (h (8 * j + 7)) ∙ ap b {x = 8 * j} {y = 8 * j + 0} (omega arith)
bit_in b j (suc zero) h l = at_1 (b (8 * j)) (b (8 * j + 1)) (b (8 * j + 2)) (b (8 * j + 3)) (b (8 * j + 4)) (b (8 * j + 5)) (b (8 * j + 6)) (b (8 * j + 7)) (h (8 * j)) (h (8 * j + 1)) (h (8 * j + 2)) (h (8 * j + 3)) (h (8 * j + 4)) (h (8 * j + 5)) (h (8 * j + 6)) (h (8 * j + 7))
bit_in b j (suc (suc zero)) h l = at_2 (b (8 * j)) (b (8 * j + 1)) (b (8 * j + 2)) (b (8 * j + 3)) (b (8 * j + 4)) (b (8 * j + 5)) (b (8 * j + 6)) (b (8 * j + 7)) (h (8 * j)) (h (8 * j + 1)) (h (8 * j + 2)) (h (8 * j + 3)) (h (8 * j + 4)) (h (8 * j + 5)) (h (8 * j + 6)) (h (8 * j + 7))
bit_in b j (suc (suc (suc zero))) h l = at_3 (b (8 * j)) (b (8 * j + 1)) (b (8 * j + 2)) (b (8 * j + 3)) (b (8 * j + 4)) (b (8 * j + 5)) (b (8 * j + 6)) (b (8 * j + 7)) (h (8 * j)) (h (8 * j + 1)) (h (8 * j + 2)) (h (8 * j + 3)) (h (8 * j + 4)) (h (8 * j + 5)) (h (8 * j + 6)) (h (8 * j + 7))
bit_in b j (suc (suc (suc (suc zero)))) h l = at_4 (b (8 * j)) (b (8 * j + 1)) (b (8 * j + 2)) (b (8 * j + 3)) (b (8 * j + 4)) (b (8 * j + 5)) (b (8 * j + 6)) (b (8 * j + 7)) (h (8 * j)) (h (8 * j + 1)) (h (8 * j + 2)) (h (8 * j + 3)) (h (8 * j + 4)) (h (8 * j + 5)) (h (8 * j + 6)) (h (8 * j + 7))
bit_in b j (suc (suc (suc (suc (suc zero))))) h l = at_5 (b (8 * j)) (b (8 * j + 1)) (b (8 * j + 2)) (b (8 * j + 3)) (b (8 * j + 4)) (b (8 * j + 5)) (b (8 * j + 6)) (b (8 * j + 7)) (h (8 * j)) (h (8 * j + 1)) (h (8 * j + 2)) (h (8 * j + 3)) (h (8 * j + 4)) (h (8 * j + 5)) (h (8 * j + 6)) (h (8 * j + 7))
bit_in b j (suc (suc (suc (suc (suc (suc zero)))))) h l = at_6 (b (8 * j)) (b (8 * j + 1)) (b (8 * j + 2)) (b (8 * j + 3)) (b (8 * j + 4)) (b (8 * j + 5)) (b (8 * j + 6)) (b (8 * j + 7)) (h (8 * j)) (h (8 * j + 1)) (h (8 * j + 2)) (h (8 * j + 3)) (h (8 * j + 4)) (h (8 * j + 5)) (h (8 * j + 6)) (h (8 * j + 7))
bit_in b j (suc (suc (suc (suc (suc (suc (suc zero))))))) h l = at_7 (b (8 * j)) (b (8 * j + 1)) (b (8 * j + 2)) (b (8 * j + 3)) (b (8 * j + 4)) (b (8 * j + 5)) (b (8 * j + 6)) (b (8 * j + 7)) (h (8 * j)) (h (8 * j + 1)) (h (8 * j + 2)) (h (8 * j + 3)) (h (8 * j + 4)) (h (8 * j + 5)) (h (8 * j + 6)) (h (8 * j + 7))
bit_in b j (suc (suc (suc (suc (suc (suc (suc (suc r)))))))) h l = absurd (omega arith)

byte_lt : (b : ℕ → ℕ) (j : ℕ) → ((k : ℕ) → b k < 2) → byte b j < 256
unfolding byte
byte_lt b j h =
    omega (arith, h (8 * j), h (8 * j + 1), h (8 * j + 2), h (8 * j + 3), h (8 * j + 4), h (8 * j + 5), h (8 * j + 6), h (8 * j + 7))

-- the bits of some bytes, by byte and place
bit_at : (message : List ℕ) (j r k : ℕ) → r < 8 → k ≡ 8 * j + r → bit_of message k ≡ get_or message j 0 / 2 ^ (7 - r) % 2
unfolding bit_of
bit_at message j r k l e =
    let p : k / 8 ≡ j = omega arith in
    let q : k % 8 ≡ r = omega arith in
    ap₂ (λ (u v : ℕ). get_or message u 0 / 2 ^ (7 - v) % 2) p q

pub byte_of_bits : (message : List ℕ) (j : ℕ) → get_or message j 0 < 256 → byte (bit_of message) j ≡ get_or message j 0
unfolding byte bits_of
byte_of_bits message j h =
    omega (arith, bits_make (get_or message j 0) h, bit_at message j 0 (8 * j) (omega arith) (omega arith), bit_at message j 1 (8 * j + 1) (omega arith) refl, bit_at message j 2 (8 * j + 2) (omega arith) refl, bit_at message j 3 (8 * j + 3) (omega arith) refl, bit_at message j 4 (8 * j + 4) (omega arith) refl, bit_at message j 5 (8 * j + 5) (omega arith) refl, bit_at message j 6 (8 * j + 6) (omega arith) refl, bit_at message j 7 (8 * j + 7) (omega arith) refl)

pub byte-same : (b c : ℕ → ℕ) (j n : ℕ) → j < n → ((k : ℕ) → k < 8 * n → b k ≡ c k) → byte b j ≡ byte c j
unfolding byte
byte-same b c j n l h =
    omega (arith, h (8 * j) (omega arith), h (8 * j + 1) (omega arith), h (8 * j + 2) (omega arith), h (8 * j + 3) (omega arith), h (8 * j + 4) (omega arith), h (8 * j + 5) (omega arith), h (8 * j + 6) (omega arith), h (8 * j + 7) (omega arith))

-- ---- bytes that are listed by their bits

pub listed-bit : (n : ℕ) (b : ℕ → ℕ) → ((k : ℕ) → b k < 2) → (k : ℕ) → k < 8 * n → bit_of (listed n (byte b)) k ≡ b k
listed-bit n b h k l =
    bit_at (listed n (byte b)) (k / 8) (k % 8) k (omega arith) (omega arith)
    ∙ ap (λ (v : ℕ). v / 2 ^ (7 - k % 8) % 2) (listed_at n (byte b) (k / 8) (omega arith))
    ∙ bit_in b (k / 8) (k % 8) h (omega arith)
    ∙ ap b {x = 8 * (k / 8) + k % 8} {y = k} (omega arith)

pub listed_bytes : (n : ℕ) (b : ℕ → ℕ) → ((k : ℕ) → b k < 2) → Bytes (listed n (byte b))
listed_bytes n b h i = go (dec_lt i n)
  where
    go : Dec (i < n) → get_or (listed n (byte b)) i 0 < 256
    go (yes l) = subst (λ (v : ℕ). v < 256) (sym (listed_at n (byte b) i l)) (byte_lt b i h)
    go (no l) = subst (λ (v : ℕ). v < 256) (sym (listed-past n (byte b) i (omega arith))) (omega arith)

-- bytes are those of their bits
pub listed-is : (n : ℕ) (b : ℕ → ℕ) (message : List ℕ) → Bytes message → length message ≡ n → ((k : ℕ) → k < 8 * n → b k ≡ bit_of message k) → listed n (byte b) ≡ message
listed-is n b message bytes len bits = ext_get_or 0 (listed n (byte b)) message (listed_length n (byte b) ∙ sym len) at
  where
    at : (i : ℕ) → i < length (listed n (byte b)) → get_or (listed n (byte b)) i 0 ≡ get_or message i 0
    at i l =
        let m : i < n = omega (arith, listed_length n (byte b)) in
        listed_at n (byte b) i m ∙ byte-same b (bit_of message) i n m bits ∙ byte_of_bits message i (bytes i)

-- ---- pairs

pair-mod2 : (x : ℤ[ω]) → pair (bit x.a) (bit x.b) ≡ mod2 x
unfolding pair mod2
pair-mod2 x = refl

-- a pair's bits, of two numbers below 2
pub pair_bits : (a b : ℕ) → a < 2 → b < 2 → (bit (pair a b).a ≡ a) × (bit (pair a b).b ≡ b)
unfolding pair bit
pair_bits zero zero p q = (refl, refl)
pair_bits zero (suc zero) p q = (refl, refl)
pair_bits zero (suc (suc b)) p q = absurd (omega arith)
pair_bits (suc zero) zero p q = (refl, refl)
pair_bits (suc zero) (suc zero) p q = (refl, refl)
pair_bits (suc zero) (suc (suc b)) p q = absurd (omega arith)
pair_bits (suc (suc a)) b p q = absurd (omega arith)

pair_reduced : (a b : ℕ) → a < 2 → b < 2 → mod2 (pair a b) ≡ pair a b
pair_reduced a b p q =
    sym (pair-mod2 (pair a b)) ∙ ap₂ pair (pair_bits a b p q).0 (pair_bits a b p q).1

pub packed_reduced : PackedReduced
unfolding packed
packed_reduced N message =
    at_reduced2 N (packed message) (λ i l. pair_reduced (bit_of message (2 * i)) (bit_of message (2 * i + 1)) (bit_of_lt message (2 * i)) (bit_of_lt message (2 * i + 1)))

-- bit k of what is packed
packed-bit : (N : ℕ) (message : List ℕ) (k : ℕ) → k < 2 * N → message_bit N (packed message) k ≡ bit_of message k
unfolding message_bit packed
packed-bit N message k l =
    ap (λ (c : Bool). cond c (bit (cond (eqb (k % 2) 0) (packed message (k / 2)).a (packed message (k / 2)).b)) 0) (lt-ltb k (2 * N) l)
    ∙ by_place (ℕ_discrete (k % 2) 0)
  where
    bits : (bit (packed message (k / 2)).a ≡ bit_of message (2 * (k / 2))) × (bit (packed message (k / 2)).b ≡ bit_of message (2 * (k / 2) + 1))
    bits = pair_bits (bit_of message (2 * (k / 2))) (bit_of message (2 * (k / 2) + 1)) (bit_of_lt message (2 * (k / 2))) (bit_of_lt message (2 * (k / 2) + 1))

    by_place : Dec (k % 2 ≡ 0) → bit (cond (eqb (k % 2) 0) (packed message (k / 2)).a (packed message (k / 2)).b) ≡ bit_of message k
    by_place (yes e) =
        ap (λ (c : Bool). bit (cond c (packed message (k / 2)).a (packed message (k / 2)).b)) (eq-eqb (k % 2) 0 e)
        ∙ bits.0
        ∙ ap (bit_of message) {x = 2 * (k / 2)} {y = k} (omega arith)
    by_place (no e) =
        ap (λ (c : Bool). bit (cond c (packed message (k / 2)).a (packed message (k / 2)).b)) (ne_eqb (k % 2) 0 e)
        ∙ bits.1
        ∙ ap (bit_of message) {x = 2 * (k / 2) + 1} {y = k} (omega arith)

pub past-bit : (N : ℕ) (m : Polynomial) (k : ℕ) → 2 * N ≤ k → message_bit N m k ≡ 0
unfolding message_bit
past-bit N m k l =
    ap (λ (c : Bool). cond c (bit (cond (eqb (k % 2) 0) (m (k / 2)).a (m (k / 2)).b)) 0) (le-ltb k (2 * N) l)

pub spare_zero : (N : ℕ) (message : List ℕ) → T (not (spare_bit_set N message)) → (k : ℕ) → k < 8 * message_bytes N → 2 * N ≤ k → bit_of message k ≡ 0
unfolding spare_bit_set
spare_zero N message t k l p =
    ⊎_elim (λ u. absurd (let v : k < 2 * N = ltb_yes u in omega arith)) (λ u. eqb→eq (bit_of message k) 0 u)
    (or_yes (ltb k (2 * N)) (eqb (bit_of message k) 0)
    (all_at (8 * message_bytes N) (λ k. ltb k (2 * N) || eqb (bit_of message k) 0) (T_not-not (all (8 * message_bytes N) (λ k. ltb k (2 * N) || eqb (bit_of message k) 0)) t) k l))

pub packed_unpacks : PackedUnpacks
unfolding unpacked
packed_unpacks N message bytes len spare = listed-is (message_bytes N) (message_bit N (packed message)) message bytes len bits
  where
    bits : (k : ℕ) → k < 8 * message_bytes N → message_bit N (packed message) k ≡ bit_of message k
    bits k l = go (dec_lt k (2 * N))
      where
        go : Dec (k < 2 * N) → message_bit N (packed message) k ≡ bit_of message k
        go (yes p) = packed-bit N message k p
        go (no p) = past-bit N (packed message) k (omega arith) ∙ sym (spare_zero N message spare k l (omega arith))

-- ---- the other way

unpacked-bit : (N : ℕ) (m : Polynomial) (k : ℕ) → k < 8 * message_bytes N → bit_of (unpacked N m) k ≡ message_bit N m k
unfolding unpacked
unpacked-bit N m k l = listed-bit (message_bytes N) (message_bit N m) (message_bit_lt N m) k l

first_bit : (N : ℕ) (m : Polynomial) (i : ℕ) → i < N → message_bit N m (2 * i) ≡ bit (m i).a
unfolding message_bit
first_bit N m i l =
    let p : 2 * i % 2 ≡ 0 = omega arith in
    let q : 2 * i / 2 ≡ i = omega arith in
    ap₂ (λ (c e : Bool). cond c (bit (cond e (m (2 * i / 2)).a (m (2 * i / 2)).b)) 0) (lt-ltb (2 * i) (2 * N) (omega arith)) (eq-eqb (2 * i % 2) 0 p)
    ∙ ap (λ (k : ℕ). bit (m k).a) q

second_bit : (N : ℕ) (m : Polynomial) (i : ℕ) → i < N → message_bit N m (2 * i + 1) ≡ bit (m i).b
unfolding message_bit
second_bit N m i l =
    let q : (2 * i + 1) / 2 ≡ i = omega arith in
    ap₂ (λ (c e : Bool). cond c (bit (cond e (m ((2 * i + 1) / 2)).a (m ((2 * i + 1) / 2)).b)) 0) (lt-ltb (2 * i + 1) (2 * N) (omega arith)) (ne_eqb ((2 * i + 1) % 2) 0 (λ e. omega arith))
    ∙ ap (λ (k : ℕ). bit (m k).b) q

pub unpacked_packs : UnpackedPacks
unfolding packed
unpacked_packs N m red i l =
    ap₂ pair (unpacked-bit N m (2 * i) (omega arith) ∙ first_bit N m i l) (unpacked-bit N m (2 * i + 1) (omega arith) ∙ second_bit N m i l)
    ∙ pair-mod2 (m i)
    ∙ reduced2_at N m red i l

pub unpacked_bytes : UnpackedBytes
unfolding unpacked
unpacked_bytes N m = listed_bytes (message_bytes N) (message_bit N m) (message_bit_lt N m)

pub unpacked_length : (N : ℕ) (m : Polynomial) → length (unpacked N m) ≡ message_bytes N
unfolding unpacked
unpacked_length N m = listed_length (message_bytes N) (byte (message_bit N m))

-- no spare bit is set where all of them are 0
pub zero_spare : (N : ℕ) (message : List ℕ) → ((k : ℕ) → k < 8 * message_bytes N → 2 * N ≤ k → bit_of message k ≡ 0) → T (not (spare_bit_set N message))
unfolding spare_bit_set
zero_spare N message h = double_not (all (8 * message_bytes N) (λ k. ltb k (2 * N) || eqb (bit_of message k) 0)) (at_all (8 * message_bytes N) (λ k. ltb k (2 * N) || eqb (bit_of message k) 0) at)
  where
    double_not : (t : Bool) → T t → T (not (not t))
    double_not true h = h
    double_not false h = h

    at : (k : ℕ) → k < 8 * message_bytes N → T (ltb k (2 * N) || eqb (bit_of message k) 0)
    at k l = go (dec_lt k (2 * N))
      where
        go : Dec (k < 2 * N) → T (ltb k (2 * N) || eqb (bit_of message k) 0)
        go (yes p) = subst (λ (t : Bool). T (t || eqb (bit_of message k) 0)) (sym (lt-ltb k (2 * N) p)) tt
        go (no p) =
            subst (λ (t : Bool). T (t || eqb (bit_of message k) 0)) (sym (le-ltb k (2 * N) (omega arith)))
            (subst T (sym (eq-eqb (bit_of message k) 0 (h k l (omega arith)))) tt)

pub unpacked_spare : UnpackedSpare
unpacked_spare N m = zero_spare N (unpacked N m) (λ k l p. unpacked-bit N m k l ∙ past-bit N m k p)

-- what is unpacked depends on the first N coefficients alone
message_bit-same : (N : ℕ) {m m' : Polynomial} → ((i : ℕ) → i < N → m i ≡ m' i) → (k : ℕ) → message_bit N m k ≡ message_bit N m' k
unfolding message_bit
message_bit-same N {m} {m'} h k = go (dec_lt k (2 * N))
  where
    part : Polynomial → ℤ
    part m = cond (eqb (k % 2) 0) (m (k / 2)).a (m (k / 2)).b

    go : Dec (k < 2 * N) → cond (ltb k (2 * N)) (bit (part m)) 0 ≡ cond (ltb k (2 * N)) (bit (part m')) 0
    go (yes l) = ap (λ (x : ℤ[ω]). cond (ltb k (2 * N)) (bit (cond (eqb (k % 2) 0) x.a x.b)) 0) (h (k / 2) (omega arith))
    go (no l) =
        ap (λ (c : Bool). cond c (bit (part m)) 0) (le-ltb k (2 * N) (omega arith))
        ∙ sym (ap (λ (c : Bool). cond c (bit (part m')) 0) (le-ltb k (2 * N) (omega arith)))

pub unpacked-same : (N : ℕ) {m m' : Polynomial} → ((i : ℕ) → i < N → m i ≡ m' i) → unpacked N m ≡ unpacked N m'
unfolding unpacked
unpacked-same N {m} {m'} h =
    ext_get_or 0 (unpacked N m) (unpacked N m') (unpacked_length N m ∙ sym (unpacked_length N m')) at
  where
    at : (i : ℕ) → i < length (unpacked N m) → get_or (unpacked N m) i 0 ≡ get_or (unpacked N m') i 0
    at i l =
        let p : i < message_bytes N = omega (arith, unpacked_length N m) in
        listed_at (message_bytes N) (byte (message_bit N m)) i p
        ∙ byte-same (message_bit N m) (message_bit N m') i (message_bytes N) p (λ k q. message_bit-same N h k)
        ∙ sym (listed_at (message_bytes N) (byte (message_bit N m')) i p)

-- ---- for the code: a pair that is not 11, and 11

pub pair_11 : (a b : ℕ) → a ≡ 1 → b ≡ 1 → pair a b ≡ value (negsuc 0) (negsuc 0)
unfolding pair
pair_11 a b e f = ap₂ (λ (u v : ℕ). cond (eqb u 1 && eqb v 1) (value (negsuc 0) (negsuc 0)) (value (pos u) (pos v))) e f

pub pair_other : (a b : ℕ) → a < 2 → b < 2 → (a + b ≡ 2 → ⊥) → pair a b ≡ value (pos a) (pos b)
unfolding pair
pair_other zero zero p q h = refl
pair_other zero (suc zero) p q h = refl
pair_other zero (suc (suc b)) p q h = absurd (omega arith)
pair_other (suc zero) zero p q h = refl
pair_other (suc zero) (suc zero) p q h = absurd (h refl)
pair_other (suc zero) (suc (suc b)) p q h = absurd (omega arith)
pair_other (suc (suc a)) b p q h = absurd (omega arith)

-- a test that does not hold
pub is_unset : (t : Bool) → T (not t) → t ≡ false
is_unset true h = absurd h
is_unset false h = refl
