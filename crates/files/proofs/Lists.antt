-- Lists of signed 16-bit numbers, and their bytes.
use mathlib.Core.Path.{◌≡◌, refl, ◌∙◌, ap, ap₂}
use mathlib.Core.List.{List, [], ◌∷◌, ◌++◌, append-nil}
use Prim.Native.Nat.{ℕ, zero, suc, ◌+◌, ◌-◌, ◌*◌, ◌/◌, ◌%◌, ◌<◌}
use native.Mathlib.Omega.{arith}
use lib.IntN.{ℤ, pos}
use lib.ListN.{length, get_or, take, drop, length-drop, drop_of_length-le}
use lib.Seq.{take_all, take_at}
use Rattle.parameters.specs.Sets.{ParameterSet}
use Rattle.packing.specs.Promises.{Bytes}
use Rattle.arrays.specs.Arrays.{Small}
use Rattle.heads.specs.Heads.{bytes16, number16, bits16, signed16}
use Rattle.files.specs.Files.{numbers_from, array_at, bytes_of}
use Rattle.heads.proofs.Numbers.{Fits16, fits_small, signed_bits, bits_signed, number_bytes, bytes_number, number_lt}

-- ---- one number, by its place

pub numbers_at : (l : List ℕ) (i : ℕ) → 2 * i + 1 < length l → get_or (numbers_from l) i (pos 0) ≡ signed16 (number16 (get_or l (2 * i) 0) (get_or l (2 * i + 1) 0))
unfolding numbers_from
numbers_at [] i h = absurd (omega arith)
numbers_at (high ∷ []) i h = absurd (omega arith)
numbers_at (high ∷ low ∷ l) zero h = refl
numbers_at (high ∷ low ∷ l) (suc i) h =
    let e : suc (suc (2 * i)) ≡ 2 * suc i = omega arith in
    let f : suc (suc (2 * i + 1)) ≡ 2 * suc i + 1 = omega arith in
    numbers_at l i (omega arith) ∙ ap₂ (λ (j k : ℕ). signed16 (number16 (get_or (high ∷ low ∷ l) j 0) (get_or (high ∷ low ∷ l) k 0))) e f

-- ---- the rest of a list from place n on, as it is lent

pub rest_taken : (n : ℕ) (l : List ℕ) → take (length l - n) (drop n l) ≡ drop n l
rest_taken n l = take_all (length l - n) (drop n l) (omega (arith, length-drop n l))

-- what stands in front, with other bytes behind it
pub put_behind : (n : ℕ) (front rest file new : List ℕ) → length front ≡ n → file ≡ front ++ rest → take n file ++ (new ++ drop (length file - n) (drop n file)) ≡ front ++ new
put_behind n front rest file new h e =
    ap₂ ◌++◌ (ap (take n) e ∙ take_at front rest n h)
    (ap (λ (l : List ℕ). new ++ l) (drop_of_length-le (drop n file) {i = length file - n} (omega (arith, length-drop n file))) ∙ append-nil new)

-- ---- lengths

pub bytes_length : (l : List ℤ) → length (bytes_of l) ≡ 2 * length l
unfolding bytes_of bytes16
bytes_length [] = refl
bytes_length (z ∷ l) = omega (arith, bytes_length l)

pub numbers_length : (l : List ℕ) → length (numbers_from l) ≡ length l / 2
unfolding numbers_from
numbers_length [] = refl
numbers_length (high ∷ []) = refl
numbers_length (high ∷ low ∷ l) = omega (arith, numbers_length l)

-- ---- parts

two_more : (k : ℕ) → 2 * suc k ≡ suc (suc (2 * k))
two_more k = omega arith

pub numbers_drop : (k : ℕ) (l : List ℕ) → numbers_from (drop (2 * k) l) ≡ drop k (numbers_from l)
unfolding numbers_from
numbers_drop zero l = refl
numbers_drop (suc k) [] = rw two_more
numbers_drop (suc k) (high ∷ []) = rw two_more
numbers_drop (suc k) (high ∷ low ∷ l) = rw two_more (numbers_drop k l)

pub numbers_take : (k : ℕ) (l : List ℕ) → numbers_from (take (2 * k) l) ≡ take k (numbers_from l)
unfolding numbers_from
numbers_take zero l = refl
numbers_take (suc k) [] = rw two_more
numbers_take (suc k) (high ∷ []) = rw two_more
numbers_take (suc k) (high ∷ low ∷ l) = rw two_more (ap (λ (r : List ℤ). signed16 (number16 high low) ∷ r) (numbers_take k l))

-- array k of the numbers, by its bytes
pub array_numbers : (p : ParameterSet) (k : ℕ) (bytes : List ℕ) (n from : ℕ) → n ≡ 4 * p.N → from ≡ 4 * p.N * k → numbers_from (take n (drop from bytes)) ≡ array_at p k (numbers_from bytes)
unfolding array_at
array_numbers p k bytes n from e f =
    let e' : n ≡ 2 * (2 * p.N) = omega arith in
    let f' : from ≡ 2 * (2 * p.N * k) = omega arith in
    rw (e', f', numbers_take, numbers_drop)

-- ---- both ways

-- each number of a list fits in 16 bits
abbrev pub Fitting : List ℤ → Type 0
Fitting l = (k : ℕ) → Fits16 (get_or l k (pos 0))

pub numbers_of_bytes : (l : List ℤ) → Fitting l → numbers_from (bytes_of l) ≡ l
unfolding numbers_from bytes_of bytes16
numbers_of_bytes [] f = refl
numbers_of_bytes (z ∷ l) f =
    ap₂ (λ (x : ℤ) (r : List ℤ). x ∷ r) (ap signed16 (number_bytes (bits16 z)) ∙ signed_bits (f 0)) (numbers_of_bytes l (λ k. f (suc k)))

pub bytes_of_numbers : (l : List ℕ) → Bytes l → length l % 2 ≡ 0 → bytes_of (numbers_from l) ≡ l
unfolding numbers_from bytes_of
bytes_of_numbers [] b e = refl
bytes_of_numbers (high ∷ []) b e = absurd (omega arith)
bytes_of_numbers (high ∷ low ∷ l) b e =
    ap₂ ◌++◌ (ap bytes16 (bits_signed (number_lt (b 0) (b 1))) ∙ bytes_number high low (b 1)) (bytes_of_numbers l (λ k. b (suc (suc k))) (omega arith))

-- ---- small numbers fit

pub fitting_small : (l : List ℤ) → Small l → Fitting l
fitting_small l h k = fits_small (get_or l k (pos 0)) (h k)
