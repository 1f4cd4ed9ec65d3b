-- Absolute values: bounds on `nat_abs` of sums, differences and products, and squares.
-- One use: `natAbs-+ a b : nat_abs (a +ℤ b) ≤ nat_abs a + nat_abs b`.
use mathlib.Core.Path.{◌≡◌, refl, sym, ap}
use Prim.Native.Nat.{ℕ, zero, suc, ◌+◌, ◌*◌, ◌≤◌, ◌<◌}
use native.Mathlib.Omega.{arith}
use native.Mathlib.Decide.{dec_le}
use native.Mathlib.Nat.{mul-lt-mul_of_pos_left, lt_of_le_of_lt, mul-le-mul_right}
use borrow.Author.Tests.{le-ltb}
use lib.Dec.{ltb}
use lib.Signed.{lt_z, ◌<ℤ◌, ◌≤ℤ◌}
use lib.IntN.{ℤ, pos, negsuc, neg_ℤ, nat_abs, ◌+ℤ◌, ◌-ℤ◌, ◌*ℤ◌}
use Rattle.integers.proofs.Order.{above, below, orders, parts-+, parts--, above_pos, below_pos, nat_abs_parts}

pub nat_abs_neg : (z : ℤ) → nat_abs (neg_ℤ z) ≡ nat_abs z
nat_abs_neg (pos zero) = refl
nat_abs_neg (pos (suc n)) = refl
nat_abs_neg (negsuc n) = refl

-- the difference of two natural numbers is at most their sum
at_most_sum : (z : ℤ) (m n : ℕ) → above z + n ≡ below z + m → nat_abs z ≤ m + n
unfolding above below
at_most_sum (pos k) m n h = omega arith
at_most_sum (negsuc k) m n h = omega arith

pub natAbs-+ : (a b : ℤ) → nat_abs (a +ℤ b) ≤ nat_abs a + nat_abs b
natAbs-+ a b =
    omega (arith, at_most_sum (a +ℤ b) (above a + above b) (below a + below b) (parts-+ a b), nat_abs_parts a, nat_abs_parts b)

pub natAbs-- : (a b : ℤ) → nat_abs (a -ℤ b) ≤ nat_abs a + nat_abs b
natAbs-- a b = omega (arith, natAbs-+ a (neg_ℤ b), nat_abs_neg b)

pub natAbs-* : (a b : ℤ) → nat_abs (a *ℤ b) ≡ nat_abs a * nat_abs b
natAbs-* (pos a) (pos b) = refl
natAbs-* (pos a) (negsuc b) = nat_abs_neg (pos (a * suc b))
natAbs-* (negsuc a) (pos b) = nat_abs_neg (pos (suc a * b))
natAbs-* (negsuc a) (negsuc b) = refl

pub square : (z : ℤ) → z *ℤ z ≡ pos (nat_abs z * nat_abs z)
square (pos n) = refl
square (negsuc n) = refl

pub nat_abs_zero : (z : ℤ) → nat_abs z ≡ 0 → z ≡ pos 0
nat_abs_zero (pos n) h = ap pos h
nat_abs_zero (negsuc n) h = absurd (bad n h)
  where
    bad : (n : ℕ) → suc n ≡ 0 → ⊥
    bad n h = omega arith

-- ---- a number outside of −l to l

pub outside_low : (x l : ℤ) → pos 0 <ℤ l → x <ℤ (pos 0 -ℤ l) → nat_abs l < nat_abs x
outside_low x (negsuc m) p h = absurd p.lt
outside_low x (pos m) p h = omega (arith, orders, parts-- (pos 0) (pos m), above_pos 0, below_pos 0, above_pos m, below_pos m, nat_abs_parts x)

pub outside_high : (x l : ℤ) → pos 0 <ℤ l → (pos 0 -ℤ l) ≤ℤ x → lt_z l x ≡ ltb (nat_abs l) (nat_abs x)
unfolding above below
outside_high x (negsuc m) p h = absurd p.lt
outside_high (pos a) (pos m) p h = refl
outside_high (negsuc a) (pos m) p h =
    sym (le-ltb m (suc a) (omega (arith, orders, parts-- (pos 0) (pos m), above_pos 0, below_pos 0, above_pos m, below_pos m)))

-- ---- squares of natural numbers

pub square_le : {a b : ℕ} → a * a ≤ b * b → a ≤ b
square_le {a} {b} h = go (dec_le a b)
  where
    smaller : b < a → b * b < a * a
    smaller l = lt_of_le_of_lt (mul-le-mul_right b (omega arith)) (mul-lt-mul_of_pos_left {m = b} {n = a} {k = a} l (omega arith))

    go : Dec (a ≤ b) → a ≤ b
    go (yes l) = l
    go (no l) = absurd (let s : b * b < a * a = smaller (omega arith) in omega arith)

pub square_zero : {a : ℕ} → a * a ≡ 0 → a ≡ 0
square_zero {a} h = let l : a ≤ 0 = square_le (omega arith) in omega arith
