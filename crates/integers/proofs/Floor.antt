-- Division of an integer by a natural number, rounded down: `shr_z` of `lib.Signed`, with the remainder that it leaves.
-- One use: `floor z n h : z ≡ (pos n *ℤ shr_z z n) +ℤ pos (floor_rest z n)`, for 0 < n.
use mathlib.Core.Path.{◌≡◌, refl, sym, ◌∙◌, ap}
use Prim.Native.Nat.{ℕ, zero, suc, ◌+◌, ◌-◌, ◌*◌, ◌/◌, ◌%◌, ◌≤◌, ◌<◌}
use native.Mathlib.Omega.{arith}
use native.Mathlib.Nat.{div-add-mod, mod-lt, mul-suc, mul_comm, mul-le-mul_left}
use lib.Dec.{ltb→lt}
use lib.IntN.{ℤ, pos, negsuc, neg_ℤ, nat_abs, ◌+ℤ◌, ◌-ℤ◌, ◌*ℤ◌, +ℤ_comm, -ℤ_one}
use lib.Signed.{shr_z, quot_z, ◌<ℤ◌, ◌≤ℤ◌}
use Rattle.integers.proofs.Ring.{ring, ◌⊜◌, ◌⊕◌, ⊖◌}
use Rattle.integers.proofs.Absolute.{natAbs-*}

unfoldable pub floor_rest : ℤ → ℕ → ℕ
floor_rest (pos a) n = a % n
floor_rest (negsuc a) n = n - suc (a % n)

pub floor_rest_lt : (z : ℤ) (n : ℕ) → 0 < n → floor_rest z n < n
unfolding floor_rest
floor_rest_lt (pos a) n h = mod-lt a h
floor_rest_lt (negsuc a) n h = omega arith

-- −(s + r) + r is −s
less_rest : (s r : ℤ) → (neg_ℤ (s +ℤ r)) +ℤ r ≡ neg_ℤ s
less_rest = ring 2 (λ s r. ⊖ (s ⊕ r) ⊕ r ⊜ ⊖ s) tt

pub floor : (z : ℤ) (n : ℕ) → 0 < n → z ≡ (pos n *ℤ shr_z z n) +ℤ pos (floor_rest z n)
unfolding floor_rest
floor (pos a) n h = ap pos (sym (div-add-mod a n))
floor (negsuc a) n h =
    sym (ap (λ (m : ℕ). neg_ℤ (pos m) +ℤ pos (n - suc (a % n))) whole ∙ less_rest (pos (suc a)) (pos (n - suc (a % n))))
  where
    whole : n * suc (a / n) ≡ suc a + (n - suc (a % n))
    whole = omega (arith, mul-suc n (a / n), div-add-mod a n, mod-lt a h)

-- the quotient times a number no larger than the divisor is hardly larger than the dividend
pub shr_z_times : (x y : ℤ) {n : ℕ} → nat_abs y ≤ n → nat_abs (shr_z x n *ℤ y) ≤ nat_abs x + n
shr_z_times x y {n} h = omega (arith, natAbs-* (shr_z x n) y, mul-le-mul_left (nat_abs (shr_z x n)) h, whole x)
  where
    whole : (x : ℤ) → nat_abs (shr_z x n) * n ≤ nat_abs x + n
    whole (pos a) = omega (arith, div-add-mod a n, mul_comm (a / n) n)
    whole (negsuc a) = omega (arith, div-add-mod a n, mul_comm (suc (a / n)) n, mul-suc n (a / n))

-- ---- the quotient rounded down, from the machine's, which is rounded towards 0

pub quotient_negative : (x n : ℤ) → x <ℤ pos 0 → pos 0 <ℤ n → negsuc 0 -ℤ quot_z (negsuc 0 -ℤ x) n ≡ shr_z x (nat_abs n)
quotient_negative (pos a) n h k = absurd (omega (arith, ltb→lt a 0 h.lt))
quotient_negative (negsuc a) (negsuc m) h k = absurd k.lt
quotient_negative (negsuc a) (pos m) h k =
    ap (λ (v : ℤ). negsuc 0 -ℤ quot_z v (pos m)) (+ℤ_comm (negsuc 0) (pos (suc a)) ∙ -ℤ_one (pos (suc a))) ∙ below_one (a / m)
  where
    below_one : (k : ℕ) → negsuc 0 -ℤ pos k ≡ negsuc k
    below_one zero = refl
    below_one (suc k) = ap negsuc (omega arith)

pub quotient_natural : (x n : ℤ) → pos 0 ≤ℤ x → pos 0 <ℤ n → quot_z x n ≡ shr_z x (nat_abs n)
quotient_natural (pos a) (pos m) h k = refl
quotient_natural (pos a) (negsuc m) h k = absurd k.lt
quotient_natural (negsuc a) n h k = absurd h.le
