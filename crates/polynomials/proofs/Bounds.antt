-- Bounds on norms, for every N and with no square root: a value is within B if its norm is at most B². Sums add their bounds, so a convolution with an operand of t units is within t times a bound of the other.
use mathlib.Core.Path.{◌≡◌, sym, ◌∙◌, ap, ap₂, subst}
use mathlib.Core.Bool.{Bool, true, false, cond}
use Prim.Native.Nat.{ℕ, zero, suc, ◌+◌, ◌*◌, ◌≤◌, ◌<◌}
use native.Mathlib.Omega.{arith}
use native.Mathlib.Nat.{mul-le-mul, add-mul, zero-mul, one-mul}
use lib.IntN.{ℤ, pos, nat_abs, ◌+ℤ◌, ◌-ℤ◌, ◌*ℤ◌}
use Rattle.integers.proofs.Ring.{ring, con, ◌⊕◌, ◌⊝◌, ◌⊗◌, ◌⊜◌}
use Rattle.integers.proofs.Absolute.{square, square_le, natAbs-+}
use Rattle.eisenstein.specs.Values.{ℤ[ω], 𝟘, norm, ◌+ω◌, ◌*ω◌}
use Rattle.polynomials.specs.Polynomials.{count}
use Rattle.polynomials.proofs.Sums.{total}
use Rattle.polynomials.proofs.Eisenstein as Z
use Rattle.eisenstein.proofs.Norms.{norm_form, norm-*}

pub record Within (b : ℕ) (x : ℤ[ω]) : Type 0 where
  pub within : norm x ≤ b * b

-- ---- sums: the cross term T of two values has T² ≤ 4·norm x·norm y

abbrev cross : ℤ → ℤ → ℤ → ℤ → ℤ
cross a b c d = (((pos 2 *ℤ (a *ℤ c)) +ℤ (pos 2 *ℤ (b *ℤ d))) -ℤ (a *ℤ d)) -ℤ (b *ℤ c)

-- norm (x + y) = norm x + norm y + T
form_sum : (a b c d : ℤ) → (((a +ℤ c) *ℤ (a +ℤ c)) -ℤ ((a +ℤ c) *ℤ (b +ℤ d))) +ℤ ((b +ℤ d) *ℤ (b +ℤ d)) ≡ ((((a *ℤ a) -ℤ (a *ℤ b)) +ℤ (b *ℤ b)) +ℤ (((c *ℤ c) -ℤ (c *ℤ d)) +ℤ (d *ℤ d))) +ℤ cross a b c d
form_sum =
    ring 4
    (λ a b c d. (a ⊕ c) ⊗ (a ⊕ c) ⊝ (a ⊕ c) ⊗ (b ⊕ d) ⊕ (b ⊕ d) ⊗ (b ⊕ d) ⊜ (a ⊗ a ⊝ a ⊗ b ⊕ b ⊗ b) ⊕ (c ⊗ c ⊝ c ⊗ d ⊕ d ⊗ d) ⊕ (con (pos 2) ⊗ (a ⊗ c) ⊕ con (pos 2) ⊗ (b ⊗ d) ⊝ a ⊗ d ⊝ b ⊗ c))
    tt

-- 4·norm x·norm y = T² + 3·(ad − bc)²
form_gram : (a b c d : ℤ) → pos 4 *ℤ ((((a *ℤ a) -ℤ (a *ℤ b)) +ℤ (b *ℤ b)) *ℤ (((c *ℤ c) -ℤ (c *ℤ d)) +ℤ (d *ℤ d))) ≡ (cross a b c d *ℤ cross a b c d) +ℤ (pos 3 *ℤ (((a *ℤ d) -ℤ (b *ℤ c)) *ℤ ((a *ℤ d) -ℤ (b *ℤ c))))
form_gram =
    ring 4
    (λ a b c d. let t = con (pos 2) ⊗ (a ⊗ c) ⊕ con (pos 2) ⊗ (b ⊗ d) ⊝ a ⊗ d ⊝ b ⊗ c in let e = a ⊗ d ⊝ b ⊗ c in con (pos 4) ⊗ ((a ⊗ a ⊝ a ⊗ b ⊕ b ⊗ b) ⊗ (c ⊗ c ⊝ c ⊗ d ⊕ d ⊗ d)) ⊜ t ⊗ t ⊕ con (pos 3) ⊗ (e ⊗ e))
    tt

pub within_add : (m n : ℕ) {x y : ℤ[ω]} → Within m x → Within n y → Within (m + n) (x +ω y)
unfolding ◌+ω◌
within_add m n {x} {y} p q = record { within = omega (arith, sum-norm, cross_bound, expand) }
  where
    t : ℤ
    t = cross x.a x.b y.a y.b

    e : ℤ
    e = (x.a *ℤ y.b) -ℤ (x.b *ℤ y.a)

    gram : 4 * (norm x * norm y) ≡ nat_abs t * nat_abs t + 3 * (nat_abs e * nat_abs e)
    gram =
        ap nat_abs
        (sym (ap (λ (z : ℤ). pos 4 *ℤ z) (ap₂ ◌*ℤ◌ (norm_form x) (norm_form y)))
        ∙ form_gram x.a x.b y.a y.b
        ∙ ap₂ (λ (u v : ℤ). u +ℤ (pos 3 *ℤ v)) (square t) (square e))

    product : (2 * (m * n)) * (2 * (m * n)) ≡ 4 * ((m * m) * (n * n))
    product = ap nat_abs (ring 2 (λ m n. (con (pos 2) ⊗ (m ⊗ n)) ⊗ (con (pos 2) ⊗ (m ⊗ n)) ⊜ con (pos 4) ⊗ ((m ⊗ m) ⊗ (n ⊗ n))) tt (pos m) (pos n))

    cross_bound : nat_abs t ≤ 2 * (m * n)
    cross_bound = square_le (omega (arith, gram, product, mul-le-mul p.within q.within))

    -- the norm of the sum
    sum-norm : norm (x +ω y) ≤ norm x + norm y + nat_abs t
    sum-norm =
        omega (arith, ap nat_abs (sym (norm_form (x +ω y)) ∙ form_sum x.a x.b y.a y.b ∙ ap₂ (λ (u v : ℤ). (u +ℤ v) +ℤ t) (norm_form x) (norm_form y)), natAbs-+ (pos (norm x) +ℤ pos (norm y)) t)

    expand : (m + n) * (m + n) ≡ m * m + n * n + 2 * (m * n)
    expand = ap nat_abs (ring 2 (λ m n. (m ⊕ n) ⊗ (m ⊕ n) ⊜ m ⊗ m ⊕ n ⊗ n ⊕ con (pos 2) ⊗ (m ⊗ n)) tt (pos m) (pos n))

pub within_mul : (m n : ℕ) {x y : ℤ[ω]} → Within m x → Within n y → Within (m * n) (x *ω y)
within_mul m n {x} {y} p q =
    record { within = omega (arith, norm-* x y, mul-le-mul p.within q.within, regroup) }
  where
    regroup : (m * n) * (m * n) ≡ (m * m) * (n * n)
    regroup = ap nat_abs (ring 2 (λ m n. (m ⊗ n) ⊗ (m ⊗ n) ⊜ (m ⊗ m) ⊗ (n ⊗ n)) tt (pos m) (pos n))

-- ---- sums by weights: a term where the test holds is within b, any other is zero

pub within_zero : Within 0 𝟘
unfolding norm
within_zero = record { within = omega arith }

pub within_total : (n b : ℕ) (t : ℕ → Bool) (f : ℕ → ℤ[ω]) → ((i : ℕ) → i < n → Within (cond (t i) b 0) (f i)) → Within (count n t * b) (total Z.ring n f)
unfolding total count
within_total zero b t f h = subst (λ (m : ℕ). Within m 𝟘) (sym (zero-mul b)) within_zero
within_total (suc n) b t f h =
    subst (λ (m : ℕ). Within m (total Z.ring (suc n) f)) (step (t n))
    (within_add (count n t * b) (cond (t n) b 0) (within_total n b t f (λ i l. h i (omega arith))) (h n (omega arith)))
  where
    step : (u : Bool) → count n t * b + cond u b 0 ≡ (count n t + cond u 1 0) * b
    step true = omega (arith, add-mul (count n t) 1 b, one-mul b)
    step false = omega (arith, add-mul (count n t) 0 b, zero-mul b)
