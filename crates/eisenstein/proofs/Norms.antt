-- Laws of the norm: it is a² − ab + b², multiplicative, zero only at zero, and bounds each part.
use mathlib.Core.Path.{◌≡◌, refl, sym, ◌∙◌, ap, ap₂}
use Prim.Native.Nat.{ℕ, zero, suc, ◌+◌, ◌*◌, ◌≤◌, ◌<◌}
use native.Mathlib.Omega.{arith}
use native.Mathlib.Nat.{mul-le-mul, mul-le-mul_right}
use lib.IntN.{ℤ, pos, negsuc, neg_ℤ, nat_abs, ◌+ℤ◌, ◌-ℤ◌, ◌*ℤ◌}
use Rattle.integers.proofs.Ring.{ring, con, ◌⊕◌, ◌⊝◌, ◌⊗◌, ⊖◌, ◌⊜◌}
use Rattle.integers.proofs.Absolute.{square, square_zero, nat_abs_zero, natAbs-+, natAbs--, natAbs-*}
use Rattle.eisenstein.specs.Values.{ℤ[ω], value, 𝟘, ◌+ω◌, ◌-ω◌, ◌*ω◌, norm}
use Rattle.eisenstein.specs.Reduction.{conj}

abbrev pub form : ℤ[ω] → ℤ
form x = ((x.a *ℤ x.a) -ℤ (x.a *ℤ x.b)) +ℤ (x.b *ℤ x.b)

-- a number of which four times is not negative
quarter : (z : ℤ) (k : ℕ) → pos 4 *ℤ z ≡ pos k → z ≡ pos (nat_abs z)
quarter (pos n) k h = refl
quarter (negsuc n) k h = absurd (never (4 * suc n) k (omega arith) h)
  where
    never : (m k : ℕ) → 0 < m → neg_ℤ (pos m) ≡ pos k → ⊥
    never zero k p h = omega arith
    never (suc m) k p h = let z : ◌≡◌ {A = ℕ} 0 1 = cc in omega arith

four_form : (a b : ℤ) → pos 4 *ℤ (((a *ℤ a) -ℤ (a *ℤ b)) +ℤ (b *ℤ b)) ≡ (pos 3 *ℤ (a *ℤ a)) +ℤ (((b +ℤ b) -ℤ a) *ℤ ((b +ℤ b) -ℤ a))
four_form =
    ring 2 (λ a b. con (pos 4) ⊗ (a ⊗ a ⊝ a ⊗ b ⊕ b ⊗ b) ⊜ con (pos 3) ⊗ (a ⊗ a) ⊕ (b ⊕ b ⊝ a) ⊗ (b ⊕ b ⊝ a)) tt

-- 4·norm = 3a² + (2b − a)²
four_norm' : (x : ℤ[ω]) → pos 4 *ℤ form x ≡ pos (3 * (nat_abs x.a * nat_abs x.a) + nat_abs ((x.b +ℤ x.b) -ℤ x.a) * nat_abs ((x.b +ℤ x.b) -ℤ x.a))
four_norm' x = four_form x.a x.b ∙ ap₂ (λ (p q : ℤ). (pos 3 *ℤ p) +ℤ q) (square x.a) (square ((x.b +ℤ x.b) -ℤ x.a))

pub norm_form : (x : ℤ[ω]) → form x ≡ pos (norm x)
unfolding norm
norm_form x = quarter (form x) _ (four_norm' x)

-- a norm is known from its form
pub norm-is : (x : ℤ[ω]) {n : ℕ} → form x ≡ pos n → norm x ≡ n
unfolding norm
norm-is x e = ap nat_abs e

pub four_norm : (x : ℤ[ω]) → 4 * norm x ≡ 3 * (nat_abs x.a * nat_abs x.a) + nat_abs ((x.b +ℤ x.b) -ℤ x.a) * nat_abs ((x.b +ℤ x.b) -ℤ x.a)
four_norm x = ap nat_abs (sym (ap (λ (z : ℤ). pos 4 *ℤ z) (norm_form x)) ∙ four_norm' x)

form-* : (a b c d : ℤ) → ((((a *ℤ c) -ℤ (b *ℤ d)) *ℤ ((a *ℤ c) -ℤ (b *ℤ d))) -ℤ (((a *ℤ c) -ℤ (b *ℤ d)) *ℤ (((a *ℤ d) +ℤ (b *ℤ c)) -ℤ (b *ℤ d)))) +ℤ ((((a *ℤ d) +ℤ (b *ℤ c)) -ℤ (b *ℤ d)) *ℤ (((a *ℤ d) +ℤ (b *ℤ c)) -ℤ (b *ℤ d))) ≡ (((a *ℤ a) -ℤ (a *ℤ b)) +ℤ (b *ℤ b)) *ℤ (((c *ℤ c) -ℤ (c *ℤ d)) +ℤ (d *ℤ d))
form-* =
    ring 4
    (λ a b c d. let e = a ⊗ c ⊝ b ⊗ d in let f = a ⊗ d ⊕ b ⊗ c ⊝ b ⊗ d in e ⊗ e ⊝ e ⊗ f ⊕ f ⊗ f ⊜ (a ⊗ a ⊝ a ⊗ b ⊕ b ⊗ b) ⊗ (c ⊗ c ⊝ c ⊗ d ⊕ d ⊗ d))
    tt

pub norm-* : (x y : ℤ[ω]) → norm (x *ω y) ≡ norm x * norm y
unfolding ◌*ω◌
norm-* x y = norm-is (x *ω y) (form-* x.a x.b y.a y.b ∙ ap₂ ◌*ℤ◌ (norm_form x) (norm_form y))

form_swap : (a b : ℤ) → ((b *ℤ b) -ℤ (b *ℤ a)) +ℤ (a *ℤ a) ≡ ((a *ℤ a) -ℤ (a *ℤ b)) +ℤ (b *ℤ b)
form_swap = ring 2 (λ a b. b ⊗ b ⊝ b ⊗ a ⊕ a ⊗ a ⊜ a ⊗ a ⊝ a ⊗ b ⊕ b ⊗ b) tt

-- the parts may be exchanged
pub norm_swap : (a b : ℤ) → norm (value b a) ≡ norm (value a b)
norm_swap a b = norm-is (value b a) (form_swap a b ∙ norm_form (value a b))

-- three times the square of a part is at most four times the norm
pub part_a : (x : ℤ[ω]) → 3 * (nat_abs x.a * nat_abs x.a) ≤ 4 * norm x
part_a x = omega (arith, four_norm x)

pub part_b : (x : ℤ[ω]) → 3 * (nat_abs x.b * nat_abs x.b) ≤ 4 * norm x
part_b x = omega (arith, part_a (value x.b x.a), norm_swap x.a x.b)

-- no part is above the norm
part_le : (m n : ℕ) → 3 * (m * m) ≤ 4 * n → m ≤ n
part_le zero n h = omega arith
part_le (suc zero) n h = omega arith
part_le (suc (suc m)) n h = omega (arith, mul-le-mul_right {m = 2} {n = suc (suc m)} (suc (suc m)) (omega arith))

pub part_a_le : (x : ℤ[ω]) → nat_abs x.a ≤ norm x
part_a_le x = part_le (nat_abs x.a) (norm x) (part_a x)

pub part_b_le : (x : ℤ[ω]) → nat_abs x.b ≤ norm x
part_b_le x = part_le (nat_abs x.b) (norm x) (part_b x)

pub norm_zero : (x : ℤ[ω]) → norm x ≡ 0 → x ≡ 𝟘
norm_zero x h =
    ap₂ value (nat_abs_zero x.a (square_zero (omega (arith, part_a x)))) (nat_abs_zero x.b (square_zero (omega (arith, part_b x))))

form_conj : (a b : ℤ) → (((a -ℤ b) *ℤ (a -ℤ b)) -ℤ ((a -ℤ b) *ℤ neg_ℤ b)) +ℤ (neg_ℤ b *ℤ neg_ℤ b) ≡ ((a *ℤ a) -ℤ (a *ℤ b)) +ℤ (b *ℤ b)
form_conj = ring 2 (λ a b. (a ⊝ b) ⊗ (a ⊝ b) ⊝ (a ⊝ b) ⊗ (⊖ b) ⊕ (⊖ b) ⊗ (⊖ b) ⊜ a ⊗ a ⊝ a ⊗ b ⊕ b ⊗ b) tt

pub norm-conj : (x : ℤ[ω]) → norm (conj x) ≡ norm x
norm-conj x = norm-is (conj x) (form_conj x.a x.b ∙ norm_form x)

-- the parallelogram law: norm (x − y) is at most twice the sum of the norms
form_parallelogram : (a b c d : ℤ) → (((((a -ℤ c) *ℤ (a -ℤ c)) -ℤ ((a -ℤ c) *ℤ (b -ℤ d))) +ℤ ((b -ℤ d) *ℤ (b -ℤ d)))) +ℤ (((((a +ℤ c) *ℤ (a +ℤ c)) -ℤ ((a +ℤ c) *ℤ (b +ℤ d))) +ℤ ((b +ℤ d) *ℤ (b +ℤ d)))) ≡ (pos 2 *ℤ (((a *ℤ a) -ℤ (a *ℤ b)) +ℤ (b *ℤ b))) +ℤ (pos 2 *ℤ (((c *ℤ c) -ℤ (c *ℤ d)) +ℤ (d *ℤ d)))
form_parallelogram =
    ring 4
    (λ a b c d. let e = a ⊝ c in let f = b ⊝ d in let g = a ⊕ c in let h = b ⊕ d in e ⊗ e ⊝ e ⊗ f ⊕ f ⊗ f ⊕ (g ⊗ g ⊝ g ⊗ h ⊕ h ⊗ h) ⊜ con (pos 2) ⊗ (a ⊗ a ⊝ a ⊗ b ⊕ b ⊗ b) ⊕ con (pos 2) ⊗ (c ⊗ c ⊝ c ⊗ d ⊕ d ⊗ d))
    tt

pub parallelogram : (x y : ℤ[ω]) → norm (x -ω y) + norm (x +ω y) ≡ 2 * norm x + 2 * norm y
unfolding ◌+ω◌ ◌-ω◌
parallelogram x y =
    ap nat_abs
    (sym (ap₂ ◌+ℤ◌ (norm_form (x -ω y)) (norm_form (x +ω y)))
    ∙ form_parallelogram x.a x.b y.a y.b
    ∙ ap₂ (λ (p q : ℤ). (pos 2 *ℤ p) +ℤ (pos 2 *ℤ q)) (norm_form x) (norm_form y))

-- a bound on the norm from one on the parts
pub norm-bound : (x : ℤ[ω]) (m : ℕ) → nat_abs x.a ≤ m → nat_abs x.b ≤ m → norm x ≤ m * m + m * m + m * m
unfolding norm
norm-bound x m p q =
    omega (arith, natAbs-+ ((x.a *ℤ x.a) -ℤ (x.a *ℤ x.b)) (x.b *ℤ x.b), natAbs-- (x.a *ℤ x.a) (x.a *ℤ x.b), natAbs-* x.a x.a, natAbs-* x.a x.b, natAbs-* x.b x.b, mul-le-mul p p, mul-le-mul p q, mul-le-mul q q)

-- the trace of x·conj(y)
abbrev pub trace : ℤ[ω] → ℤ[ω] → ℤ
trace x y = (x.a *ℤ ((y.a +ℤ y.a) -ℤ y.b)) +ℤ (x.b *ℤ ((y.b +ℤ y.b) -ℤ y.a))

form-- : (a b c d : ℤ) → (((a -ℤ c) *ℤ (a -ℤ c)) -ℤ ((a -ℤ c) *ℤ (b -ℤ d))) +ℤ ((b -ℤ d) *ℤ (b -ℤ d)) ≡ (((a *ℤ a) -ℤ (a *ℤ b)) +ℤ (b *ℤ b)) +ℤ ((((c *ℤ c) -ℤ (c *ℤ d)) +ℤ (d *ℤ d)) -ℤ ((a *ℤ ((c +ℤ c) -ℤ d)) +ℤ (b *ℤ ((d +ℤ d) -ℤ c))))
form-- =
    ring 4
    (λ a b c d. let e = a ⊝ c in let f = b ⊝ d in e ⊗ e ⊝ e ⊗ f ⊕ f ⊗ f ⊜ a ⊗ a ⊝ a ⊗ b ⊕ b ⊗ b ⊕ (c ⊗ c ⊝ c ⊗ d ⊕ d ⊗ d ⊝ (a ⊗ (c ⊕ c ⊝ d) ⊕ b ⊗ (d ⊕ d ⊝ c))))
    tt

-- the norm of x − y is that of x, plus that of y, less the trace
pub norm_difference : (x y : ℤ[ω]) → pos (norm (x -ω y)) ≡ pos (norm x) +ℤ (pos (norm y) -ℤ trace x y)
unfolding ◌-ω◌
norm_difference x y =
    sym (norm_form (x -ω y))
    ∙ form-- x.a x.b y.a y.b
    ∙ ap₂ (λ (m n : ℤ). m +ℤ (n -ℤ trace x y)) (norm_form x) (norm_form y)
