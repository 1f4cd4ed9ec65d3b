-- The plane is covered: of a point (α, β) of the square of side n, some corner of the square has at most a third of n² for the norm of its difference, and no other lattice point has.
use mathlib.Core.Path.{◌≡◌, refl, ap, ap₂, subst}
use mathlib.Core.Logic.{◌⊎◌, inl, inr}
use Prim.Native.Nat.{ℕ, zero, suc, ◌+◌, ◌-◌, ◌*◌, ◌≤◌, ◌<◌}
use native.Mathlib.Omega.{arith}
use native.Mathlib.Decide.{dec_le}
use native.Mathlib.Nat.{mul-le-mul, mul-le-mul_left}
use lib.IntN.{ℤ, pos, negsuc, nat_abs, ◌+ℤ◌, ◌-ℤ◌, ◌*ℤ◌, neg_ℤ-neg_ℤ}
use Rattle.integers.proofs.Ring.{ring, con, ◌⊕◌, ◌⊝◌, ◌⊗◌, ◌⊜◌}
use Rattle.integers.proofs.Absolute.{square_le}
use Rattle.integers.proofs.Order.{nat_abs_parts, parts--, above_pos, below_pos}
use Rattle.eisenstein.specs.Values.{ℤ[ω], value, norm}
use Rattle.eisenstein.proofs.Norms.{norm-is, norm_swap, part_a, part_b}

-- the four corners of the unit square
pub data Corner : ℕ → ℕ → Type 0 where
  c00 : Corner 0 0
  c10 : Corner 1 0
  c01 : Corner 0 1
  c11 : Corner 1 1

swap : {i j : ℕ} → Corner i j → Corner j i
swap c00 = c00
swap c10 = c01
swap c01 = c10
swap c11 = c11

-- (α, β) less n·(i, j)
abbrev pub offset : (n α β : ℕ) (i j : ℤ) → ℤ[ω]
offset n α β i j = value (pos α -ℤ (pos n *ℤ i)) (pos β -ℤ (pos n *ℤ j))

pub record Near (n α β : ℕ) : Type 0 where
  pub i : ℕ
  pub j : ℕ
  pub corner : Corner i j
  pub near : 3 * norm (offset n α β (pos i) (pos j)) ≤ n * n

-- ---- some corner is near: with the three numbers l, m, k that add up to n, all in ℕ

covered : (l m k : ℕ) → l ≤ k → m ≤ k → 3 * (l * l + l * m + m * m) ≤ (k + l + m) * (k + l + m)
covered l m k p q = omega (arith, expand, mul-le-mul p (native.Mathlib.Nat.le_refl l), mul-le-mul q (native.Mathlib.Nat.le_refl m), mul-le-mul p q)
  where
    expand : (k + l + m) * (k + l + m) ≡ k * k + l * l + m * m + 2 * (k * l) + 2 * (k * m) + 2 * (l * m)
    expand =
        ap nat_abs
        (ring 3 (λ k l m. (k ⊕ l ⊕ m) ⊗ (k ⊕ l ⊕ m) ⊜ k ⊗ k ⊕ l ⊗ l ⊕ m ⊗ m ⊕ con (pos 2) ⊗ (k ⊗ l) ⊕ con (pos 2) ⊗ (k ⊗ m) ⊕ con (pos 2) ⊗ (l ⊗ m)) tt (pos k) (pos l) (pos m))

form00 : (k l m : ℤ) → let α = l +ℤ m in let n = (k +ℤ l) +ℤ m in let A = α -ℤ (n *ℤ pos 0) in let B = m -ℤ (n *ℤ pos 0) in ((A *ℤ A) -ℤ (A *ℤ B)) +ℤ (B *ℤ B) ≡ ((l *ℤ l) +ℤ (l *ℤ m)) +ℤ (m *ℤ m)
form00 =
    ring 3
    (λ k l m. let A = l ⊕ m ⊝ (k ⊕ l ⊕ m) ⊗ con (pos 0) in let B = m ⊝ (k ⊕ l ⊕ m) ⊗ con (pos 0) in A ⊗ A ⊝ A ⊗ B ⊕ B ⊗ B ⊜ l ⊗ l ⊕ l ⊗ m ⊕ m ⊗ m)
    tt

form10 : (k l m : ℤ) → let α = l +ℤ m in let n = (k +ℤ l) +ℤ m in let A = α -ℤ (n *ℤ pos 1) in let B = m -ℤ (n *ℤ pos 0) in ((A *ℤ A) -ℤ (A *ℤ B)) +ℤ (B *ℤ B) ≡ ((k *ℤ k) +ℤ (k *ℤ m)) +ℤ (m *ℤ m)
form10 =
    ring 3
    (λ k l m. let A = l ⊕ m ⊝ (k ⊕ l ⊕ m) ⊗ con (pos 1) in let B = m ⊝ (k ⊕ l ⊕ m) ⊗ con (pos 0) in A ⊗ A ⊝ A ⊗ B ⊕ B ⊗ B ⊜ k ⊗ k ⊕ k ⊗ m ⊕ m ⊗ m)
    tt

form11 : (k l m : ℤ) → let α = l +ℤ m in let n = (k +ℤ l) +ℤ m in let A = α -ℤ (n *ℤ pos 1) in let B = m -ℤ (n *ℤ pos 1) in ((A *ℤ A) -ℤ (A *ℤ B)) +ℤ (B *ℤ B) ≡ ((k *ℤ k) +ℤ (k *ℤ l)) +ℤ (l *ℤ l)
form11 =
    ring 3
    (λ k l m. let A = l ⊕ m ⊝ (k ⊕ l ⊕ m) ⊗ con (pos 1) in let B = m ⊝ (k ⊕ l ⊕ m) ⊗ con (pos 1) in A ⊗ A ⊝ A ⊗ B ⊕ B ⊗ B ⊜ k ⊗ k ⊕ k ⊗ l ⊕ l ⊗ l)
    tt

at_corner : {n α β i j v : ℕ} → Corner i j → norm (offset n α β (pos i) (pos j)) ≡ v → 3 * v ≤ n * n → Near n α β
at_corner {i = i} {j = j} c e h = record { i = i; j = j; corner = c; near = omega arith }

-- β ≤ α
near_lower : (k l m : ℕ) → Near (k + l + m) (l + m) m
near_lower k l m = go (dec_le l k) (dec_le m k) (dec_le l m)
  where
    e00 : norm (offset (k + l + m) (l + m) m (pos 0) (pos 0)) ≡ l * l + l * m + m * m
    e00 = norm-is (offset (k + l + m) (l + m) m (pos 0) (pos 0)) (form00 (pos k) (pos l) (pos m))

    e10 : norm (offset (k + l + m) (l + m) m (pos 1) (pos 0)) ≡ k * k + k * m + m * m
    e10 = norm-is (offset (k + l + m) (l + m) m (pos 1) (pos 0)) (form10 (pos k) (pos l) (pos m))

    e11 : norm (offset (k + l + m) (l + m) m (pos 1) (pos 1)) ≡ k * k + k * l + l * l
    e11 = norm-is (offset (k + l + m) (l + m) m (pos 1) (pos 1)) (form11 (pos k) (pos l) (pos m))

    by : {a b : ℕ} → a ≡ b → a * a ≡ b * b
    by e = ap₂ ◌*◌ e e

    go : Dec (l ≤ k) → Dec (m ≤ k) → Dec (l ≤ m) → Near (k + l + m) (l + m) m
    go (yes p) (yes q) s = at_corner c00 e00 (covered l m k p q)
    go (yes p) (no q) s = at_corner c11 e11 (omega (arith, covered k l m (omega arith) (omega arith), by {a = m + k + l} {b = k + l + m} (omega arith)))
    go (no p) (yes q) s = at_corner c10 e10 (omega (arith, covered k m l (omega arith) (omega arith), by {a = l + k + m} {b = k + l + m} (omega arith)))
    go (no p) (no q) (yes s) = at_corner c11 e11 (omega (arith, covered k l m (omega arith) (omega arith), by {a = m + k + l} {b = k + l + m} (omega arith)))
    go (no p) (no q) (no s) = at_corner c10 e10 (omega (arith, covered k m l (omega arith) (omega arith), by {a = l + k + m} {b = k + l + m} (omega arith)))

pub some_near : (n α β : ℕ) → α < n → β < n → Near n α β
some_near n α β p q = go (dec_le β α)
  where
    lower : (α β : ℕ) → α < n → β ≤ α → Near n α β
    lower α β p h =
        subst (λ (x : ℕ). Near x α β) {x = (n - α) + (α - β) + β} {y = n} (omega arith)
        (subst (λ (x : ℕ). Near ((n - α) + (α - β) + β) x β) {x = (α - β) + β} {y = α} (omega arith) (near_lower (n - α) (α - β) β))

    flip : Near n β α → Near n α β
    flip h = record { i = h.j; j = h.i; corner = swap h.corner; near = omega (arith, h.near, norm_swap (pos β -ℤ (pos n *ℤ pos h.i)) (pos α -ℤ (pos n *ℤ pos h.j))) }

    go : Dec (β ≤ α) → Near n α β
    go (yes h) = lower α β p h
    go (no h) = flip (lower β α q (omega arith))

-- ---- nothing but a corner is near

-- a part of a near point is at most two thirds of n
third : (n v s : ℕ) → 3 * (s * s) ≤ 4 * v → 3 * v ≤ n * n → 3 * s ≤ 2 * n
third n v s p q = square_le (omega (arith, nine, four))
  where
    nine : (3 * s) * (3 * s) ≡ 9 * (s * s)
    nine = ap nat_abs (ring 1 (λ s. (con (pos 3) ⊗ s) ⊗ (con (pos 3) ⊗ s) ⊜ con (pos 9) ⊗ (s ⊗ s)) tt (pos s))

    four : (2 * n) * (2 * n) ≡ 4 * (n * n)
    four = ap nat_abs (ring 1 (λ s. (con (pos 2) ⊗ s) ⊗ (con (pos 2) ⊗ s) ⊜ con (pos 4) ⊗ (s ⊗ s)) tt (pos n))

-- so its index is 0 or 1
index : (n α : ℕ) (i : ℤ) → α < n → 3 * nat_abs (pos α -ℤ (pos n *ℤ i)) ≤ 2 * n → (i ≡ pos 0) ⊎ (i ≡ pos 1)
index n α (pos zero) p h = inl refl
index n α (pos (suc zero)) p h = inr refl
index n α (pos (suc (suc k))) p h =
    absurd (omega (arith, nat_abs_parts d, parts-- (pos α) (pos m), above_pos α, below_pos α, above_pos m, below_pos m, mul-le-mul_left {m = 2} {n = suc (suc k)} n (omega arith)))
  where
    m : ℕ
    m = n * suc (suc k)

    d : ℤ
    d = pos α -ℤ pos m
index n α (negsuc k) p h = absurd (omega (arith, far, mul-le-mul_left {m = 1} {n = suc k} n (omega arith)))
  where
    far : nat_abs (pos α -ℤ (pos n *ℤ negsuc k)) ≡ α + n * suc k
    far = ap (λ (z : ℤ). nat_abs (pos α +ℤ z)) (neg_ℤ-neg_ℤ (pos (n * suc k)))

pub record IsCorner (u v : ℤ) : Type 0 where
  pub i : ℕ
  pub j : ℕ
  pub corner : Corner i j
  pub is_i : u ≡ pos i
  pub is_j : v ≡ pos j

pub only_corners : (n α β : ℕ) (u v : ℤ) → α < n → β < n → 3 * norm (offset n α β u v) ≤ n * n → IsCorner u v
only_corners n α β u v p q h =
    both (index n α u p (third n (norm (offset n α β u v)) _ (part_a (offset n α β u v)) h))
    (index n β v q (third n (norm (offset n α β u v)) _ (part_b (offset n α β u v)) h))
  where
    both : (u ≡ pos 0) ⊎ (u ≡ pos 1) → (v ≡ pos 0) ⊎ (v ≡ pos 1) → IsCorner u v
    both (inl e) (inl f) = record { i = 0; j = 0; corner = c00; is_i = e; is_j = f }
    both (inr e) (inl f) = record { i = 1; j = 0; corner = c10; is_i = e; is_j = f }
    both (inl e) (inr f) = record { i = 0; j = 1; corner = c01; is_i = e; is_j = f }
    both (inr e) (inr f) = record { i = 1; j = 1; corner = c11; is_i = e; is_j = f }
