-- The order of ℤ, carried to ℕ so that `omega` proves facts of it. An integer is the difference of two natural numbers, `above z - below z`, of which one is 0.
-- One use: `≤ℤ_trans : {a b c : ℤ} → a ≤ℤ b → b ≤ℤ c → a ≤ℤ c` is `≤ℤ_trans h k = omega (arith, orders)`; a fact on a sum lists `parts-+ a b` too.
use mathlib.Core.Path.{◌≡◌, refl, sym, ◌∙◌, ap}
use mathlib.Core.Bool.{Bool, true, false, cond, not}
use mathlib.Core.Logic.{◌⊎◌, inl, inr, ◌≢◌}
use Prim.Native.Nat.{ℕ, zero, suc, ◌+◌, ◌-◌, ◌≤◌, ◌<◌}
use native.Mathlib.Omega.{arith}
use native.Mathlib.Decide.{dec_lt}
use lib.Dec.{T, ltb, leb→le, le→leb, ltb→lt, lt→ltb, nltb→le}
use lib.IntN.{ℤ, pos, negsuc, neg_ℤ, nat_abs, sub_ℕ, ◌+ℤ◌, ◌-ℤ◌}
use lib.Signed.{◌≤ℤ◌, ◌<ℤ◌, lt_z, le_z, lt_z_yes, le_z_yes}

unfoldable pub above : ℤ → ℕ
above (pos n) = n
above (negsuc n) = 0

unfoldable pub below : ℤ → ℕ
below (pos n) = 0
below (negsuc n) = suc n

le_parts' : (a b : ℤ) → T (le_z a b) → above a + below b ≤ above b + below a
unfolding above below
le_parts' (pos a) (pos b) t = omega (arith, leb→le a b t)
le_parts' (pos a) (negsuc b) t = absurd t
le_parts' (negsuc a) (pos b) t = omega arith
le_parts' (negsuc a) (negsuc b) t = omega (arith, leb→le b a t)

pub le_parts : {a b : ℤ} → a ≤ℤ b → above a + below b ≤ above b + below a
le_parts {a} {b} h = le_parts' a b h.le

parts_le' : (a b : ℤ) → above a + below b ≤ above b + below a → T (le_z a b)
unfolding above below
parts_le' (pos a) (pos b) h = le→leb a b (omega arith)
parts_le' (pos a) (negsuc b) h = absurd (bad a b h)
  where
    bad : (a b : ℕ) → a + suc b ≤ 0 + 0 → ⊥
    bad a b h = omega arith
parts_le' (negsuc a) (pos b) h = tt
parts_le' (negsuc a) (negsuc b) h = le→leb b a (omega arith)

pub parts_le : {a b : ℤ} → above a + below b ≤ above b + below a → a ≤ℤ b
parts_le {a} {b} h = le_z_yes (parts_le' a b h)

lt_parts' : (a b : ℤ) → T (lt_z a b) → above a + below b < above b + below a
unfolding above below
lt_parts' (pos a) (pos b) t = omega (arith, ltb→lt a b t)
lt_parts' (pos a) (negsuc b) t = absurd t
lt_parts' (negsuc a) (pos b) t = omega arith
lt_parts' (negsuc a) (negsuc b) t = omega (arith, ltb→lt b a t)

pub lt_parts : {a b : ℤ} → a <ℤ b → above a + below b < above b + below a
lt_parts {a} {b} h = lt_parts' a b h.lt

parts_lt' : (a b : ℤ) → above a + below b < above b + below a → T (lt_z a b)
unfolding above below
parts_lt' (pos a) (pos b) h = lt→ltb a b (omega arith)
parts_lt' (pos a) (negsuc b) h = absurd (bad a b h)
  where
    bad : (a b : ℕ) → a + suc b < 0 + 0 → ⊥
    bad a b h = omega arith
parts_lt' (negsuc a) (pos b) h = tt
parts_lt' (negsuc a) (negsuc b) h = lt→ltb b a (omega arith)

pub parts_lt : {a b : ℤ} → above a + below b < above b + below a → a <ℤ b
parts_lt {a} {b} h = lt_z_yes (parts_lt' a b h)

pub parts_eq : (a b : ℤ) → above a + below b ≡ above b + below a → a ≡ b
unfolding above below
parts_eq (pos a) (pos b) h = ap pos (omega arith)
parts_eq (pos a) (negsuc b) h = absurd (bad a b h)
  where
    bad : (a b : ℕ) → a + suc b ≡ 0 + 0 → ⊥
    bad a b h = omega arith
parts_eq (negsuc a) (pos b) h = absurd (bad a b h)
  where
    bad : (a b : ℕ) → 0 + 0 ≡ b + suc a → ⊥
    bad a b h = omega arith
parts_eq (negsuc a) (negsuc b) h = ap negsuc (omega arith)

pub eq_parts : {a b : ℤ} → a ≡ b → above a + below b ≡ above b + below a
eq_parts {a} {b} e = ap (λ (z : ℤ). above a + below z) (sym e) ∙ ap (λ (z : ℤ). above z + below a) e

-- what `omega` reads of an order of ℤ, and proves of one
pub ruleset orders = (le_parts, parts_le, lt_parts, parts_lt)

parts_sub : (m n : ℕ) → above (sub_ℕ m n) + n ≡ below (sub_ℕ m n) + m
unfolding above below
parts_sub m n = go (ltb m n) (ltb→lt m n) (nltb→le m n)
  where
    go : (c : Bool) → (T c → m < n) → (T (not c) → n ≤ m) → above (cond c (negsuc (n - suc m)) (pos (m - n))) + n ≡ below (cond c (negsuc (n - suc m)) (pos (m - n))) + m
    go true f g = let h : m < n = f tt in omega arith
    go false f g = let h : n ≤ m = g tt in omega arith

pub parts-+ : (a b : ℤ) → above (a +ℤ b) + (below a + below b) ≡ below (a +ℤ b) + (above a + above b)
unfolding above below
parts-+ (pos a) (pos b) = omega arith
parts-+ (pos a) (negsuc b) = omega (arith, parts_sub a (suc b))
parts-+ (negsuc a) (pos b) = omega (arith, parts_sub b (suc a))
parts-+ (negsuc a) (negsuc b) = omega arith

pub above_neg : (a : ℤ) → above (neg_ℤ a) ≡ below a
unfolding above below
above_neg (pos zero) = refl
above_neg (pos (suc n)) = refl
above_neg (negsuc n) = refl

pub below_neg : (a : ℤ) → below (neg_ℤ a) ≡ above a
unfolding above below
below_neg (pos zero) = refl
below_neg (pos (suc n)) = refl
below_neg (negsuc n) = refl

pub parts-- : (a b : ℤ) → above (a -ℤ b) + (below a + above b) ≡ below (a -ℤ b) + (above a + below b)
parts-- a b = omega (arith, parts-+ a (neg_ℤ b), above_neg b, below_neg b)

pub above_pos : (n : ℕ) → above (pos n) ≡ n
unfolding above
above_pos n = refl

pub below_pos : (n : ℕ) → below (pos n) ≡ 0
unfolding below
below_pos n = refl

pub nat_abs_parts : (z : ℤ) → nat_abs z ≡ above z + below z
unfolding above below
nat_abs_parts (pos n) = omega arith
nat_abs_parts (negsuc n) = omega arith

-- ---- the order's laws

pub ≤ℤ_trans : {a b c : ℤ} → a ≤ℤ b → b ≤ℤ c → a ≤ℤ c
≤ℤ_trans h k = omega (arith, orders)

pub <ℤ_trans : {a b c : ℤ} → a <ℤ b → b <ℤ c → a <ℤ c
<ℤ_trans h k = omega (arith, orders)

pub ≤ℤ_antisym : {a b : ℤ} → a ≤ℤ b → b ≤ℤ a → a ≡ b
≤ℤ_antisym {a} {b} h k = parts_eq a b (omega (arith, orders))

pub <ℤ-≢ : {a b : ℤ} → a <ℤ b → a ≢ b
<ℤ-≢ h e = omega (arith, orders, eq_parts e)

pub <ℤ_asym : {a b : ℤ} → a <ℤ b → b <ℤ a → ⊥
<ℤ_asym h k = omega (arith, orders)

-- at most is less or equal
pub less_or_equal : {a b : ℤ} → a ≤ℤ b → (a <ℤ b) ⊎ (a ≡ b)
less_or_equal {a} {b} h = go (dec_lt (above a + below b) (above b + below a))
  where
    go : Dec (above a + below b < above b + below a) → (a <ℤ b) ⊎ (a ≡ b)
    go (yes l) = inl (parts_lt l)
    go (no l) = inr (parts_eq a b (omega (arith, orders)))
