-- Signed machine arithmetic. A signed number is stored as its bits and read back, so a need or a result holds layers of `to_z w (of_z w ..)`. An expression of the ring solver says what the code computes: `stored` has the layers, `eval` has none. Where a computed bound of every part of the expression is within the width, each operation's need holds (`fits`), what is stored is what is meant (`exact`), and it is within its bound (`size`).
-- One use: with `ρ = given a 1024 h ∷ given b 1024 k ∷ []`, `fits w64 ρ (var 0 ⊗ var 1) tt` answers the need of `a * b`, and `exact w64 ρ (var 0 ⊗ var 1) tt` says that its result is `a *ℤ b`.
use mathlib.Core.Path.{◌≡◌, refl, sym, ◌∙◌, ap, ap₂, subst}
use mathlib.Core.Bool.{Bool, true, false, not, ◌&&◌}
use mathlib.Core.List.{List, [], ◌∷◌}
use Prim.Native.Nat.{ℕ, zero, suc, ◌+◌, ◌*◌, ◌/◌, ◌^◌, ◌≤◌, ◌<◌}
use native.Mathlib.Omega.{arith}
use native.Mathlib.Nat.{le_trans, le_refl, mul-le-mul, lt_of_le_of_lt, div-le_self, suc-mul}
use lib.Dec.{T, ltb, ltb→lt, leb, leb→le}
use lib.IntN.{ℤ, pos, negsuc, neg_ℤ, nat_abs, ◌+ℤ◌, ◌-ℤ◌, ◌*ℤ◌}
use lib.Signed.{mag, lt_z, quot_z, ◌<ℤ◌, ◌≤ℤ◌, lt_z_yes, lt_z_no}
use mir.Syntax.{Width}
use mir.Val.{SFits, to_z, of_z, hbits}
use mir.Facts.{and_yes, to_z-of_z, sfits_widen}
use mir.ValLaws.{sfits_le}
use Rattle.integers.proofs.Ring.{Expr, var, con, ◌⊕◌, ◌⊝◌, ◌⊗◌, ⊖◌, at, eval}
use Rattle.integers.proofs.Absolute.{natAbs-+, natAbs--, natAbs-*, nat_abs_neg}

-- a number that an expression starts from: as the code has it, as it is meant, and a bound
pub record Leaf : Type 0 where
  pub code : ℤ
  pub meant : ℤ
  pub bound : ℕ
  pub is : code ≡ meant
  pub small : nat_abs meant ≤ bound

-- a number that is stored as it is meant
abbrev pub given : (z : ℤ) (b : ℕ) → nat_abs z ≤ b → Leaf
given z b h = record { code = z; meant = z; bound = b; is = refl; small = h }

abbrev pub leaf : List Leaf → ℕ → Leaf
leaf [] i = given (pos 0) 0 (le_refl 0)
leaf (l ∷ ρ) zero = l
leaf (l ∷ ρ) (suc i) = leaf ρ i

abbrev pub meanings : List Leaf → List ℤ
meanings [] = []
meanings (l ∷ ρ) = l.meant ∷ meanings ρ

-- a literal is read as it is, anything else from its bits
abbrev pub reading : Width → Expr → ℤ → ℤ
reading w (var i) z = to_z w (of_z w z)
reading w (con c) z = z
reading w (a ⊕ b) z = to_z w (of_z w z)
reading w (a ⊝ b) z = to_z w (of_z w z)
reading w (a ⊗ b) z = to_z w (of_z w z)
reading w (⊖ a) z = to_z w (of_z w z)

abbrev pub stored : Width → List Leaf → Expr → ℤ
stored w ρ (var i) = (leaf ρ i).code
stored w ρ (con c) = c
stored w ρ (a ⊕ b) = reading w a (stored w ρ a) +ℤ reading w b (stored w ρ b)
stored w ρ (a ⊝ b) = reading w a (stored w ρ a) -ℤ reading w b (stored w ρ b)
stored w ρ (a ⊗ b) = reading w a (stored w ρ a) *ℤ reading w b (stored w ρ b)
stored w ρ (⊖ a) = neg_ℤ (reading w a (stored w ρ a))

abbrev pub limit : List Leaf → Expr → ℕ
limit ρ (var i) = (leaf ρ i).bound
limit ρ (con c) = nat_abs c
limit ρ (a ⊕ b) = limit ρ a + limit ρ b
limit ρ (a ⊝ b) = limit ρ a + limit ρ b
limit ρ (a ⊗ b) = limit ρ a * limit ρ b
limit ρ (⊖ a) = limit ρ a

abbrev pub safe : Width → List Leaf → Expr → Bool
safe w ρ (var i) = ltb (limit ρ (var i)) (2 ^ hbits w)
safe w ρ (con c) = ltb (nat_abs c) (2 ^ hbits w)
safe w ρ (a ⊕ b) = ltb (limit ρ (a ⊕ b)) (2 ^ hbits w) && (safe w ρ a && safe w ρ b)
safe w ρ (a ⊝ b) = ltb (limit ρ (a ⊝ b)) (2 ^ hbits w) && (safe w ρ a && safe w ρ b)
safe w ρ (a ⊗ b) = ltb (limit ρ (a ⊗ b)) (2 ^ hbits w) && (safe w ρ a && safe w ρ b)
safe w ρ (⊖ a) = ltb (limit ρ (⊖ a)) (2 ^ hbits w) && safe w ρ a

-- ---- what is within its limit fits

mag_nat_abs : (z : ℤ) → mag z ≤ nat_abs z
mag_nat_abs (pos n) = le_refl n
mag_nat_abs (negsuc n) = omega arith

pub sfits_within : {w : Width} {b : ℕ} (z : ℤ) → nat_abs z ≤ b → b < 2 ^ hbits w → SFits w z
sfits_within z h l = record { sfits = lt_of_le_of_lt (le_trans (mag_nat_abs z) h) l }

-- what is stored is what is meant, and within its limit
record Sound (w : Width) (ρ : List Leaf) (e : Expr) : Type 0 where
  is : stored w ρ e ≡ eval (meanings ρ) e
  small : nat_abs (eval (meanings ρ) e) ≤ limit ρ e
  below : limit ρ e < 2 ^ hbits w

sound_fits : {w : Width} {ρ : List Leaf} {e : Expr} → Sound w ρ e → SFits w (stored w ρ e)
sound_fits {w} {ρ} {e} s =
    subst (SFits w) (sym s.is) (sfits_within (eval (meanings ρ) e) s.small s.below)

sound_read : {w : Width} {ρ : List Leaf} (e : Expr) → Sound w ρ e → reading w e (stored w ρ e) ≡ eval (meanings ρ) e
sound_read (var i) s = to_z-of_z (sound_fits s) ∙ s.is
sound_read (con c) s = s.is
sound_read (a ⊕ b) s = to_z-of_z (sound_fits s) ∙ s.is
sound_read (a ⊝ b) s = to_z-of_z (sound_fits s) ∙ s.is
sound_read (a ⊗ b) s = to_z-of_z (sound_fits s) ∙ s.is
sound_read (⊖ a) s = to_z-of_z (sound_fits s) ∙ s.is

meant_at : (ρ : List Leaf) (i : ℕ) → (leaf ρ i).meant ≡ at (meanings ρ) i
meant_at [] i = refl
meant_at (l ∷ ρ) zero = refl
meant_at (l ∷ ρ) (suc i) = meant_at ρ i

and₃ : (p q r : Bool) → T (p && (q && r)) → T p × T q × T r
and₃ true true true t = (tt, tt, tt)
and₃ true true false t = absurd t
and₃ true false r t = absurd t
and₃ false q r t = absurd t

sound : (w : Width) (ρ : List Leaf) (e : Expr) → T (safe w ρ e) → Sound w ρ e
sound w ρ (var i) t = record {
  is = (leaf ρ i).is ∙ meant_at ρ i;
  small = subst (λ (z : ℤ). nat_abs z ≤ (leaf ρ i).bound) (meant_at ρ i) (leaf ρ i).small;
  below = ltb→lt _ _ t;
}
sound w ρ (con c) t = record { is = refl; small = le_refl (nat_abs c); below = ltb→lt _ _ t }
sound w ρ (a ⊕ b) t =
    let (l, p, q) = and₃ (ltb (limit ρ (a ⊕ b)) (2 ^ hbits w)) (safe w ρ a) (safe w ρ b) t in
    let x = sound w ρ a p in
    let y = sound w ρ b q in
    record {
      is = ap₂ ◌+ℤ◌ (sound_read a x) (sound_read b y);
      small = le_trans (natAbs-+ (eval (meanings ρ) a) (eval (meanings ρ) b)) (omega (arith, x.small, y.small));
      below = ltb→lt _ _ l;
    }
sound w ρ (a ⊝ b) t =
    let (l, p, q) = and₃ (ltb (limit ρ (a ⊝ b)) (2 ^ hbits w)) (safe w ρ a) (safe w ρ b) t in
    let x = sound w ρ a p in
    let y = sound w ρ b q in
    record {
      is = ap₂ ◌-ℤ◌ (sound_read a x) (sound_read b y);
      small = le_trans (natAbs-- (eval (meanings ρ) a) (eval (meanings ρ) b)) (omega (arith, x.small, y.small));
      below = ltb→lt _ _ l;
    }
sound w ρ (a ⊗ b) t =
    let (l, p, q) = and₃ (ltb (limit ρ (a ⊗ b)) (2 ^ hbits w)) (safe w ρ a) (safe w ρ b) t in
    let x = sound w ρ a p in
    let y = sound w ρ b q in
    record {
      is = ap₂ ◌*ℤ◌ (sound_read a x) (sound_read b y);
      small = subst (λ (n : ℕ). n ≤ limit ρ a * limit ρ b) (sym (natAbs-* (eval (meanings ρ) a) (eval (meanings ρ) b))) (mul-le-mul x.small y.small);
      below = ltb→lt _ _ l;
    }
sound w ρ (⊖ a) t =
    let (l, p) = and_yes (ltb (limit ρ (⊖ a)) (2 ^ hbits w)) (safe w ρ a) t in
    let x = sound w ρ a p in
    record {
      is = ap neg_ℤ (sound_read a x);
      small = subst (λ (n : ℕ). n ≤ limit ρ a) (sym (nat_abs_neg (eval (meanings ρ) a))) x.small;
      below = ltb→lt _ _ l;
    }

pub fits : (w : Width) (ρ : List Leaf) (e : Expr) → T (safe w ρ e) → SFits w (stored w ρ e)
fits w ρ e t = sound_fits (sound w ρ e t)

pub exact : (w : Width) (ρ : List Leaf) (e : Expr) → T (safe w ρ e) → reading w e (stored w ρ e) ≡ eval (meanings ρ) e
exact w ρ e t = sound_read e (sound w ρ e t)

-- the number that is meant fits too
pub fits_meant : (w : Width) (ρ : List Leaf) (e : Expr) → T (safe w ρ e) → SFits w (eval (meanings ρ) e)
fits_meant w ρ e t = let s = sound w ρ e t in sfits_within (eval (meanings ρ) e) s.small s.below

pub size : (w : Width) (ρ : List Leaf) (e : Expr) → T (safe w ρ e) → nat_abs (eval (meanings ρ) e) ≤ limit ρ e
size w ρ e t = (sound w ρ e t).small

-- what the code reads back is within a bound that its limit is within
pub size_read : (w : Width) (ρ : List Leaf) (e : Expr) (b : ℕ) → T (safe w ρ e) → T (leb (limit ρ e) b) → nat_abs (reading w e (stored w ρ e)) ≤ b
size_read w ρ e b t l =
    subst (λ (z : ℤ). nat_abs z ≤ b) (sym (exact w ρ e t)) (le_trans (size w ρ e t) (leb→le (limit ρ e) b l))

-- ---- a number of width w, cast to a width that is no narrower

pub cast_fits : {w w' : Width} {z : ℤ} → T (leb (hbits w) (hbits w')) → SFits w z → SFits w' (to_z w (of_z w z))
cast_fits {w} {w'} t f = subst (SFits w') (sym (to_z-of_z f)) (sfits_widen t f)

pub cast_read : {w : Width} (w' : Width) {z : ℤ} → T (leb (hbits w) (hbits w')) → SFits w z → to_z w' (of_z w' (to_z w (of_z w z))) ≡ z
cast_read w' t f = to_z-of_z (cast_fits t f) ∙ to_z-of_z f

-- ---- a number that is small enough, cast to a narrower width

pub narrow_fits : {w w' : Width} {b : ℕ} {z : ℤ} → SFits w z → nat_abs z ≤ b → b < 2 ^ hbits w' → SFits w' (to_z w (of_z w z))
narrow_fits {w} {w'} {b} {z} f h l = subst (SFits w') (sym (to_z-of_z f)) (sfits_within z h l)

pub narrow_read : {w : Width} (w' : Width) {b : ℕ} {z : ℤ} → SFits w z → nat_abs z ≤ b → b < 2 ^ hbits w' → to_z w' (of_z w' (to_z w (of_z w z))) ≡ z
narrow_read w' f h l = to_z-of_z (narrow_fits f h l) ∙ to_z-of_z f

-- ---- tests of order, as a branch leaves them: of a' and b' as the code has them, which are a and b

pub lt_read : {a b a' b' : ℤ} → a' ≡ a → b' ≡ b → lt_z a' b' ≡ true → a <ℤ b
lt_read {a} {b} e f h = lt_z_yes (subst T (sym (sym (ap₂ lt_z e f) ∙ h)) tt)

pub le_read : {a b a' b' : ℤ} → a' ≡ a → b' ≡ b → lt_z a' b' ≡ false → b ≤ℤ a
le_read {a} {b} e f h = lt_z_no (subst (λ (t : Bool). T (not t)) (sym (sym (ap₂ lt_z e f) ∙ h)) tt)

-- ---- equality, as the code tests it: of the bits

pub bits_same : {w : Width} {a b : ℤ} → SFits w a → SFits w b → of_z w a ≡ of_z w b → a ≡ b
bits_same {w} f g e = sym (to_z-of_z f) ∙ ap (to_z w) e ∙ to_z-of_z g

-- ---- division by a positive number

-- a positive number
pub positive : (n : ℤ) → pos 0 <ℤ n → (m : ℕ) × (n ≡ pos (suc m))
positive (pos zero) h = absurd h.lt
positive (pos (suc m)) h = (m, refl)
positive (negsuc m) h = absurd h.lt

mag_neg : (k a : ℕ) → k ≤ suc a → mag (neg_ℤ (pos k)) ≤ a
mag_neg zero a h = omega arith
mag_neg (suc k) a h = omega arith

mag_quot : (x : ℤ) (m : ℕ) → mag (quot_z x (pos m)) ≤ mag x
mag_quot (pos a) m = div-le_self a m
mag_quot (negsuc a) m = mag_neg (suc a / m) a (div-le_self (suc a) m)

-- what a division asks: the divisor's bits are not 0, and the quotient fits
pub division : (w : Width) {x n x' n' : ℤ} → x' ≡ x → n' ≡ n → pos 0 <ℤ n → SFits w x → (0 < of_z w n) × SFits w (quot_z x' n')
division w {x} {n} {x'} {n'} e f h s =
    let (m, g) = positive n h in (
      subst (λ (z : ℤ). 0 < of_z w z) (sym g) (omega arith),
      subst (SFits w) (sym (ap₂ quot_z e (f ∙ g))) (sfits_le (mag_quot x (suc m)) s),
    )

pub nat_abs_quot : (x n : ℤ) → nat_abs (quot_z x n) ≤ nat_abs x
nat_abs_quot (pos a) (pos b) = div-le_self a b
nat_abs_quot (pos a) (negsuc b) = omega (arith, nat_abs_neg (pos (a / suc b)), div-le_self a (suc b))
nat_abs_quot (negsuc a) (pos b) = omega (arith, nat_abs_neg (pos (suc a / b)), div-le_self (suc a) b)
nat_abs_quot (negsuc a) (negsuc b) = div-le_self (suc a) (suc b)

-- a quotient, as a number that an expression starts from
abbrev pub quotient : {x n x' n' : ℤ} (b : ℕ) → x' ≡ x → n' ≡ n → nat_abs x ≤ b → Leaf
quotient {x} {n} {x'} {n'} b e f h = record {
  code = quot_z x' n';
  meant = quot_z x n;
  bound = b;
  is = ap₂ quot_z e f;
  small = le_trans (nat_abs_quot x n) h;
}

-- ---- a sum that a loop keeps: n numbers within m are within n·m. Its bits are a variable, so the bound is not computed

module _ (w : Width) (n m : ℕ) (x z : ℤ) (p : nat_abs x ≤ n * m) (q : nat_abs z ≤ m) (room : n * m + m < 2 ^ hbits w) where
  pub term_read : to_z w (of_z w z) ≡ z
  term_read = to_z-of_z (sfits_within z q (omega arith))

  pub sum_fits : SFits w (x +ℤ to_z w (of_z w z))
  sum_fits = subst (λ (y : ℤ). SFits w (x +ℤ y)) (sym term_read) (sfits_within (x +ℤ z) (natAbs-+ x z) (omega arith))

  pub sum_read : to_z w (of_z w (x +ℤ to_z w (of_z w z))) ≡ x +ℤ z
  sum_read = to_z-of_z sum_fits ∙ ap (λ (y : ℤ). x +ℤ y) term_read

  pub sum_size : (k : ℕ) → k ≡ suc n → nat_abs (to_z w (of_z w (x +ℤ to_z w (of_z w z)))) ≤ k * m
  sum_size k e = subst (λ (y : ℤ). nat_abs y ≤ k * m) (sym sum_read) (omega (arith, natAbs-+ x z, ap (λ (j : ℕ). j * m) e, suc-mul n m))
