-- A test that antt computes at each number below a bound, and the rule drawn from it at each of them.
-- One use: `every_at f 6 tt k h : T (f k)`, for `h : k < 6`, where `every f 6` computes to true.
use mathlib.Core.Path.{◌≡◌, refl, subst, sym}
use mathlib.Core.Bool.{Bool, true, false, ◌&&◌, ◌||◌}
use Prim.Native.Nat.{ℕ, zero, suc, ◌<◌}
use native.Mathlib.Omega.{arith}
use native.Mathlib.Decide.{ℕ_discrete}
use lib.Dec.{T, eqb, eqb→eq}
use mir.Facts.{and_yes, yes_and, yes_eqb}

abbrev pub every : (ℕ → Bool) → ℕ → Bool
every f zero = true
every f (suc n) = f n && every f n

pub every_at : (f : ℕ → Bool) (n : ℕ) → T (every f n) → (k : ℕ) → k < n → T (f k)
every_at f zero t k h = absurd (omega arith)
every_at f (suc n) t k h = go (ℕ_discrete k n) (every_at f n (and_yes (f n) (every f n) t).1 k)
  where
    go : Dec (k ≡ n) → (k < n → T (f k)) → T (f k)
    go (yes e) r = subst (λ (m : ℕ). T (f m)) (sym e) (and_yes (f n) (every f n) t).0
    go (no e) r = r (omega arith)

-- ---- tests of several equations

pub equal_2 : {a a' b b' : ℕ} → a ≡ a' → b ≡ b' → T (eqb a a' && eqb b b')
equal_2 {a} {a'} {b} {b'} e f = yes_and (eqb a a') (eqb b b') (yes_eqb e) (yes_eqb f)

pub equal_4 : {a a' b b' c c' d d' : ℕ} → a ≡ a' → b ≡ b' → c ≡ c' → d ≡ d' → T (eqb a a' && (eqb b b' && (eqb c c' && eqb d d')))
equal_4 {a} {a'} {b} {b'} {c} {c'} {d} {d'} e f g h =
    yes_and (eqb a a') (eqb b b' && (eqb c c' && eqb d d')) (yes_eqb e)
    (yes_and (eqb b b') (eqb c c' && eqb d d') (yes_eqb f) (equal_2 g h))

-- the equations, from such a test

pub are_equal_2 : (a a' b b' : ℕ) → T (eqb a a' && eqb b b') → (a ≡ a') × (b ≡ b')
are_equal_2 a a' b b' t =
    let p = and_yes (eqb a a') (eqb b b') t in
    (eqb→eq a a' p.0, eqb→eq b b' p.1)

pub are_equal_3 : (a a' b b' c c' : ℕ) → T (eqb a a' && (eqb b b' && eqb c c')) → (a ≡ a') × (b ≡ b') × (c ≡ c')
are_equal_3 a a' b b' c c' t =
    let p = and_yes (eqb a a') (eqb b b' && eqb c c') t in
    let r = are_equal_2 b b' c c' p.1 in
    (eqb→eq a a' p.0, r.0, r.1)

pub are_equal_4 : (a a' b b' c c' d d' : ℕ) → T (eqb a a' && (eqb b b' && (eqb c c' && eqb d d'))) → (a ≡ a') × (b ≡ b') × (c ≡ c') × (d ≡ d')
are_equal_4 a a' b b' c c' d d' t =
    let p = and_yes (eqb a a') (eqb b b' && (eqb c c' && eqb d d')) t in
    let r = are_equal_3 b b' c c' d d' p.1 in
    (eqb→eq a a' p.0, r.0, r.1, r.2)

pub are_equal_5 : (a a' b b' c c' d d' e e' : ℕ) → T (eqb a a' && (eqb b b' && (eqb c c' && (eqb d d' && eqb e e')))) → (a ≡ a') × (b ≡ b') × (c ≡ c') × (d ≡ d') × (e ≡ e')
are_equal_5 a a' b b' c c' d d' e e' t =
    let p = and_yes (eqb a a') (eqb b b' && (eqb c c' && (eqb d d' && eqb e e'))) t in
    let r = are_equal_4 b b' c c' d d' e e' p.1 in
    (eqb→eq a a' p.0, r.0, r.1, r.2, r.3)

-- ---- a test of either of two, that failed

pub neither_first : (p r : Bool) → (p || r) ≡ false → p ≡ false
neither_first true r e = e
neither_first false r e = refl

pub neither_second : (p r : Bool) → (p || r) ≡ false → r ≡ false
neither_second true r e = cc
neither_second false r e = e

pub and_false : (t : Bool) → (t && false) ≡ false
and_false true = refl
and_false false = refl
