-- The tests of equality, of integers and of values of Z[ω].
use mathlib.Core.Path.{◌≡◌, refl, sym, ◌∙◌, ap, ap₂, subst}
use mathlib.Core.Bool.{Bool, true, false, ◌&&◌}
use mathlib.Core.Logic.{◌≢◌}
use borrow.Author.Tests.{eq-eqb, ne_eqb}
use lib.Dec.{T, eqb, eqb→eq, eqb_refl}
use lib.IntN.{ℤ, pos, negsuc, ℤ_discrete}
use mir.Syntax.{Width}
use mir.Val.{SFits, of_z}
use mir.Facts.{and_yes}
use Rattle.integers.proofs.Machine.{bits_same}
use Rattle.eisenstein.specs.Values.{ℤ[ω], value, same, same_ℤ}

pub same_ℤ_yes : (x y : ℤ) → T (same_ℤ x y) → x ≡ y
unfolding same_ℤ
same_ℤ_yes (pos m) (pos n) t = ap pos (eqb→eq m n t)
same_ℤ_yes (pos m) (negsuc n) t = absurd t
same_ℤ_yes (negsuc m) (pos n) t = absurd t
same_ℤ_yes (negsuc m) (negsuc n) t = ap negsuc (eqb→eq m n t)

pub same_ℤ_refl : (x : ℤ) → T (same_ℤ x x)
unfolding same_ℤ
same_ℤ_refl (pos n) = eqb_refl n
same_ℤ_refl (negsuc n) = eqb_refl n

pub is_true : (t : Bool) → T t → t ≡ true
is_true true h = refl
is_true false h = absurd h

pub is_false : (t : Bool) → (T t → ⊥) → t ≡ false
is_false true h = absurd (h tt)
is_false false h = refl

pub same_ℤ_true : {x y : ℤ} → x ≡ y → same_ℤ x y ≡ true
same_ℤ_true {x} {y} e = is_true (same_ℤ x y) (subst (λ (z : ℤ). T (same_ℤ x z)) e (same_ℤ_refl x))

pub same_ℤ_false : {x y : ℤ} → x ≢ y → same_ℤ x y ≡ false
same_ℤ_false {x} {y} h = is_false (same_ℤ x y) (λ t. h (same_ℤ_yes x y t))

-- a test of bits is a test of the numbers
pub same_bits : {w : Width} (x y : ℤ) → SFits w x → SFits w y → eqb (of_z w x) (of_z w y) ≡ same_ℤ x y
same_bits {w} x y f g = go (ℤ_discrete x y)
  where
    go : Dec (x ≡ y) → eqb (of_z w x) (of_z w y) ≡ same_ℤ x y
    go (yes e) = eq-eqb (of_z w x) (of_z w y) (ap (of_z w) e) ∙ sym (same_ℤ_true e)
    go (no h) = ne_eqb (of_z w x) (of_z w y) (λ e. h (bits_same f g e)) ∙ sym (same_ℤ_false h)

pub same_yes : (x y : ℤ[ω]) → T (same x y) → x ≡ y
unfolding same
same_yes x y t =
    let (e, f) = and_yes (same_ℤ x.a y.a) (same_ℤ x.b y.b) t in
    ap₂ value (same_ℤ_yes x.a y.a e) (same_ℤ_yes x.b y.b f)

pub same_true : {x y : ℤ[ω]} → x ≡ y → same x y ≡ true
unfolding same
same_true e = ap₂ ◌&&◌ (same_ℤ_true (ap (λ (z : ℤ[ω]). z.a) e)) (same_ℤ_true (ap (λ (z : ℤ[ω]). z.b) e))

pub same_false : (x y : ℤ[ω]) → x ≢ y → same x y ≡ false
same_false x y h = is_false (same x y) (λ t. h (same_yes x y t))
