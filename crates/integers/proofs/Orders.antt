-- Lists in another order: a test of each element, and whether two elements have the same key.
use mathlib.Core.Path.{◌≡◌, refl, sym, ◌∙◌, ap, ap₂}
use mathlib.Core.Bool.{Bool, true, false, ◌||◌}
use mathlib.Core.List.{List, ◌∷◌, Permᴰ}
use Prim.Native.Nat.{ℕ, suc}
use native.Mathlib.Decide.{ℕ_discrete}
use borrow.Author.Tests.{eq-eqb, ne_eqb}
use lib.Dec.{eqb}
use lib.ListN.{length}

or_swap : (x y z : Bool) → (x || (y || z)) ≡ (y || (x || z))
or_swap true true z = refl
or_swap true false z = refl
or_swap false true z = refl
or_swap false false z = refl

eqb_sym : (a b : ℕ) → eqb a b ≡ eqb b a
eqb_sym a b = go (ℕ_discrete a b)
  where
    go : Dec (a ≡ b) → eqb a b ≡ eqb b a
    go (yes e) = eq-eqb a b e ∙ sym (eq-eqb b a (sym e))
    go (no n) = ne_eqb a b n ∙ sym (ne_eqb b a (λ e. n (sym e)))

module _ {E : Type 0} where
  pub length_order : {l l' : List E} → Permᴰ l l' → length l ≡ length l'
  length_order Permᴰ.nil = refl
  length_order (Permᴰ.cons e d) = ap suc (length_order d)
  length_order (Permᴰ.swap e f) = refl
  length_order (Permᴰ.trans d d') = length_order d ∙ length_order d'

  -- a test of every element
  module _ (t : E → Bool) (any : List E → Bool) (any-more : (r : E) (l : List E) → any (r ∷ l) ≡ (t r || any l)) where
    pub any_order : {l l' : List E} → Permᴰ l l' → any l ≡ any l'
    any_order Permᴰ.nil = refl
    any_order (Permᴰ.cons {a = a} {b = b} {l₁ = l} {l₂ = l'} e d) = any-more a l ∙ ap₂ (λ (r : E) (u : Bool). t r || u) e (any_order d) ∙ sym (any-more b l')
    any_order (Permᴰ.swap {a = a} {b = b} {a' = a'} {b' = b'} {l = l} e f) =
        two a b ∙ or_swap (t a) (t b) (any l) ∙ ap₂ (λ (r s : E). t r || (t s || any l)) f e ∙ sym (two a' b')
      where
        two : (r s : E) → any (r ∷ s ∷ l) ≡ (t r || (t s || any l))
        two r s = any-more r (s ∷ l) ∙ ap (λ (u : Bool). t r || u) (any-more s l)
    any_order (Permᴰ.trans d d') = any_order d ∙ any_order d'

  -- whether a key occurs, and whether one occurs twice
  module _ (key : E → ℕ) (occurs : ℕ → List E → Bool) (occurs-more : (i : ℕ) (r : E) (l : List E) → occurs i (r ∷ l) ≡ (eqb (key r) i || occurs i l))
      (twice : List E → Bool) (twice-more : (r : E) (l : List E) → twice (r ∷ l) ≡ (occurs (key r) l || twice l)) where
    occurs_order : (i : ℕ) {l l' : List E} → Permᴰ l l' → occurs i l ≡ occurs i l'
    occurs_order i = any_order (λ r. eqb (key r) i) (occurs i) (occurs-more i)

    pub twice_order : {l l' : List E} → Permᴰ l l' → twice l ≡ twice l'
    twice_order Permᴰ.nil = refl
    twice_order (Permᴰ.cons {a = a} {b = b} {l₁ = l} {l₂ = l'} e d) =
        twice-more a l ∙ ap₂ ◌||◌ (occurs_order (key a) d ∙ ap (λ (r : E). occurs (key r) l') e) (twice_order d) ∙ sym (twice-more b l')
    twice_order (Permᴰ.swap {a = a} {b = b} {a' = a'} {b' = b'} {l = l} e f) =
        two a b
        ∙ ap (λ (t : Bool). (t || occurs (key a) l) || (occurs (key b) l || twice l)) (eqb_sym (key b) (key a))
        ∙ crossed (eqb (key a) (key b)) (occurs (key a) l) (occurs (key b) l)
        ∙ ap₂ (λ (r s : E). (eqb (key s) (key r) || occurs (key r) l) || (occurs (key s) l || twice l)) f e
        ∙ sym (two a' b')
      where
        two : (r s : E) → twice (r ∷ s ∷ l) ≡ ((eqb (key s) (key r) || occurs (key r) l) || (occurs (key s) l || twice l))
        two r s = twice-more r (s ∷ l) ∙ ap₂ ◌||◌ (occurs-more (key r) s l) (twice-more s l)

        crossed : (x u v : Bool) → ((x || u) || (v || twice l)) ≡ ((x || v) || (u || twice l))
        crossed true u v = refl
        crossed false true true = refl
        crossed false true false = refl
        crossed false false true = refl
        crossed false false false = refl
    twice_order (Permᴰ.trans d d') = twice_order d ∙ twice_order d'
