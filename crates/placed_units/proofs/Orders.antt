-- The same records in another order: what is asked of a list, and what it spreads to, is the same.
use mathlib.Core.Path.{◌≡◌, refl, sym, ◌∙◌, ap₂, subst}
use mathlib.Core.Bool.{Bool, true, false, cond, ◌||◌}
use mathlib.Core.List.{List, Permᴰ}
use Prim.Native.Nat.{ℕ}
use borrow.Author.Tests.{eqb-true, eq-eqb}
use lib.Dec.{T, eqb}
use Rattle.integers.proofs.Orders.{any_order, twice_order as key-twice-order}
use Rattle.integers.proofs.Tests.{neither_first, neither_second}
use Rattle.eisenstein.specs.Values.{ℤ[ω], unit}
use Rattle.placed_units.specs.declared.PlacedUnit.{PlacedUnit}
use Rattle.placed_units.specs.PlacedUnits.{out_of_range, any_out_of_range, occurs, any_place_twice, spread}

pub out_of_range_order : (N : ℕ) {l l' : List PlacedUnit} → Permᴰ l l' → any_out_of_range N l ≡ any_out_of_range N l'
unfolding any_out_of_range
out_of_range_order N = any_order (out_of_range N) (any_out_of_range N) (λ r places. refl)

pub twice_order : {l l' : List PlacedUnit} → Permᴰ l l' → any_place_twice l ≡ any_place_twice l'
unfolding any_place_twice occurs
twice_order = key-twice-order (λ r. r.place) occurs (λ i r places. refl) any_place_twice (λ r places. refl)

pub spread_order : {l l' : List PlacedUnit} → Permᴰ l l' → any_place_twice l ≡ false → (i : ℕ) → spread l i ≡ spread l' i
unfolding spread any_place_twice occurs
spread_order Permᴰ.nil h i = refl
spread_order (Permᴰ.cons {a = a} {b = b} {l₁ = l} {l₂ = l'} e d) h i =
    ap₂ (λ (r : PlacedUnit) (x : ℤ[ω]). cond (eqb r.place i) (unit r.unit) x) e (spread_order d (neither_second (occurs a.place l) (any_place_twice l) h) i)
spread_order (Permᴰ.swap {a = a} {b = b} {a' = a'} {b' = b'} {l = l} e f) h i =
    go (eqb a.place i) (eqb b.place i) refl refl
    ∙ ap₂ (λ (r s : PlacedUnit). cond (eqb r.place i) (unit r.unit) (cond (eqb s.place i) (unit s.unit) (spread l i))) f e
  where
    apart : eqb b.place a.place ≡ false
    apart = neither_first (eqb b.place a.place) (occurs a.place l) (neither_first (eqb b.place a.place || occurs a.place l) (occurs b.place l || any_place_twice l) h)

    go : (t u : Bool) → eqb a.place i ≡ t → eqb b.place i ≡ u → cond t (unit a.unit) (cond u (unit b.unit) (spread l i)) ≡ cond u (unit b.unit) (cond t (unit a.unit) (spread l i))
    go true true p q = absurd (subst T (sym (eq-eqb b.place a.place (eqb-true b.place i q ∙ sym (eqb-true a.place i p))) ∙ apart) tt)
    go true false p q = refl
    go false true p q = refl
    go false false p q = refl
spread_order (Permᴰ.trans {l₂ = m} d d') h i = spread_order d h i ∙ spread_order d' (sym (twice_order d) ∙ h) i
