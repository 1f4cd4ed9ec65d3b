-- Classes laid out from a place on, one after another, and twice.
use mathlib.Core.Path.{◌≡◌, refl, sym, ◌∙◌, ap}
use mathlib.Core.List.{List}
use Prim.Native.Nat.{ℕ, zero, suc, ◌+◌, ◌*◌, ◌<◌}
use native.Mathlib.Omega.{arith}
use native.Mathlib.Decide.{ℕ_discrete}
use lib.ListN.{length, get_or, set, length-set}
use lib.Seq.{get_or-set_same, get_or-set_other}
use Rattle.classes.specs.Classes.{product}
use Rattle.class_products.specs.Steps.{Laid, LaidTwice, Rows, row_start}

module _ {f : ℕ → ℕ} {start : ℕ} {l₀ : List ℕ} where
  pub laid_none : Laid 0 f start l₀ l₀
  laid_none = record { long = refl; inside = λ k p. absurd (omega arith); before = λ i p. refl; after = λ i p. refl }

  -- one class more
  pub laid_next : {l : List ℕ} {k v : ℕ} → Laid k f start l₀ l → start + k < length l → v ≡ f k → Laid (k + 1) f start l₀ (set l (start + k) v)
  laid_next {l} {k} {v} h p e = record {
    long = length-set l (start + k) v ∙ h.long;
    inside = λ i q. go i (ℕ_discrete i k) q;
    before = λ i q. get_or-set_other l (start + k) i v 0 (λ r. absurd (omega arith)) ∙ h.before i q;
    after = λ i q. get_or-set_other l (start + k) i v 0 (λ r. absurd (omega arith)) ∙ h.after i (omega arith);
  }
    where
      go : (i : ℕ) → Dec (i ≡ k) → i < k + 1 → get_or (set l (start + k) v) (start + i) 0 ≡ f i
      go i (yes r) q = ap (λ (m : ℕ). get_or (set l (start + k) v) (start + m) 0) r ∙ get_or-set_same l (start + k) v 0 p ∙ e ∙ ap f (sym r)
      go i (no r) q = get_or-set_other l (start + k) (start + i) v 0 (λ s. absurd (omega (arith, r))) ∙ h.inside i (omega arith)

  -- the same classes again after them
  pub laid_twice : {n : ℕ} {l l' : List ℕ} → Laid n f start l₀ l → Laid n (λ k. get_or l (start + k) 0) (start + n) l l' → LaidTwice n f start l₀ l'
  laid_twice {n} h g = record {
    long = g.long ∙ h.long;
    first = λ k p. g.before (start + k) (omega arith) ∙ h.inside k p;
    second = λ k p. g.inside k p ∙ h.inside k p;
    before = λ i p. g.before i (omega arith) ∙ h.before i p;
    after = λ i p. g.after i (omega arith) ∙ h.after i (omega arith);
  }

-- ---- three rows

start_1 : (n : ℕ) → row_start n 1 ≡ 0
unfolding row_start
start_1 n = refl

start_2 : (n : ℕ) → row_start n 2 ≡ 2 * n
unfolding row_start
start_2 n = refl

start_3 : (n : ℕ) → row_start n 3 ≡ 4 * n
unfolding row_start
start_3 n = refl

module _ (n : ℕ) (f : ℕ → ℕ) {l₀ l₁ l₂ l₃ : List ℕ} (h₁ : LaidTwice n (λ k. product 1 (f k)) 0 l₀ l₁) (h₂ : LaidTwice n (λ k. product 2 (f k)) (2 * n) l₁ l₂) (h₃ : LaidTwice n (λ k. product 3 (f k)) (4 * n) l₂ l₃) where
  -- what stands at a place of l₃
  at : (i j : ℕ) → i ≡ j → get_or l₃ i 0 ≡ get_or l₃ j 0
  at i j e = ap (λ (m : ℕ). get_or l₃ m 0) e

  pub rows_laid : Rows n f l₃
  rows_laid = record { first = first; second = second }
    where
      first : (c k : ℕ) → 0 < c → c < 4 → k < n → get_or l₃ (row_start n c + k) 0 ≡ product c (f k)
      first zero k p q r = absurd (omega arith)
      first (suc zero) k p q r = at _ (0 + k) (omega (arith, start_1 n)) ∙ h₃.before (0 + k) (omega arith) ∙ h₂.before (0 + k) (omega arith) ∙ h₁.first k r
      first (suc (suc zero)) k p q r = at _ (2 * n + k) (omega (arith, start_2 n)) ∙ h₃.before (2 * n + k) (omega arith) ∙ h₂.first k r
      first (suc (suc (suc zero))) k p q r = at _ (4 * n + k) (omega (arith, start_3 n)) ∙ h₃.first k r
      first (suc (suc (suc (suc c)))) k p q r = absurd (omega arith)

      second : (c k : ℕ) → 0 < c → c < 4 → k < n → get_or l₃ (row_start n c + n + k) 0 ≡ product c (f k)
      second zero k p q r = absurd (omega arith)
      second (suc zero) k p q r = at _ (0 + n + k) (omega (arith, start_1 n)) ∙ h₃.before (0 + n + k) (omega arith) ∙ h₂.before (0 + n + k) (omega arith) ∙ h₁.second k r
      second (suc (suc zero)) k p q r = at _ (2 * n + n + k) (omega (arith, start_2 n)) ∙ h₃.before (2 * n + n + k) (omega arith) ∙ h₂.second k r
      second (suc (suc (suc zero))) k p q r = at _ (4 * n + n + k) (omega (arith, start_3 n)) ∙ h₃.second k r
      second (suc (suc (suc (suc c)))) k p q r = absurd (omega arith)
