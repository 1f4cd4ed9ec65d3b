-- A loop that combines a part of a list with another.
use mathlib.Core.Path.{◌≡◌, refl, sym, ◌∙◌, subst}
use mathlib.Core.Logic.{◌≢◌}
use mathlib.Core.List.{List}
use Prim.Native.Nat.{ℕ, ◌+◌, ◌-◌, ◌≤◌, ◌<◌}
use native.Mathlib.Omega.{arith}
use native.Mathlib.Decide.{ℕ_discrete, dec_lt}
use lib.IntN.{ℤ, pos, nat_abs}
use lib.ListN.{length, get_or, set, length-set}
use lib.Seq.{get_or-set_same, get_or-set_other}
use Rattle.std.proofs.lemmas.List.{get_or_read_under, get_or_default}
use Rattle.halved_products.specs.Steps.{Put, Combined}

pub given_both : {A : Type 0} (P : A → A → Type 0) {a b c d : A} → a ≡ c → b ≡ d → P a b → P c d
given_both P {a} {b} {c} {d} e f h = subst (P c) f (subst (λ (z : _). P z b) e h)

module _ {A : Type 0} {post : A → A → A → Type 0} {to from : ℕ} {l₀ l : List A} {k : ℕ} (h : Combined post to from l₀ l k) where
  -- a place that the loop has not changed
  unchanged : (d : A) (i : ℕ) → ((j : ℕ) → j < k → i ≢ to + j) → get_or l i d ≡ get_or l₀ i d
  unchanged d i n = go (dec_lt i to) (dec_lt (i - to) k)
    where
      go : Dec (i < to) → Dec (i - to < k) → get_or l i d ≡ get_or l₀ i d
      go (yes p) q = h.below d i p
      go (no p) (yes q) = absurd (n (i - to) q (omega arith))
      go (no p) (no q) = subst (λ (m : ℕ). get_or l m d ≡ get_or l₀ m d) {x = to + (i - to)} (omega arith) (h.above d (i - to) (omega arith))

  -- what is read there
  pub read_old : (d : A) (i : ℕ) (r : A) → ((j : ℕ) → j < k → i ≢ to + j) → i < length l → r ≡ get_or l i r → r ≡ get_or l₀ i d
  read_old d i r n p e = get_or_read_under l i (length l) r d e p refl ∙ unchanged d i n

  pub combined_next : {v : A} → to + k < length l → ((d : A) → post (get_or l₀ (to + k) d) (get_or l₀ (from + k) d) v) → Combined post to from l₀ (set l (to + k) v) (k + 1)
  combined_next {v} q e = record {
    long = length-set l (to + k) v ∙ h.long;
    new = λ d i r. go d i (ℕ_discrete i k) r;
    below = λ d i r. get_or-set_other l (to + k) i v d (λ s. absurd (omega arith)) ∙ h.below d i r;
    above = λ d i r. get_or-set_other l (to + k) (to + i) v d (λ s. absurd (omega arith)) ∙ h.above d i (omega arith);
  }
    where
      go : (d : A) (i : ℕ) → Dec (i ≡ k) → i < k + 1 → post (get_or l₀ (to + i) d) (get_or l₀ (from + i) d) (get_or (set l (to + k) v) (to + i) d)
      go d i (yes s) r = subst (λ (m : ℕ). post (get_or l₀ (to + m) d) (get_or l₀ (from + m) d) (get_or (set l (to + k) v) (to + m) d)) (sym s) (subst (post (get_or l₀ (to + k) d) (get_or l₀ (from + k) d)) (sym (get_or-set_same l (to + k) v d q)) (e d))
      go d i (no s) r = subst (post (get_or l₀ (to + i) d) (get_or l₀ (from + i) d)) (sym (get_or-set_other l (to + k) (to + i) v d (λ t. s (omega arith)))) (h.new d i (omega arith))

-- numbers, where the operation gives f
pub put_by : {post : ℤ → ℤ → ℤ → Type 0} {to from count : ℕ} {f : ℕ → ℤ} {l₀ l : List ℤ} → Combined post to from l₀ l count → ((i : ℕ) (v : ℤ) → i < count → post (get_or l₀ (to + i) (pos 0)) (get_or l₀ (from + i) (pos 0)) v → v ≡ f i) → Put f to l₀ l count
put_by {to = to} {l = l} h e = record { long = h.long; new = λ i p. e i (get_or l (to + i) (pos 0)) p (h.new (pos 0) i p); below = h.below (pos 0); above = h.above (pos 0) }

-- a place past those that were put
pub unread_above : {f : ℕ → ℤ} {p : ℕ} {l₀ l : List ℤ} {k : ℕ} (i : ℕ) → Put f p l₀ l k → p + k ≤ i → get_or l i (pos 0) ≡ get_or l₀ i (pos 0)
unread_above {p = p} {l₀} {l} {k} i h q = subst (λ (m : ℕ). get_or l m (pos 0) ≡ get_or l₀ m (pos 0)) {x = p + (i - p)} (omega arith) (h.above (i - p) (omega arith))

-- the same number at any default
pub at_default : (l : List ℤ) (i : ℕ) (d : ℤ) {b : ℕ} → i < length l → nat_abs (get_or l i (pos 0)) ≤ b → nat_abs (get_or l i d) ≤ b
at_default l i d {b} p = subst (λ (z : ℤ). nat_abs z ≤ b) (get_or_default l i (pos 0) d p)
