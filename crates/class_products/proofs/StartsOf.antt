-- The list of where runs begin, as it grows.
use mathlib.Core.Path.{◌≡◌, sym, ◌∙◌, ap, ap₂, subst}
use mathlib.Core.Bool.{Bool, cond}
use mathlib.Core.List.{List}
use Prim.Native.Nat.{ℕ, zero, suc, ◌+◌, ◌-◌, ◌*◌, ◌≤◌, ◌<◌}
use native.Mathlib.Omega.{arith}
use native.Mathlib.Decide.{ℕ_discrete}
use borrow.Author.Tests.{eq-eqb, ne_eqb}
use lib.Bits.{xor_zero_r}
use lib.ListN.{get_or, set}
use lib.Seq.{get_or-set_other}
use Rattle.classes.specs.Classes.{plus, sum}
use Rattle.class_products.specs.Steps.{row_start, brought, Starts}
use Rattle.class_products.proofs.RunSums.{sum_none, sum_more, sum_same}

pub row_start_most : (n c : ℕ) → row_start n c ≤ 4 * n
unfolding row_start
row_start_most n zero = omega arith
row_start_most n (suc zero) = omega arith
row_start_most n (suc (suc zero)) = omega arith
row_start_most n (suc (suc (suc zero))) = omega arith
row_start_most n (suc (suc (suc (suc c)))) = omega arith

module _ (n : ℕ) (x : ℕ → ℕ) where
  pub starts_none : (l : List ℕ) → Starts n 0 x l 0
  starts_none l = record { few = omega arith; below = λ i p. absurd (omega arith); sums = λ f. sym (sum_none (λ i. f (get_or l i 0))) ∙ sum_none (λ j. brought n f (x j) j) }

  -- a start written after them
  pub starts_kept : {m count : ℕ} (l : List ℕ) (v : ℕ) → Starts n m x l count → Starts n m x (set l count v) count
  starts_kept {m} {count} l v h = record {
    few = h.few;
    below = λ i p. subst (λ (k : ℕ). k ≤ 5 * n) (sym (kept i p)) (h.below i p);
    sums = λ f. sum_same count (λ i p. ap f (kept i p)) ∙ h.sums f;
  }
    where
      kept : (i : ℕ) → i < count → get_or (set l count v) i 0 ≡ get_or l i 0
      kept i p = get_or-set_other l count i v 0 (λ e. absurd (omega arith))

  -- the next one counts
  pub starts_more : {m count : ℕ} (l : List ℕ) → m < n → Starts n m x l count → get_or l count 0 ≡ row_start n (x m) + (n - m) → (x m ≡ 0 → ⊥) → Starts n (m + 1) x l (count + 1)
  starts_more {m} {count} l q h e z = record {
    few = omega (arith, h.few);
    below = λ i p. go i (ℕ_discrete i count) p;
    sums = λ f.
        sum_more (λ i. f (get_or l i 0)) count
        ∙ ap₂ plus (h.sums f) (ap f e ∙ sym (ap (λ (t : Bool). cond t 0 (f (row_start n (x m) + (n - m)))) (ne_eqb (x m) 0 z)))
        ∙ sym (sum_more (λ j. brought n f (x j) j) m);
  }
    where
      go : (i : ℕ) → Dec (i ≡ count) → i < count + 1 → get_or l i 0 ≤ 5 * n
      go i (yes r) p = omega (arith, ap (λ (k : ℕ). get_or l k 0) r, e, row_start_most n (x m))
      go i (no r) p = h.below i (omega arith)

  -- it does not
  pub starts_same : {m count : ℕ} (l : List ℕ) → Starts n m x l count → x m ≡ 0 → Starts n (m + 1) x l count
  starts_same {m} {count} l h z = record {
    few = omega (arith, h.few);
    below = h.below;
    sums = λ f.
        h.sums f
        ∙ sym (xor_zero_r (sum m (λ j. brought n f (x j) j)))
        ∙ ap (plus (sum m (λ j. brought n f (x j) j))) (sym (ap (λ (t : Bool). cond t 0 (f (row_start n (x m) + (n - m)))) (eq-eqb (x m) 0 z)))
        ∙ sym (sum_more (λ j. brought n f (x j) j) m);
  }
