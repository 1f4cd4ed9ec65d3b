-- Runs of classes that are added to sums, one after another.
use mathlib.Core.Path.{◌≡◌, refl, sym, ◌∙◌, ap, ap₂}
use mathlib.Core.List.{List, [], ◌∷◌}
use Prim.Native.Nat.{ℕ, zero, suc, ◌+◌, ◌≤◌, ◌<◌}
use native.Mathlib.Omega.{arith}
use native.Mathlib.Numerals.{add-one}
use lib.ListN.{length, get_or}
use Rattle.arrays.proofs.Changing.{Changed}
use Rattle.classes.specs.Classes.{plus, sum}
use Rattle.class_products.specs.Steps.{Empty, Filled, class_at, four, Sums}

pub changed_filled : {f : ℕ → ℕ} {l₀ l : List ℕ} {k : ℕ} → Changed (λ m i. get_or m i 0) f l₀ l k → length l₀ ≤ k → Filled f l₀ l
changed_filled h p = record { long = h.long; inside = λ i q. h.new i (omega arith) }

pub sum_none : (f : ℕ → ℕ) → 0 ≡ sum 0 f
unfolding sum
sum_none f = refl

pub sum_more : (f : ℕ → ℕ) (m : ℕ) → sum (m + 1) f ≡ plus (sum m f) (f m)
unfolding sum
sum_more f m = ap (λ (n : ℕ). sum n f) (add-one m)

pub sum_same : (n : ℕ) {f g : ℕ → ℕ} → ((i : ℕ) → i < n → f i ≡ g i) → sum n f ≡ sum n g
unfolding sum
sum_same zero h = refl
sum_same (suc n) h = ap₂ plus (sum_same n (λ i p. h i (omega arith))) (h n (omega arith))

sum_four : (f : ℕ → ℕ) (m : ℕ) → sum (m + 4) f ≡ plus (plus (plus (plus (sum m f) (f m)) (f (m + 1))) (f (m + 2))) (f (m + 3))
sum_four f m =
    next 3 ∙ ap (λ (z : ℕ). plus z (f (m + 3)))
    (next 2 ∙ ap (λ (z : ℕ). plus z (f (m + 2)))
    (next 1 ∙ ap (λ (z : ℕ). plus z (f (m + 1)))
    (sum_more f m)))
  where
    next : (i : ℕ) → sum (m + (i + 1)) f ≡ plus (sum (m + i) f) (f (m + i))
    next i = ap (λ (n : ℕ). sum n f) {x = m + (i + 1)} {y = m + i + 1} (omega arith) ∙ sum_more f (m + i)

module _ (rows starts : List ℕ) where
  pub sums_none : (l : List ℕ) → Empty l → Sums rows starts 0 l
  sums_none l h k p = h k ∙ sum_none (class_at rows starts k)

  -- one more
  pub sums_one : (m : ℕ) {l l' : List ℕ} {f : ℕ → ℕ} → ((k : ℕ) → k < length l → f k ≡ class_at rows starts k m) → Sums rows starts m l → Filled (λ k. plus (get_or l k 0) (f k)) l l' → Sums rows starts (m + 1) l'
  sums_one m e h g k p =
      let q = g.long in
      g.inside k (omega (arith, q))
      ∙ ap₂ plus (h k (omega (arith, q))) (e k (omega (arith, q)))
      ∙ sym (sum_more (class_at rows starts k) m)

  -- four more
  pub sums_four : (m : ℕ) {l l' : List ℕ} {a b c d : ℕ} → a ≡ get_or starts m 0 → b ≡ get_or starts (m + 1) 0 → c ≡ get_or starts (m + 2) 0 → d ≡ get_or starts (m + 3) 0 → Sums rows starts m l → Filled (four rows (a ∷ b ∷ c ∷ d ∷ []) l) l l' → Sums rows starts (m + 4) l'
  sums_four m {a = a} {b = b} {c = c} {d = d} ea eb ec ed h g k p =
      let q = g.long in
      g.inside k (omega (arith, q))
      ∙ ap₂ plus (ap₂ plus (ap₂ plus (ap₂ plus (h k (omega (arith, q))) (run ea)) (run eb)) (run ec)) (run ed)
      ∙ sym (sum_four (class_at rows starts k) m)
    where
      run : {i j : ℕ} → i ≡ j → get_or rows (i + k) 0 ≡ get_or rows (j + k) 0
      run e = ap (λ (i : ℕ). get_or rows (i + k) 0) e
