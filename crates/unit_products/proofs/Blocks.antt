-- The front of a block, filled with sums, and the sums of an array changed part after part.
use mathlib.Core.Path.{◌≡◌, sym, ◌∙◌, ap, subst}
use mathlib.Core.List.{List, ◌++◌}
use Prim.Native.Nat.{ℕ, ◌+◌, ◌-◌, ◌≤◌, ◌<◌}
use native.Mathlib.Omega.{arith}
use native.Mathlib.Decide.{dec_lt}
use lib.IntN.{ℤ, pos, nat_abs, ◌+ℤ◌}
use lib.ListN.{length, get_or, take, drop, length-append, length-drop, get_or-append, get_or-eq_default}
use lib.Seq.{length-take-le, get_or-append-add, get_or-take, get_or-drop}
use Rattle.arrays.specs.Arrays.{AllWithin}
use Rattle.arrays.proofs.Changing.{Changed}
use Rattle.unit_products.specs.Rotations.{Filled, Added}

-- ---- the first n numbers of a block are filled

module _ (n : ℕ) (block front : List ℤ) (g : ℕ → ℤ) (p : n ≤ length block) (h : Filled g (take n block) front) where
  pub front_long : length front ≡ n
  front_long = h.long ∙ length-take-le n block p

  pub front_at : (k : ℕ) → k < n → get_or front k (pos 0) ≡ g k
  front_at k q = h.inside k (omega (arith, length-take-le n block p))

  pub front_within : (b : ℕ) → ((k : ℕ) → nat_abs (g k) ≤ b) → AllWithin b front
  front_within b s k = go (dec_lt k n)
    where
      go : Dec (k < n) → nat_abs (get_or front k (pos 0)) ≤ b
      go (yes q) = subst (λ (z : ℤ). nat_abs z ≤ b) (sym (front_at k q)) (s k)
      go (no q) = subst (λ (z : ℤ). nat_abs z ≤ b) (sym (get_or-eq_default front (pos 0) (omega (arith, front_long)))) (omega arith)

  pub block_long : length (front ++ drop n block) ≡ length block
  block_long = omega (arith, length-append front (drop n block), length-drop n block, front_long)

-- ---- the same numbers, added under another name

pub added_same : {g g' : ℕ → ℤ} {l l' : List ℤ} → ((k : ℕ) → k < length l → g k ≡ g' k) → Added g l l' → Added g' l l'
added_same {l = l} e h = record {
  long = h.long;
  inside = λ k p. h.inside k p ∙ ap (λ (z : ℤ). get_or l k (pos 0) +ℤ z) (e k p);
}

-- ---- a part of a list, m numbers from place k on

module _ (k m : ℕ) (l : List ℤ) (p : k + m ≤ length l) where
  pub part_long : length (take m (drop k l)) ≡ m
  part_long = length-take-le m (drop k l) (omega (arith, length-drop k l))

  pub part_at : (j : ℕ) → j < m → get_or (take m (drop k l)) j (pos 0) ≡ get_or l (k + j) (pos 0)
  part_at j q = get_or-take m (drop k l) j (pos 0) q ∙ get_or-drop k l j (pos 0)

-- ---- one part more: the numbers from place k to place k + m are changed

module _ {f : ℕ → ℤ} {l₀ l : List ℤ} (k m : ℕ) (part : List ℤ) (h : Changed (λ n i. get_or n i (pos 0)) f l₀ l k) (e : length part ≡ m) (p : k + m ≤ length l) where
  abbrev placed : List ℤ
  placed = take k l ++ (part ++ drop m (drop k l))

  front : length (take k l) ≡ k
  front = length-take-le k l (omega arith)

  pub placed_long : length placed ≡ length l
  placed_long =
      omega (arith, length-append (take k l) (part ++ drop m (drop k l)), length-append part (drop m (drop k l)), length-drop m (drop k l), length-drop k l, front)

  before : (i : ℕ) → i < k → get_or placed i (pos 0) ≡ get_or l i (pos 0)
  before i q = get_or-append (take k l) _ (pos 0) i (omega (arith, front)) ∙ get_or-take k l i (pos 0) q

  from_k : (i : ℕ) → k ≤ i → get_or placed i (pos 0) ≡ get_or (part ++ drop m (drop k l)) (i - k) (pos 0)
  from_k i q =
      ap (λ (j : ℕ). get_or placed j (pos 0)) {x = i} {y = length (take k l) + (i - k)} (omega (arith, front))
      ∙ get_or-append-add (take k l) (part ++ drop m (drop k l)) (i - k) (pos 0)

  within : (i : ℕ) → k ≤ i → i < k + m → get_or placed i (pos 0) ≡ get_or part (i - k) (pos 0)
  within i q r = from_k i q ∙ get_or-append part (drop m (drop k l)) (pos 0) (i - k) (omega arith)

  after : (i : ℕ) → k + m ≤ i → get_or placed i (pos 0) ≡ get_or l i (pos 0)
  after i q =
      from_k i (omega arith)
      ∙ ap (λ (j : ℕ). get_or (part ++ drop m (drop k l)) j (pos 0)) {x = i - k} {y = length part + (i - k - m)} (omega arith)
      ∙ get_or-append-add part (drop m (drop k l)) (i - k - m) (pos 0)
      ∙ get_or-drop m (drop k l) (i - k - m) (pos 0)
      ∙ get_or-drop k l (m + (i - k - m)) (pos 0)
      ∙ ap (λ (j : ℕ). get_or l j (pos 0)) {x = k + (m + (i - k - m))} {y = i} (omega arith)

  pub part_changed : ((j : ℕ) → j < m → get_or part j (pos 0) ≡ f (k + j)) → Changed (λ n i. get_or n i (pos 0)) f l₀ placed (k + m)
  part_changed s = record {
    long = placed_long ∙ h.long;
    new = λ i q. go i (dec_lt i k) q;
    old = λ i q. after i q ∙ h.old i (omega arith);
  }
    where
      go : (i : ℕ) → Dec (i < k) → i < k + m → get_or placed i (pos 0) ≡ f i
      go i (yes r) q = before i r ∙ h.new i r
      go i (no r) q = within i (omega arith) q ∙ s (i - k) (omega arith) ∙ ap f {x = k + (i - k)} {y = i} (omega arith)
