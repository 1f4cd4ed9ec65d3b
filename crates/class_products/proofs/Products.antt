-- The sums of the runs that one operand brings, of rows along the other, are the classes of the convolution.
use mathlib.Core.Path.{◌≡◌, refl, sym, ◌∙◌, ap}
use mathlib.Core.Bool.{Bool, cond}
use mathlib.Core.List.{List}
use Prim.Native.Nat.{ℕ, zero, suc, ◌+◌, ◌-◌, ◌%◌, ◌≤◌, ◌<◌}
use native.Mathlib.Omega.{arith}
use native.Mathlib.Decide.{dec_le, ℕ_discrete}
use native.Mathlib.Nat.{mod-eq_of_lt, mod-eq-sub-mod, mod-lt}
use borrow.Author.Tests.{eq-eqb, ne_eqb}
use lib.ListN.{length, get_or}
use Rattle.eisenstein.specs.Reduction.{mod2}
use Rattle.polynomials.specs.Polynomials.{Polynomial, convolution}
use Rattle.polynomials.proofs.Promises.{convolution_single}
use Rattle.classes.specs.Classes.{remainder_of, class_of, product, sum}
use Rattle.classes.proofs.Standing.{Stands, stands, stands_product, stands_sum}
use Rattle.class_products.specs.Steps.{row_start, brought, Rows, Starts, Sums}
use Rattle.class_products.proofs.RunSums.{sum_same}

-- class 0 times any class
product_zero : (c : ℕ) → c < 4 → 0 ≡ product 0 c
unfolding product
product_zero zero p = refl
product_zero (suc zero) p = refl
product_zero (suc (suc zero)) p = refl
product_zero (suc (suc (suc zero))) p = refl
product_zero (suc (suc (suc (suc c)))) p = absurd (omega arith)

module _ (n : ℕ) (x y : Polynomial) (xs ys rows starts sums : List ℕ) (count : ℕ) (hx : (j : ℕ) → j < n → get_or xs j 0 ≡ class_of (x j)) (hy : (k : ℕ) → k < n → get_or ys k 0 ≡ class_of (y k)) (hr : Rows n (λ k. get_or ys k 0) rows) (hs : Starts n n (λ j. get_or xs j 0) starts count) (hz : Sums rows starts count sums) (long : n ≤ length sums) where
  -- where y's coefficient stands that x's coefficient j takes to k
  abbrev place : ℕ → ℕ → ℕ
  place j k = (k + (n - j)) % n

  below : (j k : ℕ) → k < n → place j k < n
  below j k p = mod-lt (k + (n - j)) (omega arith)

  -- a row rotated by j
  rotated : (c j k : ℕ) → 0 < c → c < 4 → j < n → k < n → get_or rows (row_start n c + (n - j) + k) 0 ≡ product c (class_of (y (place j k)))
  rotated c j k p q r t = go (dec_le n (k + (n - j))) ∙ ap (product c) (hy (place j k) (below j k t))
    where
      at : (i l : ℕ) → i ≡ l → get_or rows i 0 ≡ get_or rows l 0
      at i l e = ap (λ (m : ℕ). get_or rows m 0) e

      go : Dec (n ≤ k + (n - j)) → get_or rows (row_start n c + (n - j) + k) 0 ≡ product c (get_or ys (place j k) 0)
      go (yes w) =
          let e : place j k ≡ k + (n - j) - n = mod-eq-sub-mod w ∙ mod-eq_of_lt (omega arith) in
          at (row_start n c + (n - j) + k) (row_start n c + n + place j k) (omega (arith, e)) ∙ hr.second c (place j k) p q (below j k t)
      go (no w) =
          let e : place j k ≡ k + (n - j) = mod-eq_of_lt (omega arith) in
          at (row_start n c + (n - j) + k) (row_start n c + place j k) (omega (arith, e)) ∙ hr.first c (place j k) p q (below j k t)

  -- what coefficient j of x brings to k
  term : (j k : ℕ) → j < n → k < n → brought n (λ a. get_or rows (a + k) 0) (class_of (x j)) j ≡ product (class_of (x j)) (class_of (y (place j k)))
  term j k p q = go (ℕ_discrete (class_of (x j)) 0)
    where
      f : ℕ
      f = get_or rows (row_start n (class_of (x j)) + (n - j) + k) 0

      go : Dec (class_of (x j) ≡ 0) → brought n (λ a. get_or rows (a + k) 0) (class_of (x j)) j ≡ product (class_of (x j)) (class_of (y (place j k)))
      go (yes e) = ap (λ (t : Bool). cond t 0 f) (eq-eqb (class_of (x j)) 0 e) ∙ product_zero (class_of (y (place j k))) (stands (y (place j k))).below ∙ ap (λ (c : ℕ). product c (class_of (y (place j k)))) (sym e)
      go (no e) = ap (λ (t : Bool). cond t 0 f) (ne_eqb (class_of (x j)) 0 e) ∙ rotated (class_of (x j)) j k (omega (arith, e)) (stands (x j)).below p q

  pub sums_are : (k : ℕ) → k < n → remainder_of (get_or sums k 0 % 4) ≡ mod2 (convolution n x y k)
  sums_are k p =
      let s : ℕ = sum n (λ j. product (class_of (x j)) (class_of (y (place j k)))) in
      let e : get_or sums k 0 ≡ s = hz k (omega (arith, long)) ∙ hs.sums (λ a. get_or rows (a + k) 0) ∙ sum_same n (λ j q. ap (λ (c : ℕ). brought n (λ a. get_or rows (a + k) 0) c j) (hx j q) ∙ term j k q p) in
      let h : Stands s _ = stands_sum n (λ j q. stands_product (stands (x j)) (stands (y (place j k)))) in
      ap (λ (z : ℕ). remainder_of (z % 4)) e
      ∙ ap remainder_of (mod-eq_of_lt h.below)
      ∙ h.is
      ∙ ap mod2 (sym (convolution_single n x y k p))
