-- Laws of the product before the wrap: sums, shifts, zeros, and where it is wrapped.
use mathlib.Core.Path.{◌≡◌, refl, sym, ◌∙◌, ap, ap₂}
use mathlib.Core.Bool.{Bool, true, false, cond}
use mathlib.Core.List.{List}
use Prim.Native.Nat.{ℕ, suc, ◌+◌, ◌-◌, ◌*◌, ◌≤◌, ◌<◌}
use native.Mathlib.Omega.{arith}
use native.Mathlib.Decide.{dec_lt, dec_le}
use borrow.Author.Tests.{lt-ltb, le-ltb}
use lib.Dec.{ltb}
use lib.IntN.{ℤ, pos}
use lib.ListN.{length, get_or-eq_default}
use Rattle.eisenstein.specs.Values.{ℤ[ω], value, 𝟘, ◌+ω◌, ◌*ω◌}
use Rattle.eisenstein.proofs.Laws.{+ω-zero, *ω-zero}
use Rattle.polynomials.specs.Polynomials.{Polynomial, coefficient, sum, convolution}
use Rattle.polynomials.proofs.Sums.{zero-add, zero-mul, total_zero}
use Rattle.polynomials.proofs.Eisenstein.{ring, sum_is, sum_same, sum-split, convolution-same, convolution-split}
use Rattle.polynomials.proofs.Promises.{convolution_commutes, convolution_adds}
use Rattle.halving.specs.Products.{product, wrapped, low, high, shift}

pub zero-+ω : (x : ℤ[ω]) → 𝟘 +ω x ≡ x
zero-+ω = zero-add ring

zero-*ω : (x : ℤ[ω]) → 𝟘 *ω x ≡ 𝟘
zero-*ω = zero-mul ring

sum_zero : (n : ℕ) {x : Polynomial} → ((i : ℕ) → i < n → x i ≡ 𝟘) → sum n x ≡ 𝟘
sum_zero n {x} h = sum_is n x ∙ total_zero ring n h

-- ---- Halves and shifts

pub low-is : (h : ℕ) (x : Polynomial) (i : ℕ) → i < h → low h x i ≡ x i
unfolding low
low-is h x i p = ap (λ (t : Bool). cond t (x i) 𝟘) (lt-ltb i h p)

pub low-past : (h : ℕ) (x : Polynomial) (i : ℕ) → h ≤ i → low h x i ≡ 𝟘
unfolding low
low-past h x i p = ap (λ (t : Bool). cond t (x i) 𝟘) (le-ltb i h p)

pub shift-low : (h : ℕ) (x : Polynomial) (i : ℕ) → i < h → shift h x i ≡ 𝟘
unfolding shift
shift-low h x i p = ap (λ (t : Bool). cond t 𝟘 (x (i - h))) (lt-ltb i h p)

pub shift-high : (h : ℕ) (x : Polynomial) (i : ℕ) → h ≤ i → shift h x i ≡ x (i - h)
unfolding shift
shift-high h x i p = ap (λ (t : Bool). cond t 𝟘 (x (i - h))) (le-ltb i h p)

pub shift_same : (h : ℕ) {x y : Polynomial} (i : ℕ) → ((k : ℕ) → x k ≡ y k) → shift h x i ≡ shift h y i
unfolding shift
shift_same h i e = ap (cond (ltb i h) 𝟘) (e (i - h))

pub shift_add : (h : ℕ) (x y : Polynomial) (i : ℕ) → shift h (λ k. x k +ω y k) i ≡ shift h x i +ω shift h y i
unfolding shift
shift_add h x y i = go (ltb i h)
  where
    go : (t : Bool) → cond t 𝟘 (x (i - h) +ω y (i - h)) ≡ cond t 𝟘 (x (i - h)) +ω cond t 𝟘 (y (i - h))
    go true = sym (+ω-zero 𝟘)
    go false = refl

pub shift_twice : (h : ℕ) (x : Polynomial) (i : ℕ) → shift h (shift h x) i ≡ shift (2 * h) x i
shift_twice h x i = go (dec_lt i h) (dec_lt i (2 * h))
  where
    go : Dec (i < h) → Dec (i < 2 * h) → shift h (shift h x) i ≡ shift (2 * h) x i
    go (yes p) q = shift-low h (shift h x) i p ∙ sym (shift-low (2 * h) x i (omega arith))
    go (no p) (yes q) = shift-high h (shift h x) i (omega arith) ∙ shift-low h x (i - h) (omega arith) ∙ sym (shift-low (2 * h) x i q)
    go (no p) (no q) = shift-high h (shift h x) i (omega arith) ∙ shift-high h x (i - h) (omega arith) ∙ ap x {x = i - h - h} {y = i - 2 * h} (omega arith) ∙ sym (shift-high (2 * h) x i (omega arith))

-- a polynomial is its two halves
pub halves : (h : ℕ) (x : Polynomial) (i : ℕ) → x i ≡ low h x i +ω shift h (high h x) i
unfolding high
halves h x i = go (dec_lt i h)
  where
    go : Dec (i < h) → x i ≡ low h x i +ω shift h (λ k. x (h + k)) i
    go (yes p) = sym (low-is h x i p) ∙ sym (+ω-zero (low h x i)) ∙ ap (◌+ω◌ (low h x i)) (sym (shift-low h (λ k. x (h + k)) i p))
    go (no p) =
        ap x {x = i} {y = h + (i - h)} (omega arith)
        ∙ sym (zero-+ω (x (h + (i - h))))
        ∙ ap₂ ◌+ω◌ (sym (low-past h x i (omega arith))) (sym (shift-high h (λ k. x (h + k)) i (omega arith)))

-- ---- The product as a convolution, whose laws it has

-- as a loop adds it up
pub product-low : (x y : Polynomial) (i : ℕ) → product x y i ≡ sum (i + 1 - 0) (λ j. x (0 + j) *ω y (i - (0 + j)))
unfolding product
product-low x y i =
    ap (λ (k : ℕ). sum k (λ j. x j *ω y (i - j))) {x = suc i} {y = i + 1 - 0} (omega arith)
    ∙ sum_same (i + 1 - 0) (λ j l. let e : j ≡ 0 + j = omega arith in ap (λ (k : ℕ). x k *ω y (i - k)) e)

-- with i + 1 coefficients, nothing is wrapped to coefficient i
product_is : (x y : Polynomial) (i : ℕ) → product x y i ≡ convolution (suc i) x y i
product_is x y i =
    product-low x y i
    ∙ sym (+ω-zero _)
    ∙ ap (◌+ω◌ (sum (i + 1 - 0) (λ j. x (0 + j) *ω y (i - (0 + j))))) (sym (sum_zero (suc i - (i + 1)) (λ j l. absurd (omega arith))))
    ∙ sym (convolution-split (suc i) x y i (omega arith))

pub product-same : {x x' y y' : Polynomial} (i : ℕ) → ((j : ℕ) → x j ≡ x' j) → ((j : ℕ) → y j ≡ y' j) → product x y i ≡ product x' y' i
product-same {x} {x'} {y} {y'} i p q = product_is x y i ∙ convolution-same (suc i) (λ j l. p j) (λ k l. q k) i ∙ sym (product_is x' y' i)

product_commutes : (x y : Polynomial) (i : ℕ) → product x y i ≡ product y x i
product_commutes x y i = product_is x y i ∙ convolution_commutes (suc i) x y i ∙ sym (product_is y x i)

pub product_add_right : (x y y' : Polynomial) (i : ℕ) → product x (λ j. y j +ω y' j) i ≡ product x y i +ω product x y' i
product_add_right x y y' i =
    product_is x (λ j. y j +ω y' j) i ∙ convolution_adds (suc i) x y y' i ∙ sym (ap₂ ◌+ω◌ (product_is x y i) (product_is x y' i))

pub product_add_left : (x x' y : Polynomial) (i : ℕ) → product (λ j. x j +ω x' j) y i ≡ product x y i +ω product x' y i
product_add_left x x' y i =
    product_commutes (λ j. x j +ω x' j) y i ∙ product_add_right y x x' i ∙ ap₂ ◌+ω◌ (product_commutes y x i) (product_commutes y x' i)

-- of polynomials that are zero from m and from n on
pub product_zero : (m n : ℕ) (x y : Polynomial) → ((j : ℕ) → m ≤ j → x j ≡ 𝟘) → ((j : ℕ) → n ≤ j → y j ≡ 𝟘) → (i : ℕ) → m + n ≤ suc i → product x y i ≡ 𝟘
unfolding product
product_zero m n x y p q i l = sum_zero (suc i) (λ j k. go j k (dec_le m j))
  where
    go : (j : ℕ) → j < suc i → Dec (m ≤ j) → x j *ω y (i - j) ≡ 𝟘
    go j k (yes r) = ap (λ (a : ℤ[ω]). a *ω y (i - j)) (p j r) ∙ zero-*ω (y (i - j))
    go j k (no r) = ap (◌*ω◌ (x j)) (q (i - j) (omega arith)) ∙ *ω-zero (x j)

pub product_shift_left : (h : ℕ) (x y : Polynomial) (i : ℕ) → product (shift h x) y i ≡ shift h (product x y) i
unfolding product
product_shift_left h x y i = go (dec_lt i h)
  where
    f : ℕ → ℤ[ω]
    f j = shift h x j *ω y (i - j)

    none : (j : ℕ) → j < h → f j ≡ 𝟘
    none j p = ap (λ (a : ℤ[ω]). a *ω y (i - j)) (shift-low h x j p) ∙ zero-*ω (y (i - j))

    go : Dec (i < h) → sum (suc i) f ≡ shift h (λ k. sum (suc k) (λ j. x j *ω y (k - j))) i
    go (yes p) = sum_zero (suc i) (λ j l. none j (omega arith)) ∙ sym (shift-low h (λ k. sum (suc k) (λ j. x j *ω y (k - j))) i p)
    go (no p) =
        ap (λ (k : ℕ). sum k f) {x = suc i} {y = h + suc (i - h)} (omega arith)
        ∙ sum-split h (suc (i - h)) f
        ∙ ap₂ ◌+ω◌ (sum_zero h none) (sum_same (suc (i - h)) (λ j l. let e : i - (h + j) ≡ i - h - j = omega arith in ap₂ (λ (a : ℤ[ω]) (k : ℕ). a *ω y k) (shift-high h x (h + j) (omega arith) ∙ ap x {x = h + j - h} {y = j} (omega arith)) e))
        ∙ zero-+ω (sum (suc (i - h)) (λ j. x j *ω y (i - h - j)))
        ∙ sym (shift-high h (λ k. sum (suc k) (λ j. x j *ω y (k - j))) i (omega arith))

pub product_shift_right : (h : ℕ) (x y : Polynomial) (i : ℕ) → product x (shift h y) i ≡ shift h (product x y) i
product_shift_right h x y i =
    product_commutes x (shift h y) i ∙ product_shift_left h y x i ∙ shift_same h i (λ k. product_commutes y x k)

-- ---- Of polynomials that are zero from n on

module _ (n : ℕ) (x y : Polynomial) (x-zero : (j : ℕ) → n ≤ j → x j ≡ 𝟘) (y-zero : (j : ℕ) → n ≤ j → y j ≡ 𝟘) where
  -- as a loop adds it up
  pub product_high : (i : ℕ) → n ≤ i → i < 2 * n → product x y i ≡ sum (n - (i + 1 - n)) (λ j. x (i + 1 - n + j) *ω y (i - (i + 1 - n + j)))
  unfolding product
  product_high i p q =
      ap (λ (k : ℕ). sum k f) {x = suc i} {y = from + (n - from + from)} (omega arith)
      ∙ sum-split from (n - from + from) f
      ∙ ap₂ ◌+ω◌ (sum_zero from (λ j l. ap (◌*ω◌ (x j)) (y-zero (i - j) (omega arith)) ∙ *ω-zero (x j))) (sum-split (n - from) from (λ j. f (from + j)))
      ∙ zero-+ω _
      ∙ ap (◌+ω◌ (sum (n - from) (λ j. f (from + j)))) (sum_zero from (λ j l. ap (λ (a : ℤ[ω]). a *ω y (i - (from + (n - from + j)))) (x-zero (from + (n - from + j)) (omega arith)) ∙ zero-*ω _))
      ∙ +ω-zero _
    where
      from : ℕ
      from = i + 1 - n

      f : ℕ → ℤ[ω]
      f j = x j *ω y (i - j)

  pub wrap : (i : ℕ) → i < n → wrapped n (product x y) i ≡ convolution n x y i
  unfolding wrapped
  wrap i l =
      sym
      (convolution-split n x y i l
      ∙ ap₂ ◌+ω◌ (sym (product-low x y i)) (high ∙ sym (product_high (n + i) (omega arith) (omega arith))))
    where
      high : sum (n - (i + 1)) (λ j. x (i + 1 + j) *ω y (i + n - (i + 1 + j))) ≡ sum (n - (n + i + 1 - n)) (λ j. x (n + i + 1 - n + j) *ω y (n + i - (n + i + 1 - n + j)))
      high =
          let e : i + 1 ≡ n + i + 1 - n = omega arith in
          let e' : i + n ≡ n + i = omega arith in
          ap₂ (λ (m k : ℕ). sum (n - m) (λ j. x (m + j) *ω y (k - (m + j)))) e e'

pub coefficient-past : (n : ℕ) (x : List ℤ) → length x ≡ 2 * n → (i : ℕ) → n ≤ i → coefficient x i ≡ 𝟘
unfolding coefficient
coefficient-past n x e i p = ap₂ value (get_or-eq_default x (pos 0) (omega arith)) (get_or-eq_default x (pos 0) (omega arith))
