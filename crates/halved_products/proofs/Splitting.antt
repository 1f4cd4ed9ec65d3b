-- What one step of `multiply` does to its lists.
use mathlib.Core.Path.{◌≡◌, refl, sym, ◌∙◌, ap, ap₂, subst}
use mathlib.Core.List.{List, [], ◌∷◌, ◌++◌}
use Prim.Native.Nat.{ℕ, zero, suc, ◌+◌, ◌-◌, ◌*◌, ◌/◌, ◌^◌, ◌≤◌, ◌<◌}
use native.Mathlib.Omega.{arith}
use native.Mathlib.Nat.{le_trans, mul-le-mul, mul-le-mul_left, add-mul}
use native.Mathlib.Decide.{dec_lt}
use lib.IntN.{ℤ, pos, nat_abs, ◌+ℤ◌, ◌-ℤ◌}
use lib.ListN.{length, take, drop, take-append-drop, length-drop, get_or-append}
use lib.Seq.{length-take-le, take_all, get_or-take, get_or-drop, get_or-append-add, ext_get_or}
use borrow.Rule.Slice.PartMut.{put_mid, mid_of, put_same, take_put, same_len_mid}
use Rattle.integers.proofs.Absolute.{natAbs-+}
use Rattle.integers.proofs.Ring.{ring, con, ◌⊕◌, ◌⊝◌, ◌⊗◌, ◌⊜◌}
use Rattle.eisenstein.specs.Values.{ℤ[ω], value, 𝟘, ◌+ω◌}
use Rattle.eisenstein.proofs.Laws.{+ω-zero}
use Rattle.polynomials.specs.Polynomials.{Polynomial, coefficient}
use Rattle.arrays.specs.Arrays.{AllWithin}
use Rattle.arrays.proofs.Sizes.{PartsAtMost}
use Rattle.halving.specs.Products.{product, low, high, both}
use Rattle.halving.proofs.Products.{low-is, low-past, product-same, product_zero, coefficient-past}
use Rattle.halving.proofs.Promises.{split-joined}
use Rattle.halved_products.specs.Steps.{Added, Subtracted, joined_in}
use Rattle.halved_products.proofs.Bounds.{product-within, num_within}
use Rattle.halved_products.proofs.Joining.{num, joined_in_lem}

-- ---- parts of a list

take_past : (n : ℕ) (l : List ℤ) (k : ℕ) → n ≤ k → num (take n l) k ≡ pos 0
take_past zero l k h = refl
take_past (suc n) [] k h = refl
take_past (suc n) (x ∷ l) zero h = absurd (omega arith)
take_past (suc n) (x ∷ l) (suc k) h = take_past n l k (omega arith)

abbrev pub Bounded : ℕ → List ℤ → Type 0
Bounded a l = (k : ℕ) → nat_abs (num l k) * a ≤ 2 ^ 23

pub bounded_take : (n : ℕ) (l : List ℤ) {a b : ℕ} → b ≤ a → Bounded a l → Bounded b (take n l)
bounded_take n l {a} {b} p h k = go (dec_lt k n)
  where
    go : Dec (k < n) → nat_abs (num (take n l) k) * b ≤ 2 ^ 23
    go (yes q) = subst (λ (z : ℤ). nat_abs z * b ≤ 2 ^ 23) (sym (get_or-take n l k (pos 0) q)) (le_trans (mul-le-mul_left (nat_abs (num l k)) p) (h k))
    go (no q) = subst (λ (z : ℤ). nat_abs z * b ≤ 2 ^ 23) (sym (take_past n l k (omega arith))) (omega arith)

pub bounded_drop : (n : ℕ) (l : List ℤ) {a b : ℕ} → b ≤ a → Bounded a l → Bounded b (drop n l)
bounded_drop n l {a} {b} p h k = subst (λ (z : ℤ). nat_abs z * b ≤ 2 ^ 23) (sym (get_or-drop n l k (pos 0))) (le_trans (mul-le-mul_left (nat_abs (num l (n + k))) p) (h (n + k)))

pub bounded_plain : (l : List ℤ) (a : ℕ) → 1 ≤ a → Bounded a l → AllWithin (2 ^ 23) l
bounded_plain l a p h k = le_trans (omega (arith, mul-le-mul_left (nat_abs (num l k)) p)) (h k)

pub front_same : (k : ℕ) {x l : List ℤ} → l ≡ take k x → l ++ drop k x ≡ x
front_same k {x} {l} e = ap (λ (z : List ℤ). z ++ drop k x) e ∙ take-append-drop k x

pub mid_same : (a k : ℕ) {x l : List ℤ} → l ≡ mid_of a k x → put_mid a k x l ≡ x
mid_same a k {x} {l} e = ap (put_mid a k x) e ∙ put_same a k x

pub mid_rest : (a : ℕ) (x : List ℤ) → mid_of a (length x - a) x ≡ drop a x
mid_rest a x = take_all (length x - a) (drop a x) (omega (arith, length-drop a x))

twice : (u w : ℕ) → u * (2 * w) ≡ 2 * (u * w)
twice u w = ap nat_abs (ring 2 (λ u w. u ⊗ (con (pos 2) ⊗ w) ⊜ con (pos 2) ⊗ (u ⊗ w)) tt (pos u) (pos w))

two_of : (u v w : ℕ) → u * (2 * w) ≤ 2 ^ 23 → v * (2 * w) ≤ 2 ^ 23 → (u + v) * w ≤ 2 ^ 23
two_of u v w f g = omega (arith, add-mul u v w, twice u w, twice v w)

-- ---- an operand: its halves, and their sum

first_half : (h : ℕ) (x : List ℤ) (i : ℕ) → coefficient (take (2 * h) x) i ≡ low h (coefficient x) i
unfolding coefficient
first_half h x i = go (dec_lt i h)
  where
    go : Dec (i < h) → coefficient (take (2 * h) x) i ≡ low h (coefficient x) i
    go (yes l) = ap₂ value (get_or-take (2 * h) x (2 * i) (pos 0) (omega arith)) (get_or-take (2 * h) x (2 * i + 1) (pos 0) (omega arith)) ∙ sym (low-is h (coefficient x) i l)
    go (no l) = ap₂ value (take_past (2 * h) x (2 * i) (omega arith)) (take_past (2 * h) x (2 * i + 1) (omega arith)) ∙ sym (low-past h (coefficient x) i (omega arith))

last_half : (h : ℕ) (x : List ℤ) (i : ℕ) → coefficient (drop (2 * h) x) i ≡ high h (coefficient x) i
unfolding coefficient high
last_half h x i =
    ap₂ value (get_or-drop (2 * h) x (2 * i) (pos 0) ∙ ap (num x) {x = 2 * h + 2 * i} {y = 2 * (h + i)} (omega arith)) (get_or-drop (2 * h) x (2 * i + 1) (pos 0) ∙ ap (num x) {x = 2 * h + (2 * i + 1)} {y = 2 * (h + i) + 1} (omega arith))

module _ (n h : ℕ) (x : List ℤ) (e : length x ≡ 2 * n) (p : h ≤ n) (q : n ≤ 2 * h) where
  high-past : (i : ℕ) → n - h ≤ i → high h (coefficient x) i ≡ 𝟘
  unfolding high
  high-past i l = coefficient-past n x e (h + i) (omega arith)

  both-past : (i : ℕ) → h ≤ i → both h (coefficient x) i ≡ 𝟘
  unfolding both
  both-past i l = ap₂ ◌+ω◌ (low-past h (coefficient x) i l) (high-past i (omega arith)) ∙ +ω-zero 𝟘

  -- a is x with its last half added to the first
  module _ (a : List ℤ) (s : Added 0 (2 * h) (2 * (n - h)) x a) where
    at_sum : (k : ℕ) → k < 2 * (n - h) → num a k ≡ num x k +ℤ num x (2 * h + k)
    at_sum k l = ap (num a) {x = k} {y = 0 + k} (omega arith) ∙ s.new k l ∙ ap (λ (m : ℕ). num x m +ℤ num x (2 * h + k)) {x = 0 + k} {y = k} (omega arith)

    at_rest : (k : ℕ) → 2 * (n - h) ≤ k → num a k ≡ num x k
    at_rest k l = ap (num a) {x = k} {y = 0 + k} (omega arith) ∙ s.above k l ∙ ap (num x) {x = 0 + k} {y = k} (omega arith)

    sums : (i : ℕ) → i < n - h → coefficient a i ≡ coefficient x i +ω high h (coefficient x) i
    unfolding coefficient high ◌+ω◌
    sums i l =
        ap₂ value (at_sum (2 * i) (omega arith) ∙ ap (λ (m : ℕ). num x (2 * i) +ℤ num x m) {x = 2 * h + 2 * i} {y = 2 * (h + i)} (omega arith)) (at_sum (2 * i + 1) (omega arith) ∙ ap (λ (m : ℕ). num x (2 * i + 1) +ℤ num x m) {x = 2 * h + (2 * i + 1)} {y = 2 * (h + i) + 1} (omega arith))

    rest : (i : ℕ) → n - h ≤ i → coefficient a i ≡ coefficient x i
    unfolding coefficient
    rest i l = ap₂ value (at_rest (2 * i) (omega arith)) (at_rest (2 * i + 1) (omega arith))

    both_halves : (i : ℕ) → coefficient (take (2 * h) a) i ≡ both h (coefficient x) i
    unfolding both
    both_halves i = first_half h a i ∙ go (dec_lt i h) (dec_lt i (n - h))
      where
        go : Dec (i < h) → Dec (i < n - h) → low h (coefficient a) i ≡ low h (coefficient x) i +ω high h (coefficient x) i
        go (yes l) (yes m) = low-is h (coefficient a) i l ∙ sums i m ∙ ap (λ (z : ℤ[ω]). z +ω high h (coefficient x) i) (sym (low-is h (coefficient x) i l))
        go (yes l) (no m) =
            low-is h (coefficient a) i l
            ∙ rest i (omega arith)
            ∙ sym (low-is h (coefficient x) i l)
            ∙ sym (+ω-zero (low h (coefficient x) i))
            ∙ ap (◌+ω◌ (low h (coefficient x) i)) (sym (high-past i (omega arith)))
        go (no l) m = low-past h (coefficient a) i (omega arith) ∙ sym (+ω-zero 𝟘) ∙ ap₂ ◌+ω◌ (sym (low-past h (coefficient x) i (omega arith))) (sym (high-past i (omega arith)))

    -- its size
    pub sum_bounded : 2 * h ≤ n + 1 → Bounded (n - 1) x → Bounded (h - 1) (take (2 * h) a)
    sum_bounded r b k = go (dec_lt k (2 * h)) (dec_lt k (2 * (n - h)))
      where
        once : (j : ℕ) → nat_abs (num x j) * (2 * (h - 1)) ≤ 2 ^ 23
        once j = le_trans (mul-le-mul_left (nat_abs (num x j)) (omega arith)) (b j)

        go : Dec (k < 2 * h) → Dec (k < 2 * (n - h)) → nat_abs (num (take (2 * h) a) k) * (h - 1) ≤ 2 ^ 23
        go (no l) m = subst (λ (z : ℤ). nat_abs z * (h - 1) ≤ 2 ^ 23) (sym (take_past (2 * h) a k (omega arith))) (omega arith)
        go (yes l) (no m) = subst (λ (z : ℤ). nat_abs z * (h - 1) ≤ 2 ^ 23) (sym (get_or-take (2 * h) a k (pos 0) l ∙ at_rest k (omega arith))) (le_trans (mul-le-mul_left (nat_abs (num x k)) (omega arith)) (b k))
        go (yes l) (yes m) =
            subst (λ (z : ℤ). nat_abs z * (h - 1) ≤ 2 ^ 23) (sym (get_or-take (2 * h) a k (pos 0) l ∙ at_sum k m))
            (le_trans (mul-le-mul {m₁ = h - 1} (natAbs-+ (num x k) (num x (2 * h + k))) (omega arith))
            (two_of (nat_abs (num x k)) (nat_abs (num x (2 * h + k))) (h - 1) (once k) (once (2 * h + k))))

    pub sum-small : 2 ≤ n → Bounded (n - 1) x → (k : ℕ) → nat_abs (num a k) ≤ 2 ^ 29
    sum-small z b k = go (dec_lt k (2 * (n - h)))
      where
        plain : (j : ℕ) → nat_abs (num x j) ≤ 2 ^ 23
        plain j = bounded_plain x (n - 1) (omega arith) b j

        go : Dec (k < 2 * (n - h)) → nat_abs (num a k) ≤ 2 ^ 29
        go (yes l) = subst (λ (z : ℤ). nat_abs z ≤ 2 ^ 29) (sym (at_sum k l)) (omega (arith, natAbs-+ (num x k) (num x (2 * h + k)), plain k, plain (2 * h + k)))
        go (no l) = subst (λ (z : ℤ). nat_abs z ≤ 2 ^ 29) (sym (at_rest k (omega arith))) (omega (arith, plain k))

    -- the sum is taken back
    pub restored : (o : List ℤ) → Subtracted 0 (2 * h) (2 * (n - h)) a o → o ≡ x
    restored o t = ext_get_or (pos 0) o x (t.long ∙ s.long) (λ k l. go k (dec_lt k (2 * (n - h))))
      where
        back : (u v : ℤ) → (u +ℤ v) -ℤ v ≡ u
        back = ring 2 (λ u v. (u ⊕ v) ⊝ v ⊜ u) tt

        go : (k : ℕ) → Dec (k < 2 * (n - h)) → num o k ≡ num x k
        go k (yes l) =
            ap (num o) {x = k} {y = 0 + k} (omega arith) ∙ t.new k l ∙ ap (λ (m : ℕ). num a m -ℤ num a (2 * h + k)) {x = 0 + k} {y = k} (omega arith)
            ∙ ap₂ ◌-ℤ◌ (at_sum k l) (at_rest (2 * h + k) (omega arith))
            ∙ back (num x k) (num x (2 * h + k))
        go k (no l) = ap (num o) {x = k} {y = 0 + k} (omega arith) ∙ t.above k (omega arith) ∙ ap (num a) {x = 0 + k} {y = k} (omega arith) ∙ at_rest k (omega arith)

-- ---- the array of products

put_low : (a k : ℕ) (x l : List ℤ) → a ≤ length x → (j : ℕ) → j < a → num (put_mid a k x l) j ≡ num x j
put_low a k x l p j q =
    sym (get_or-take a (put_mid a k x l) j (pos 0) q) ∙ ap (λ (z : List ℤ). num z j) (take_put a k x l p) ∙ get_or-take a x j (pos 0) q

put_high : (a k : ℕ) (x l : List ℤ) → a ≤ length x → (j : ℕ) → j < length l → num (put_mid a k x l) (a + j) ≡ num l j
put_high a k x l p j q =
    ap (λ (m : ℕ). num (put_mid a k x l) (m + j)) (sym (length-take-le a x p))
    ∙ get_or-append-add (take a x) (l ++ drop k (drop a x)) j (pos 0)
    ∙ get_or-append l (drop k (drop a x)) (pos 0) j q

coefficient-low : (a k : ℕ) (x l : List ℤ) → 2 * a ≤ length x → (j : ℕ) → j < a → coefficient (put_mid (2 * a) k x l) j ≡ coefficient x j
unfolding coefficient
coefficient-low a k x l p j q = ap₂ value (put_low (2 * a) k x l p (2 * j) (omega arith)) (put_low (2 * a) k x l p (2 * j + 1) (omega arith))

coefficient-high : (a k : ℕ) (x l : List ℤ) → 2 * a ≤ length x → (j : ℕ) → 2 * j + 1 < length l → coefficient (put_mid (2 * a) k x l) (a + j) ≡ coefficient l j
unfolding coefficient
coefficient-high a k x l p j q =
    ap₂ value (ap (num (put_mid (2 * a) k x l)) {x = 2 * (a + j)} {y = 2 * a + 2 * j} (omega arith) ∙ put_high (2 * a) k x l p (2 * j) (omega arith)) (ap (num (put_mid (2 * a) k x l)) {x = 2 * (a + j) + 1} {y = 2 * a + (2 * j + 1)} (omega arith) ∙ put_high (2 * a) k x l p (2 * j + 1) (omega arith))

-- ---- an operand through a step

module _ (a : ℕ) {x y : List ℤ} (e : y ≡ x) where
  pub mid_bounded : {b c : ℕ} → c ≤ b → Bounded b x → Bounded c (mid_of a (length y - a) y)
  mid_bounded {b} {c} p h = subst (λ (l : List ℤ). Bounded c (mid_of a (length l - a) l)) (sym e) (subst (Bounded c) (sym (mid_rest a x)) (bounded_drop a x p h))

  pub mid_length : length (mid_of a (length y - a) y) ≡ length x - a
  mid_length = ap (λ (l : List ℤ). length (mid_of a (length l - a) l)) e ∙ ap length (mid_rest a x) ∙ length-drop a x

  pub mid_is : mid_of a (length y - a) y ≡ drop a x
  mid_is = ap (λ (l : List ℤ). mid_of a (length l - a) l) e ∙ mid_rest a x

  pub after_two : (k : ℕ) {l : List ℤ} → l ≡ mid_of a k y → put_mid a k y l ≡ x
  after_two k f = mid_same a k f ∙ e

-- a list that is changed, from one that is the same
pub added_from : (to from count : ℕ) {l₀ l₁ l : List ℤ} → l₀ ≡ l₁ → Added to from count l₀ l → Added to from count l₁ l
added_from to from count {l = l} e = subst (λ (z : List ℤ). Added to from count z l) e

pub subtracted_from : (to from count : ℕ) {l₀ l₁ l : List ℤ} → l₀ ≡ l₁ → Subtracted to from count l₀ l → Subtracted to from count l₁ l
subtracted_from to from count {l = l} e = subst (λ (z : List ℤ). Subtracted to from count z l) e

pub small_from : {l x : List ℤ} {b : ℕ} → l ≡ x → ((k : ℕ) → nat_abs (num x k) ≤ b) → (k : ℕ) → nat_abs (num l k) ≤ b
small_from {b = b} e h k = subst (λ (z : List ℤ). nat_abs (num z k) ≤ b) (sym e) (h k)

-- ---- the three products, where all are formed

pub record Three (n h : ℕ) (x y v : List ℤ) : Type 0 where
  pub small : (k : ℕ) → k < 4 * n + 4 * h → nat_abs (num v k) ≤ 2 ^ 59
  pub join : (i : ℕ) → i < 2 * n → joined_in n h (coefficient v) i ≡ product (coefficient x) (coefficient y) i

abbrev Product : List ℤ → List ℤ → Polynomial
Product x y = product (coefficient x) (coefficient y)

-- a and b are x and y with their last halves added to the first
pub three : (n h : ℕ) → h ≤ n → n ≤ 2 * h → 2 ≤ h → n ≤ 1024 → (x y a b w l u : List ℤ) (i k : ℕ) → length x ≡ 2 * n → length y ≡ 2 * n → Bounded (n - 1) x → Bounded (n - 1) y → Added 0 (2 * h) (2 * (n - h)) x a → Added 0 (2 * h) (2 * (n - h)) y b → Bounded (h - 1) (take (2 * h) a) → Bounded (h - 1) (take (2 * h) b) → 4 * n + 4 * h ≤ length w → length l ≡ length (mid_of (2 * (2 * h)) i w) → i ≡ length w - 2 * (2 * h) → 4 * h ≤ length u → ((j : ℕ) → j < 2 * h → coefficient w j ≡ Product (take (2 * h) x) (take (2 * h) y) j) → ((j : ℕ) → j < 2 * (n - h) → coefficient l j ≡ Product (drop (2 * h) x) (drop (2 * h) y) j) → ((j : ℕ) → j < 2 * h → coefficient u j ≡ Product (take (2 * h) a) (take (2 * h) b) j) → Three n h x y (put_mid (2 * (2 * n)) k (put_mid (2 * (2 * h)) i w l) u)
three n h p q some top x y a b w l u i k ex ey bx by sx sy ba bb lw ll li lu z0 z2 z1 = record {
  small = small_in top
      (product-within (take (2 * h) x) (take (2 * h) y) (plain (take (2 * h) x) (bounded_take (2 * h) x (omega arith) bx)) (plain (take (2 * h) y) (bounded_take (2 * h) y (omega arith) by)))
      (product-within (drop (2 * h) x) (drop (2 * h) y) (plain (drop (2 * h) x) (bounded_drop (2 * h) x (omega arith) bx)) (plain (drop (2 * h) y) (bounded_drop (2 * h) y (omega arith) by)))
      (product-within (take (2 * h) a) (take (2 * h) b) (plain (take (2 * h) a) ba) (plain (take (2 * h) b) bb));
  join = λ j r.
      joined_in_lem n h q p (coefficient v₃) (product (low h (coefficient x)) (low h (coefficient y))) (product (both h (coefficient x)) (both h (coefficient y))) (product (high h (coefficient x)) (high h (coefficient y)))
      (λ m s. at_0 m s ∙ product-same m (first_half h x) (first_half h y))
      (λ m s. at_2h m s ∙ product-same m (last_half h x) (last_half h y))
      (λ m s. at_2n m s ∙ product-same m (both_halves n h x ex p q a sx) (both_halves n h y ey p q b sy))
      (λ m s. product_zero h h (low h (coefficient x)) (low h (coefficient y)) (low-past h (coefficient x)) (low-past h (coefficient y)) m (omega arith))
      (λ m s. product_zero (n - h) (n - h) (high h (coefficient x)) (high h (coefficient y)) (high-past n h x ex p q) (high-past n h y ey p q) m (omega arith))
      (λ m s. product_zero h h (both h (coefficient x)) (both h (coefficient y)) (both-past n h x ex p q) (both-past n h y ey p q) m (omega arith))
      j r
      ∙ split-joined h (coefficient x) (coefficient y) j;
}
  where
    plain : (z : List ℤ) → Bounded (h - 1) z → AllWithin (2 ^ 23) z
    plain z = bounded_plain z (h - 1) (omega arith)

    v₂ : List ℤ
    v₂ = put_mid (2 * (2 * h)) i w l

    v₃ : List ℤ
    v₃ = put_mid (2 * (2 * n)) k v₂ u

    long_v₂ : length v₂ ≡ length w
    long_v₂ = same_len_mid (2 * (2 * h)) i w l ll

    many_l : length l ≡ length w - 4 * h
    many_l = ll ∙ ap (λ (m : ℕ). length (mid_of (2 * (2 * h)) m w)) li ∙ ap length (mid_rest (2 * (2 * h)) w) ∙ length-drop (2 * (2 * h)) w ∙ omega arith

    at_0 : (j : ℕ) → j < 2 * h → coefficient v₃ j ≡ Product (take (2 * h) x) (take (2 * h) y) j
    at_0 j r = coefficient-low (2 * n) k v₂ u (omega (arith, long_v₂)) j (omega arith) ∙ coefficient-low (2 * h) i w l (omega arith) j r ∙ z0 j r

    at_2h : (j : ℕ) → j < 2 * (n - h) → coefficient v₃ (2 * h + j) ≡ Product (drop (2 * h) x) (drop (2 * h) y) j
    at_2h j r = coefficient-low (2 * n) k v₂ u (omega (arith, long_v₂)) (2 * h + j) (omega arith) ∙ coefficient-high (2 * h) i w l (omega arith) j (omega (arith, many_l)) ∙ z2 j r

    at_2n : (j : ℕ) → j < 2 * h → coefficient v₃ (2 * n + j) ≡ Product (take (2 * h) a) (take (2 * h) b) j
    at_2n j r = coefficient-high (2 * n) k v₂ u (omega (arith, long_v₂)) j (omega arith) ∙ z1 j r

    small_in : n ≤ 1024 → ((j : ℕ) → j < 2048 → PartsAtMost (2 ^ 59) (Product (take (2 * h) x) (take (2 * h) y) j)) → ((j : ℕ) → j < 2048 → PartsAtMost (2 ^ 59) (Product (drop (2 * h) x) (drop (2 * h) y) j)) → ((j : ℕ) → j < 2048 → PartsAtMost (2 ^ 59) (Product (take (2 * h) a) (take (2 * h) b) j)) → (m : ℕ) → m < 4 * n + 4 * h → nat_abs (num v₃ m) ≤ 2 ^ 59
    small_in e F G O m r = num_within v₃ (2 ^ 59) m (go (dec_lt (m / 2) (2 * h)) (dec_lt (m / 2) (2 * n)))
      where
        go : Dec (m / 2 < 2 * h) → Dec (m / 2 < 2 * n) → PartsAtMost (2 ^ 59) (coefficient v₃ (m / 2))
        go (yes s) t = subst (PartsAtMost (2 ^ 59)) (sym (at_0 (m / 2) s)) (F (m / 2) (omega arith))
        go (no s) (yes t) = subst (λ (a : ℕ). PartsAtMost (2 ^ 59) (coefficient v₃ a)) {x = 2 * h + (m / 2 - 2 * h)} (omega arith) (subst (PartsAtMost (2 ^ 59)) (sym (at_2h (m / 2 - 2 * h) (omega arith))) (G (m / 2 - 2 * h) (omega arith)))
        go (no s) (no t) = subst (λ (a : ℕ). PartsAtMost (2 ^ 59) (coefficient v₃ a)) {x = 2 * n + (m / 2 - 2 * n)} (omega arith) (subst (PartsAtMost (2 ^ 59)) (sym (at_2n (m / 2 - 2 * n) (omega arith))) (O (m / 2 - 2 * n) (omega arith)))
