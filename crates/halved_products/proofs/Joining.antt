-- What `join` does to the numbers of its array.
use mathlib.Core.Path.{◌≡◌, sym, ◌∙◌, ap, ap₂, subst}
use mathlib.Core.Bool.{Bool, cond}
use mathlib.Core.List.{List}
use Prim.Native.Nat.{ℕ, ◌+◌, ◌-◌, ◌*◌, ◌^◌, ◌≤◌, ◌<◌}
use native.Mathlib.Omega.{arith}
use native.Mathlib.Nat.{le_trans}
use native.Mathlib.Decide.{dec_lt}
use borrow.Author.Tests.{lt-ltb, le-ltb}
use lib.Dec.{ltb}
use lib.IntN.{ℤ, pos, nat_abs, ◌+ℤ◌, ◌-ℤ◌}
use lib.ListN.{get_or}
use Rattle.integers.proofs.Absolute.{natAbs--}
use Rattle.eisenstein.specs.Values.{ℤ[ω], value, 𝟘, ◌+ω◌, ◌-ω◌}
use Rattle.eisenstein.proofs.Laws.{+ω-zero}
use Rattle.eisenstein.proofs.Solver.{ringω, ◌≐◌, ◌⊞◌, ◌⊟◌, conω}
use Rattle.polynomials.specs.Polynomials.{Polynomial, coefficient}
use Rattle.halving.specs.Products.{shift, joined}
use Rattle.halving.proofs.Products.{zero-+ω, shift-low, shift-high, shift_same}
use Rattle.halved_products.specs.Steps.{Added, Subtracted, middle_in, joined_in}
use Rattle.halved_products.proofs.Putting.{unread_above}

less_zero : (x : ℤ[ω]) → x -ω 𝟘 ≡ x
unfolding ◌-ω◌
less_zero = ringω 1 (λ x. x ⊟ conω 𝟘 ≐ x) tt

abbrev pub num : List ℤ → ℕ → ℤ
num l k = get_or l k (pos 0)

pub size_first : (n h : ℕ) (a b : List ℤ) → h ≤ n → Subtracted (4 * n) 0 (4 * h) a b → ((k : ℕ) → k < 4 * n + 4 * h → nat_abs (num a k) ≤ 2 ^ 59) → (k : ℕ) → k < 4 * h → nat_abs (num b (4 * n + k)) ≤ 2 ^ 61
size_first n h a b p s v k l = subst (λ (z : ℤ). nat_abs z ≤ 2 ^ 61) (sym (s.new k l)) (le_trans (natAbs-- (num a (4 * n + k)) (num a (0 + k))) (omega (arith, v (4 * n + k) (omega arith), v (0 + k) (omega arith))))

pub size_last : (n h : ℕ) (a b : List ℤ) → h ≤ n → n ≤ 2 * h → Subtracted (4 * n) 0 (4 * h) a b → ((k : ℕ) → k < 4 * n + 4 * h → nat_abs (num a k) ≤ 2 ^ 59) → (k : ℕ) → k < 4 * (n - h) → nat_abs (num b (4 * h + k)) ≤ 2 ^ 61
size_last n h a b p q s v k l = subst (λ (z : ℤ). nat_abs z ≤ 2 ^ 61) (sym (s.below (4 * h + k) (omega arith))) (le_trans (v (4 * h + k) (omega arith)) (omega arith))

module _ (n h : ℕ) (a b c : List ℤ) (p : h ≤ n) (q : n ≤ 2 * h) (r : 3 * h ≤ 2 * n) (s : Subtracted (4 * n) 0 (4 * h) a b) (t : Subtracted (4 * n) (4 * h) (4 * (n - h)) b c) where
  -- the places before 2n, after one and after two steps
  pub first : (k : ℕ) → k < 4 * n → num b k ≡ num a k
  first k l = s.below k l

  pub second : (k : ℕ) → k < 4 * n → num c k ≡ num a k
  second k l = t.below k l ∙ first k l

  pub taken_first : (k : ℕ) → k < 4 * h → num b (4 * n + k) ≡ num a (4 * n + k) -ℤ num a k
  taken_first k l = s.new k l ∙ ap (λ (m : ℕ). num a (4 * n + k) -ℤ num a m) {x = 0 + k} {y = k} (omega arith)

  pub taken_both : (k : ℕ) → k < 4 * (n - h) → num c (4 * n + k) ≡ (num a (4 * n + k) -ℤ num a k) -ℤ num a (4 * h + k)
  taken_both k l = t.new k l ∙ ap₂ ◌-ℤ◌ (taken_first k (omega arith)) (first (4 * h + k) (omega arith))

  pub taken_one : (k : ℕ) → 4 * (n - h) ≤ k → k < 4 * h → num c (4 * n + k) ≡ num a (4 * n + k) -ℤ num a k
  taken_one k l m = t.above k l ∙ taken_first k m

  -- how large the numbers are
  module _ (v : (k : ℕ) → k < 4 * n + 4 * h → nat_abs (num a k) ≤ 2 ^ 59) where
    pub size_both : (k : ℕ) → k < 4 * h → nat_abs (num c (4 * n + k)) ≤ 2 ^ 61
    size_both k l = go (dec_lt k (4 * (n - h)))
      where
        go : Dec (k < 4 * (n - h)) → nat_abs (num c (4 * n + k)) ≤ 2 ^ 61
        go (yes m) = subst (λ (z : ℤ). nat_abs z ≤ 2 ^ 61) (sym (taken_both k m)) (omega (arith, natAbs-- (num a (4 * n + k) -ℤ num a k) (num a (4 * h + k)), natAbs-- (num a (4 * n + k)) (num a k), v (4 * n + k) (omega arith), v k (omega arith), v (4 * h + k) (omega arith)))
        go (no m) = subst (λ (z : ℤ). nat_abs z ≤ 2 ^ 61) (sym (taken_one k (omega arith) l)) (omega (arith, natAbs-- (num a (4 * n + k)) (num a k), v (4 * n + k) (omega arith), v k (omega arith)))

    pub size_old : (l : List ℤ) (k : ℕ) → num l k ≡ num a k → k < 4 * n → nat_abs (num l k) ≤ 2 ^ 61
    size_old l k f m = subst (λ (z : ℤ). nat_abs z ≤ 2 ^ 61) (sym f) (le_trans (v k (omega arith)) (omega arith))

  module _ (e : List ℤ) (u : Added (2 * h) (4 * n) (4 * h) c e) where
    low : (j : ℕ) → j < 2 * h → num e j ≡ num a j
    low j l = u.below j l ∙ second j (omega arith)

    high : (j : ℕ) → 6 * h ≤ j → j < 4 * n → num e j ≡ num a j
    high j l m = unread_above j u (omega arith) ∙ second j m

    both : (j o k z x : ℕ) → j ≡ 2 * h + k → o ≡ 4 * n + k → z ≡ k → x ≡ 4 * h + k → k < 4 * (n - h) → num e j ≡ num a j +ℤ ((num a o -ℤ num a z) -ℤ num a x)
    both j o k z x f g i y l = ap (num e) f ∙ u.new k (omega arith) ∙ ap₂ ◌+ℤ◌ (second (2 * h + k) (omega arith) ∙ ap (num a) (sym f)) (taken_both k l ∙ ap₂ ◌-ℤ◌ (ap₂ ◌-ℤ◌ (ap (num a) (sym g)) (ap (num a) (sym i))) (ap (num a) (sym y)))

    single : (j o k z : ℕ) → j ≡ 2 * h + k → o ≡ 4 * n + k → z ≡ k → 4 * (n - h) ≤ k → k < 4 * h → num e j ≡ num a j +ℤ (num a o -ℤ num a z)
    single j o k z f g i l m = ap (num e) f ∙ u.new k m ∙ ap₂ ◌+ℤ◌ (second (2 * h + k) (omega arith) ∙ ap (num a) (sym f)) (taken_one k l m ∙ ap₂ ◌-ℤ◌ (ap (num a) (sym g)) (ap (num a) (sym i)))

    pub join_is : (i : ℕ) → i < 2 * n → coefficient e i ≡ joined_in n h (coefficient a) i
    unfolding coefficient joined_in middle_in ◌+ω◌ ◌-ω◌
    join_is i l = go (dec_lt i h) (dec_lt (i - h) (2 * h)) (dec_lt (i - h) (2 * (n - h)))
      where
        w : Polynomial
        w = coefficient a

        go : Dec (i < h) → Dec (i - h < 2 * h) → Dec (i - h < 2 * (n - h)) → coefficient e i ≡ w i +ω shift h (middle_in n h w) i
        go (yes f) g k = ap₂ value (low (2 * i) (omega arith)) (low (2 * i + 1) (omega arith)) ∙ sym (+ω-zero (w i)) ∙ ap (◌+ω◌ (w i)) (sym (shift-low h (middle_in n h w) i f))
        go (no f) (no g) k =
            ap₂ value (high (2 * i) (omega arith) (omega arith)) (high (2 * i + 1) (omega arith) (omega arith))
            ∙ sym (+ω-zero (w i))
            ∙ ap (◌+ω◌ (w i)) (sym (shift-high h (middle_in n h w) i (omega arith) ∙ ap (λ (t : Bool). cond t ((w (2 * n + (i - h)) -ω w (i - h)) -ω cond (ltb (i - h) (2 * (n - h))) (w (2 * h + (i - h))) 𝟘) 𝟘) (le-ltb (i - h) (2 * h) (omega arith))))
        go (no f) (yes g) (yes k) =
            ap₂ value
            (both (2 * i) (2 * (2 * n + (i - h))) (2 * (i - h)) (2 * (i - h)) (2 * (2 * h + (i - h))) (omega arith) (omega arith) (omega arith) (omega arith) (omega arith))
            (both (2 * i + 1) (2 * (2 * n + (i - h)) + 1) (2 * (i - h) + 1) (2 * (i - h) + 1) (2 * (2 * h + (i - h)) + 1) (omega arith) (omega arith) (omega arith) (omega arith) (omega arith))
            ∙ ap (◌+ω◌ (w i)) (sym (shift-high h (middle_in n h w) i (omega arith) ∙ ap₂ (λ (t u : Bool). cond t ((w (2 * n + (i - h)) -ω w (i - h)) -ω cond u (w (2 * h + (i - h))) 𝟘) 𝟘) (lt-ltb (i - h) (2 * h) g) (lt-ltb (i - h) (2 * (n - h)) k)))
        go (no f) (yes g) (no k) =
            ap₂ value
            (single (2 * i) (2 * (2 * n + (i - h))) (2 * (i - h)) (2 * (i - h)) (omega arith) (omega arith) (omega arith) (omega arith) (omega arith))
            (single (2 * i + 1) (2 * (2 * n + (i - h)) + 1) (2 * (i - h) + 1) (2 * (i - h) + 1) (omega arith) (omega arith) (omega arith) (omega arith) (omega arith))
            ∙ ap (◌+ω◌ (w i)) (sym (shift-high h (middle_in n h w) i (omega arith) ∙ ap₂ (λ (t u : Bool). cond t ((w (2 * n + (i - h)) -ω w (i - h)) -ω cond u (w (2 * h + (i - h))) 𝟘) 𝟘) (lt-ltb (i - h) (2 * h) g) (le-ltb (i - h) (2 * (n - h)) (omega arith)) ∙ less_zero (w (2 * n + (i - h)) -ω w (i - h))))

-- ---- the three products that it finds, put together

zero_less : (𝟘 -ω 𝟘) -ω 𝟘 ≡ 𝟘
zero_less = less_zero (𝟘 -ω 𝟘) ∙ less_zero 𝟘

swap : (p q r : ℤ[ω]) → (p +ω q) +ω r ≡ (p +ω r) +ω q
unfolding ◌+ω◌
swap = ringω 3 (λ p q r. (p ⊞ q) ⊞ r ≐ (p ⊞ r) ⊞ q) tt

module _ (n h : ℕ) (p : n ≤ 2 * h) (q : h ≤ n) (w first middle last : Polynomial) (at_0 : (k : ℕ) → k < 2 * h → w k ≡ first k) (at_2h : (k : ℕ) → k < 2 * (n - h) → w (2 * h + k) ≡ last k) (at_2n : (k : ℕ) → k < 2 * h → w (2 * n + k) ≡ middle k) (first_ends : (k : ℕ) → 2 * h ≤ k → first k ≡ 𝟘) (last-ends : (k : ℕ) → 2 * (n - h) ≤ k → last k ≡ 𝟘) (middle-ends : (k : ℕ) → 2 * h ≤ k → middle k ≡ 𝟘) where
  middle_in_lem : (k : ℕ) → middle_in n h w k ≡ (middle k -ω first k) -ω last k
  unfolding middle_in
  middle_in_lem k = go (dec_lt k (2 * h)) (dec_lt k (2 * (n - h)))
    where
      found : Bool → Bool → ℤ[ω]
      found t u = cond t ((w (2 * n + k) -ω w k) -ω cond u (w (2 * h + k)) 𝟘) 𝟘

      go : Dec (k < 2 * h) → Dec (k < 2 * (n - h)) → found (ltb k (2 * h)) (ltb k (2 * (n - h))) ≡ (middle k -ω first k) -ω last k
      go (yes r) (yes s) = ap₂ found (lt-ltb k (2 * h) r) (lt-ltb k (2 * (n - h)) s) ∙ ap₂ ◌-ω◌ (ap₂ ◌-ω◌ (at_2n k r) (at_0 k r)) (at_2h k s)
      go (yes r) (no s) =
          ap₂ found (lt-ltb k (2 * h) r) (le-ltb k (2 * (n - h)) (omega arith)) ∙ ap₂ ◌-ω◌ (ap₂ ◌-ω◌ (at_2n k r) (at_0 k r)) (sym (last-ends k (omega arith)))
      go (no r) s =
          ap (λ (t : Bool). found t (ltb k (2 * (n - h)))) (le-ltb k (2 * h) (omega arith))
          ∙ sym zero_less
          ∙ ap₂ ◌-ω◌ (ap₂ ◌-ω◌ (sym (middle-ends k (omega arith))) (sym (first_ends k (omega arith)))) (sym (last-ends k (omega arith)))

  outer_in : (i : ℕ) → i < 2 * n → w i ≡ first i +ω shift (2 * h) last i
  outer_in i l = go (dec_lt i (2 * h))
    where
      go : Dec (i < 2 * h) → w i ≡ first i +ω shift (2 * h) last i
      go (yes r) = at_0 i r ∙ sym (+ω-zero (first i)) ∙ ap (◌+ω◌ (first i)) (sym (shift-low (2 * h) last i r))
      go (no r) =
          ap w {x = i} {y = 2 * h + (i - 2 * h)} (omega arith)
          ∙ at_2h (i - 2 * h) (omega arith)
          ∙ sym (zero-+ω (last (i - 2 * h)))
          ∙ ap₂ ◌+ω◌ (sym (first_ends i (omega arith))) (sym (shift-high (2 * h) last i (omega arith)))

  pub joined_in_lem : (i : ℕ) → i < 2 * n → joined_in n h w i ≡ joined h first middle last i
  unfolding joined_in joined
  joined_in_lem i l =
      ap₂ ◌+ω◌ (outer_in i l) (shift_same h i middle_in_lem)
      ∙ swap (first i) (shift (2 * h) last i) (shift h (λ k. (middle k -ω first k) -ω last k) i)
