-- `multiply` meets its contract. Its measure is the length, which falls with each of the three calls.
use mathlib.Core.Path.{◌≡◌, refl, ◌∙◌, ap, ap₂, subst}
use mathlib.Core.List.{List, ◌++◌}
use Prim.Native.Nat.{ℕ, ◌+◌, ◌-◌, ◌*◌, ◌/◌, ◌^◌, ◌≤◌, ◌<◌}
use native.Mathlib.Omega.{arith}
use borrow.Rule.Slice.PartMut.{put_mid, mid_of, same_len_mid}
use lib.IntN.{ℤ, pos, nat_abs}
use lib.ListN.{length, take, drop, get_or}
use lib.Seq.{length-take-le}
use Rattle.polynomials.specs.Polynomials.{coefficient}
use Rattle.halving.specs.Products.{product}
use Rattle.halved_products.specs.Conditions.{Factors, Halvable}
use Rattle.halved_products.specs.Steps.{Added, Subtracted}
use Rattle.halved_products.proofs.Splitting.{front_same, mid_length, mid_is, after_two, added_from, subtracted_from, small_from, sum_bounded, sum-small, bounded_plain, restored, Three, three}
use Rattle.halved_products.proofs.halves.+multiply.Goals as goal
use Rattle.halved_products.proofs.halves.+multiply.Goals.{After-combine, After-combine-2}
use Rattle.halved_products.proofs.Putting.{put_by, at_default}
use borrow.Author.Rules.{rules}
use native.Mathlib.Nat.{le_trans}

-- ---- the lengths of a step, of which h = n − n/2 and n/2 are the halves

abbrev half : ℕ → ℕ
half n = 2 * (n - n / 2)

le_half : (n : ℕ) → n - n / 2 ≤ n
le_half n = omega arith

half_le : (n : ℕ) → n ≤ 2 * (n - n / 2)
half_le n = omega arith

rest_is : (n : ℕ) → n / 2 ≡ n - (n - n / 2)
rest_is n = omega arith

near : (n : ℕ) → half n ≤ n + 1
near n = omega arith

h_top : (n : ℕ) → n ≤ 1024 → n - n / 2 ≤ 1024
h_top n p = omega arith

fits_half : (n a b : ℕ) → b ≡ 2 * n → a ≡ b → half n ≤ a
fits_half n a b p e = omega arith

long_enough : (n a b : ℕ) → 16 < n → 17 * n ≤ 2 * b → a ≡ b → 4 * n + 4 * (n - n / 2) ≤ a
long_enough n a b big p e = omega arith

room_top : (n a b d e : ℕ) → b ≤ 2 ^ 16 → d ≡ b → e ≡ d → a ≡ e - 2 * (2 * n) → a ≤ 2 ^ 16
room_top n a b d e p q r s = omega arith

module _ (n : ℕ) (big : 16 < n) where
  few : 2 ≤ n - n / 2
  few = omega arith

  room_left : (a b d e : ℕ) → 17 * n ≤ 2 * b → d ≡ b → e ≡ d → a ≡ e - 2 * (2 * n) → 17 * (n - n / 2) ≤ 2 * a
  room_left a b d e p q r s = omega arith

  u_long : (a b d e : ℕ) → 17 * n ≤ 2 * b → d ≡ b → e ≡ d → a ≡ e - 2 * (2 * n) → 4 * (n - n / 2) ≤ a
  u_long a b d e p q r s = omega arith

-- ---- an operand, after each call

module _ (n : ℕ) where
  -- the first call leaves its first half as it was
  abbrev Whole : (x l : List ℤ) → List ℤ
  Whole x l = l ++ drop (half n) x

  -- the second call leaves its last half so
  abbrev last_of : (x l : List ℤ) → List ℤ
  last_of x l = mid_of (half n) (length (Whole x l) - half n) (Whole x l)

  abbrev Again : (x l m : List ℤ) → List ℤ
  Again x l m = put_mid (half n) (length (Whole x l) - half n) (Whole x l) m

  -- then its last half is added to its first, which the third call leaves as it was, and taken back
  abbrev Sum : (x a : List ℤ) → Type 0
  Sum x a = Added 0 (half n) (2 * (n - (n - n / 2))) x a

  summed : (x l m a : List ℤ) → l ≡ take (half n) x → m ≡ last_of x l → Added 0 (half n) (2 * (n / 2)) (Again x l m) a → Sum x a
  summed x l m a e f s =
      subst (λ (k : ℕ). Added 0 (half n) (2 * k) x a) (rest_is n) (added_from 0 (half n) (2 * (n / 2)) (after_two (half n) (front_same (half n) e) (length (Whole x l) - half n) f) s)

  summand : (x l m : List ℤ) (d : ℤ) → l ≡ take (half n) x → m ≡ last_of x l → 2 ≤ n → length x ≡ 2 * n → Halvable n x → (k : ℕ) → k < 2 * n → nat_abs (get_or (Again x l m) k d) ≤ 2 ^ 29
  summand x l m d e f z p b k q =
      let same : Again x l m ≡ x = after_two (half n) (front_same (half n) e) (length (Whole x l) - half n) f in
      at_default (Again x l m) k d (omega (arith, ap length same)) (small_from same (λ j. le_trans (bounded_plain x (n - 1) (omega arith) b j) (omega arith)) k)

  module _ (x a : List ℤ) (s : Sum x a) (l : List ℤ) (e : l ≡ take (half n) a) where
    third_small : 2 ≤ n → length x ≡ 2 * n → Halvable n x → (k : ℕ) → nat_abs (get_or (Whole a l) k (pos 0)) ≤ 2 ^ 29
    third_small z p b = small_from (front_same (half n) e) (sum-small n (n - n / 2) x p (le_half n) (half_le n) a s z b)

    -- every number of it that is read is small
    summed_small : (d : ℤ) → 2 ≤ n → length x ≡ 2 * n → Halvable n x → (k : ℕ) → k < 2 * n → nat_abs (get_or (Whole a l) k d) ≤ 2 ^ 29
    summed_small d z p b k q = at_default (Whole a l) k d (omega (arith, ap length (front_same (half n) {x = a} e), s.long)) (third_small z p b k)

    taken_back : length x ≡ 2 * n → (o : List ℤ) → Subtracted 0 (half n) (2 * (n / 2)) (Whole a l) o → o ≡ x
    taken_back p o t =
        restored n (n - n / 2) x p (le_half n) (half_le n) a s o (subst (λ (k : ℕ). Subtracted 0 (half n) (2 * k) a o) (rest_is n) (subtracted_from 0 (half n) (2 * (n / 2)) (front_same (half n) e) t))

-- ---- the array of products

-- what a call with n coefficients leaves
abbrev Left : (n : ℕ) (x y x' y' w' : List ℤ) → Type 0
Left n x y x' y' w' = (x' ≡ x) × (y' ≡ y) × ((i : ℕ) → i < 2 * n → coefficient w' i ≡ product (coefficient x) (coefficient y) i)

-- the product of the last halves put behind that of the first ones
abbrev Two : ℕ → (w₁ w₂ : List ℤ) → List ℤ
Two n w₁ w₂ = put_mid (2 * half n) (length w₁ - 2 * half n) w₁ w₂

-- the room behind both
abbrev room : ℕ → List ℤ → List ℤ
room n w = mid_of (2 * (2 * n)) (length w - 2 * (2 * n)) w

-- the product of the sums put there
abbrev All : ℕ → (v w₃ : List ℤ) → List ℤ
All n v w₃ = put_mid (2 * (2 * n)) (length v - 2 * (2 * n)) v w₃

same_room : (n : ℕ) (w₁ w₂ : List ℤ) → length w₂ ≡ length (mid_of (2 * half n) (length w₁ - 2 * half n) w₁) → length (Two n w₁ w₂) ≡ length w₁
same_room n w₁ w₂ e = same_len_mid (2 * half n) (length w₁ - 2 * half n) w₁ w₂ e

-- after the third call all three products are there
three_formed :
    (n : ℕ) (x y w x₁ y₁ w₁ x₂ y₂ w₂ a b x₃ y₃ w₃ : List ℤ)
    → 16 < n → Factors n x y w → Halvable n x → Halvable n y
    → Left (n - n / 2) (take (half n) x) (take (half n) y) x₁ y₁ w₁ → length w₁ ≡ length w
    → Left (n / 2) (last_of n x x₁) (last_of n y y₁) x₂ y₂ w₂ → length w₂ ≡ length (mid_of (2 * half n) (length w₁ - 2 * half n) w₁)
    → Added 0 (half n) (2 * (n / 2)) (Again n x x₁ x₂) a → Added 0 (half n) (2 * (n / 2)) (Again n y y₁ y₂) b
    → Left (n - n / 2) (take (half n) a) (take (half n) b) x₃ y₃ w₃ → length w₃ ≡ length (room n (Two n w₁ w₂))
    → Three n (n - n / 2) x y (All n (Two n w₁ w₂) w₃)
three_formed n x y w x₁ y₁ w₁ x₂ y₂ w₂ a b x₃ y₃ w₃ big f bx by l₁ e₁ l₂ e₂ sa sb l₃ e₃ =
    let v = Two n w₁ w₂ in
    let p = le_half n in
    let q = half_le n in
    let sx = summed n x x₁ x₂ a l₁.0 l₂.0 sa in
    let sy = summed n y y₁ y₂ b l₁.1 l₂.1 sb in
    three n (n - n / 2) p q (few n big) f.1 x y a b w₁ w₂ w₃ (length w₁ - 2 * half n) (length v - 2 * (2 * n)) f.2 f.3 bx by sx sy
    (sum_bounded n (n - n / 2) x f.2 p q a sx (near n) bx)
    (sum_bounded n (n - n / 2) y f.3 p q b sy (near n) by)
    (long_enough n (length w₁) (length w) big f.4 e₁)
    e₂
    refl
    (u_long n big (length w₃) (length w) (length w₁) (length v) f.4 e₁ (same_room n w₁ w₂ e₂) (e₃ ∙ mid_length (2 * (2 * n)) {x = v} refl))
    l₁.2
    (λ i l. l₂.2 i (omega (arith, l)) ∙ ap₂ (λ (a b : List ℤ). product (coefficient a) (coefficient b) i) (mid_is (half n) (front_same (half n) l₁.0)) (mid_is (half n) (front_same (half n) l₁.1)))
    l₃.2

-- ---- the function

-- the halves of an operand are added up
added_x : {t : ℕ} (c : After-combine t) → Added 0 (half c.args.n) (2 * (c.args.n / 2)) (Again c.args.n c.args.x.now c.multiply.new.x c.multiply-2.new.x) c.combine.new.x
added_x c =
    let n = c.args.n in
    let f = c.requires.factors in
    let l = Again n c.args.x.now c.multiply.new.x c.multiply-2.new.x in
    let bound = summand n c.args.x.now c.multiply.new.x c.multiply-2.new.x (pos 0) c.multiply.ensures.0 c.multiply-2.ensures.0 f.0 f.2 c.requires.halvable in
    put_by c.combine.ensures (λ k v p e.
    let low : nat_abs (get_or l (0 + k) (pos 0)) ≤ 2 ^ 29 = bound (0 + k) (omega arith) in
    let high : nat_abs (get_or l (half n + k) (pos 0)) ≤ 2 ^ 29 = bound (half n + k) (omega arith) in
    search rules)

added_y : {t : ℕ} (c : After-combine-2 t) → Added 0 (half c.args.n) (2 * (c.args.n / 2)) (Again c.args.n c.args.y.now c.multiply.new.y c.multiply-2.new.y) c.combine-2.new.x
added_y c =
    let n = c.args.n in
    let f = c.requires.factors in
    let l = Again n c.args.y.now c.multiply.new.y c.multiply-2.new.y in
    let bound = summand n c.args.y.now c.multiply.new.y c.multiply-2.new.y (pos 0) c.multiply.ensures.1 c.multiply-2.ensures.1 f.0 f.3 c.requires.halvable_2 in
    put_by c.combine-2.ensures (λ k v p e.
    let low : nat_abs (get_or l (0 + k) (pos 0)) ≤ 2 ^ 29 = bound (0 + k) (omega arith) in
    let high : nat_abs (get_or l (half n + k) (pos 0)) ≤ 2 ^ 29 = bound (half n + k) (omega arith) in
    search rules)

pub multiply-requires-3 : goal.multiply-requires-3
multiply-requires-3 t c =
    let n = c.args.n in
    let f = c.requires.factors in
    let big : 16 < n = omega arith in
    let p = le_half n in
    let q = half_le n in
    let a = c.combine.new.x in
    let b = c.combine-2.new.x in
    let sx = summed n c.args.x.now c.multiply.new.x c.multiply-2.new.x a c.multiply.ensures.0 c.multiply-2.ensures.0 (added_x (goal.at.multiply-requires-3 t c).After-combine) in
    let sy = summed n c.args.y.now c.multiply.new.y c.multiply-2.new.y b c.multiply.ensures.1 c.multiply-2.ensures.1 (added_y (goal.at.multiply-requires-3 t c).After-combine-2) in
    let v = Two n c.multiply.new.w c.multiply-2.new.w in
    let e = same_room n c.multiply.new.w c.multiply-2.new.w c.multiply-2.auto.w in
    let m = mid_length (2 * (2 * n)) {x = v} refl in (
      omega arith,
      (
        (
          few n big,
          h_top n f.1,
          length-take-le (half n) a (fits_half n (length a) (length c.args.x.now) f.2 sx.long),
          length-take-le (half n) b (fits_half n (length b) (length c.args.y.now) f.3 sy.long),
          room_left n big (length (room n v)) (length c.args.w.now) (length c.multiply.new.w) (length v) f.4 c.multiply.auto.w e m,
          room_top n (length (room n v)) (length c.args.w.now) (length c.multiply.new.w) (length v) f.5 c.multiply.auto.w e m,
        ),
        (sum_bounded n (n - n / 2) c.args.x.now f.2 p q a sx (near n) c.requires.halvable, sum_bounded n (n - n / 2) c.args.y.now f.3 p q b sy (near n) c.requires.halvable_2),
      ),
    )

pub combine-requires-clause-callable : goal.combine-requires-clause-callable
combine-requires-clause-callable t c d k p =
    let n = c.args.n in
    let f = c.requires.factors in
    let x = c.args.x.now in
    let bound = summand n x c.multiply.new.x c.multiply-2.new.x d c.multiply.ensures.0 c.multiply-2.ensures.0 f.0 f.2 c.requires.halvable in
    let low : nat_abs (get_or (Again n x c.multiply.new.x c.multiply-2.new.x) (0 + k) d) ≤ 2 ^ 29 = bound (0 + k) (omega arith) in
    let high : nat_abs (get_or (Again n x c.multiply.new.x c.multiply-2.new.x) (half n + k) d) ≤ 2 ^ 29 = bound (half n + k) (omega arith) in
    search rules

pub combine-requires-2-clause-callable : goal.combine-requires-2-clause-callable
combine-requires-2-clause-callable t c d k p =
    let n = c.args.n in
    let f = c.requires.factors in
    let y = c.args.y.now in
    let bound = summand n y c.multiply.new.y c.multiply-2.new.y d c.multiply.ensures.1 c.multiply-2.ensures.1 f.0 f.3 c.requires.halvable_2 in
    let low : nat_abs (get_or (Again n y c.multiply.new.y c.multiply-2.new.y) (0 + k) d) ≤ 2 ^ 29 = bound (0 + k) (omega arith) in
    let high : nat_abs (get_or (Again n y c.multiply.new.y c.multiply-2.new.y) (half n + k) d) ≤ 2 ^ 29 = bound (half n + k) (omega arith) in
    search rules

pub combine-requires-3-clause-callable : goal.combine-requires-3-clause-callable
combine-requires-3-clause-callable t c d k p =
    let n = c.args.n in
    let f = c.requires.factors in
    let x = c.args.x.now in
    let a = c.combine.new.x in
    let sx = summed n x c.multiply.new.x c.multiply-2.new.x a c.multiply.ensures.0 c.multiply-2.ensures.0 (added_x (goal.at.combine-requires-3-clause-callable t c).After-combine) in
    let bound = summed_small n x a sx c.multiply-3.new.x c.multiply-3.ensures.0 d f.0 f.2 c.requires.halvable in
    let low : nat_abs (get_or (Whole n a c.multiply-3.new.x) (0 + k) d) ≤ 2 ^ 29 = bound (0 + k) (omega arith) in
    let high : nat_abs (get_or (Whole n a c.multiply-3.new.x) (half n + k) d) ≤ 2 ^ 29 = bound (half n + k) (omega arith) in
    search rules

pub combine-requires-4-clause-callable : goal.combine-requires-4-clause-callable
combine-requires-4-clause-callable t c d k p =
    let n = c.args.n in
    let f = c.requires.factors in
    let y = c.args.y.now in
    let b = c.combine-2.new.x in
    let sy = summed n y c.multiply.new.y c.multiply-2.new.y b c.multiply.ensures.1 c.multiply-2.ensures.1 (added_y (goal.at.combine-requires-4-clause-callable t c).After-combine-2) in
    let bound = summed_small n y b sy c.multiply-3.new.y c.multiply-3.ensures.1 d f.0 f.3 c.requires.halvable_2 in
    let low : nat_abs (get_or (Whole n b c.multiply-3.new.y) (0 + k) d) ≤ 2 ^ 29 = bound (0 + k) (omega arith) in
    let high : nat_abs (get_or (Whole n b c.multiply-3.new.y) (half n + k) d) ≤ 2 ^ 29 = bound (half n + k) (omega arith) in
    search rules

pub join-requires-clause-by_index : goal.join-requires-clause-by_index
join-requires-clause-by_index t c =
    (three_formed c.args.n c.args.x.now c.args.y.now c.args.w.now c.multiply.new.x c.multiply.new.y c.multiply.new.w c.multiply-2.new.x c.multiply-2.new.y c.multiply-2.new.w c.combine.new.x c.combine-2.new.x c.multiply-3.new.x c.multiply-3.new.y c.multiply-3.new.w
    (omega arith) c.requires.factors c.requires.halvable c.requires.halvable_2 c.multiply.ensures c.multiply.auto.w c.multiply-2.ensures c.multiply-2.auto.w (added_x (goal.at.join-requires-clause-by_index t c).After-combine) (added_y (goal.at.join-requires-clause-by_index t c).After-combine-2) c.multiply-3.ensures c.multiply-3.auto.w).small

pub returns : goal.returns
returns t c =
    let n = c.args.n in
    let f = c.requires.factors in
    let sx = summed n c.args.x.now c.multiply.new.x c.multiply-2.new.x c.combine.new.x c.multiply.ensures.0 c.multiply-2.ensures.0 (added_x (goal.at.returns t c).After-combine) in
    let sy = summed n c.args.y.now c.multiply.new.y c.multiply-2.new.y c.combine-2.new.x c.multiply.ensures.1 c.multiply-2.ensures.1 (added_y (goal.at.returns t c).After-combine-2) in
    let taken_x : Subtracted 0 (half n) (2 * (n / 2)) (Whole n c.combine.new.x c.multiply-3.new.x) c.combine-3.new.x = put_by c.combine-3.ensures (λ k v p e.
    let bound = summed_small n c.args.x.now c.combine.new.x sx c.multiply-3.new.x c.multiply-3.ensures.0 (pos 0) f.0 f.2 c.requires.halvable in
    let low : nat_abs (get_or (Whole n c.combine.new.x c.multiply-3.new.x) (0 + k) (pos 0)) ≤ 2 ^ 29 = bound (0 + k) (omega arith) in
    let high : nat_abs (get_or (Whole n c.combine.new.x c.multiply-3.new.x) (half n + k) (pos 0)) ≤ 2 ^ 29 = bound (half n + k) (omega arith) in
    search rules) in
    let taken_y : Subtracted 0 (half n) (2 * (n / 2)) (Whole n c.combine-2.new.x c.multiply-3.new.y) c.combine-4.new.x = put_by c.combine-4.ensures (λ k v p e.
    let bound = summed_small n c.args.y.now c.combine-2.new.x sy c.multiply-3.new.y c.multiply-3.ensures.1 (pos 0) f.0 f.3 c.requires.halvable_2 in
    let low : nat_abs (get_or (Whole n c.combine-2.new.x c.multiply-3.new.y) (0 + k) (pos 0)) ≤ 2 ^ 29 = bound (0 + k) (omega arith) in
    let high : nat_abs (get_or (Whole n c.combine-2.new.x c.multiply-3.new.y) (half n + k) (pos 0)) ≤ 2 ^ 29 = bound (half n + k) (omega arith) in
    search rules) in (
      taken_back n c.args.x.now c.combine.new.x sx c.multiply-3.new.x c.multiply-3.ensures.0 f.2 c.combine-3.new.x taken_x,
      taken_back n c.args.y.now c.combine-2.new.x sy c.multiply-3.new.y c.multiply-3.ensures.1 f.3 c.combine-4.new.x taken_y,
      λ i l.
          c.join.ensures i l
          ∙ (three_formed c.args.n c.args.x.now c.args.y.now c.args.w.now c.multiply.new.x c.multiply.new.y c.multiply.new.w c.multiply-2.new.x c.multiply-2.new.y c.multiply-2.new.w c.combine.new.x c.combine-2.new.x c.multiply-3.new.x c.multiply-3.new.y c.multiply-3.new.w
          (omega arith) c.requires.factors c.requires.halvable c.requires.halvable_2 c.multiply.ensures c.multiply.auto.w c.multiply-2.ensures c.multiply-2.auto.w (added_x (goal.at.returns t c).After-combine) (added_y (goal.at.returns t c).After-combine-2) c.multiply-3.ensures c.multiply-3.auto.w).join
          i l,
    )
