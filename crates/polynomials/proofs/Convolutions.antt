-- Convolution over a finite group of indices, in a commutative ring: (x ∗ y) at i is the sum of x j · y k over all j and k with j·k = i.
-- It is bilinear and associative, has a unit on both sides, keeps congruences, and commutes where the group does.
use mathlib.Core.Path.{◌≡◌, refl, sym, ◌∙◌, ap, ap₂}
use mathlib.Core.Bool.{Bool, true, false, cond}
use mathlib.Core.Logic.{◌≢◌}
use Prim.Native.Nat.{ℕ, zero, ◌<◌}
use native.Mathlib.Omega.{arith}
use borrow.Author.Tests.{eq-eqb, ne_eqb}
use lib.Dec.{eqb}
use Rattle.polynomials.proofs.Rings.{Ring, Congruence, Group}
use Rattle.polynomials.proofs.Sums.{total, zero-mul, total_same, total_zero, total_add, total_mul, total_mul_right, total_swap, total_one, total_congruent}

-- a where the test holds, else zero
abbrev pub pick : {A : Type 0} → Ring A → Bool → A → A
pick R t a = cond t a R.zero

unfoldable pub conv : {A : Type 0} → Ring A → {n : ℕ} → Group n → (ℕ → A) → (ℕ → A) → ℕ → A
conv R {n} G x y i = total R n (λ j. total R n (λ k. pick R (eqb (G.op j k) i) (R.mul (x j) (y k))))

-- the unit: one at 0, zero elsewhere
unfoldable pub unit : {A : Type 0} → Ring A → ℕ → A
unit R i = pick R (eqb i 0) R.one

module _ {A : Type 0} (R : Ring A) {n : ℕ} (G : Group n) where
  open R use {zero as 𝟎, one as 𝟏, add as ◌⊕◌, mul as ◌⊗◌, add_assoc, add_comm, add-zero, mul_assoc, mul_comm, mul_one, mul-zero, mul-add}
  open G use {op, over, closed, assoc, unit_left, unit_right, over_closed, op_over, over_only}

  -- a test passes through a product and a sum
  mul_pick : (t : Bool) (a b : A) → ◌⊗◌ a (pick R t b) ≡ pick R t (◌⊗◌ a b)
  mul_pick true a b = refl
  mul_pick false a b = mul-zero a

  pick_add : (t : Bool) (a b : A) → pick R t (◌⊕◌ a b) ≡ ◌⊕◌ (pick R t a) (pick R t b)
  pick_add true a b = refl
  pick_add false a b = sym (add-zero 𝟎)

  pick_yes : {i j : ℕ} (a : A) → i ≡ j → pick R (eqb i j) a ≡ a
  pick_yes {i} {j} a e = ap (λ (t : Bool). pick R t a) (eq-eqb i j e)

  pick_none : (t : Bool) → pick R t 𝟎 ≡ 𝟎
  pick_none true = refl
  pick_none false = refl

  pick_no : {i j : ℕ} (a : A) → i ≢ j → pick R (eqb i j) a ≡ 𝟎
  pick_no {i} {j} a e = ap (λ (t : Bool). pick R t a) (ne_eqb i j e)

  -- ---- what a convolution depends on

  pub conv_same : {x x' y y' : ℕ → A} → ((j : ℕ) → j < n → x j ≡ x' j) → ((k : ℕ) → k < n → y k ≡ y' k) → (i : ℕ) → conv R G x y i ≡ conv R G x' y' i
  unfolding conv
  conv_same p q i = total_same R n (λ j l. total_same R n (λ k m. ap (pick R (eqb (op j k) i)) (ap₂ ◌⊗◌ (p j l) (q k m))))

  pub conv_congruent : {E : A → A → Type 0} → Congruence R E → {x x' y y' : ℕ → A} → ((j : ℕ) → j < n → E (x j) (x' j)) → ((k : ℕ) → k < n → E (y k) (y' k)) → (i : ℕ) → E (conv R G x y i) (conv R G x' y' i)
  unfolding conv
  conv_congruent {E} C {x} {x'} {y} {y'} p q i =
      total_congruent R C n (λ j l. total_congruent R C n (λ k m. picked (eqb (op j k) i) (C.multiplies (p j l) (q k m))))
    where
      picked : (t : Bool) {a b : A} → E a b → E (pick R t a) (pick R t b)
      picked true h = h
      picked false h = C.reflexive 𝟎

  -- ---- bilinear

  pub conv_add_right : (x y z : ℕ → A) (i : ℕ) → conv R G x (λ k. ◌⊕◌ (y k) (z k)) i ≡ ◌⊕◌ (conv R G x y i) (conv R G x z i)
  unfolding conv
  conv_add_right x y z i =
      total_same R n (λ j l. total_same R n (λ k m. ap (pick R (eqb (op j k) i)) (mul-add (x j) (y k) (z k)) ∙ pick_add (eqb (op j k) i) (◌⊗◌ (x j) (y k)) (◌⊗◌ (x j) (z k))) ∙ total_add R n _ _)
      ∙ total_add R n _ _

  pub conv_add_left : (x y z : ℕ → A) (i : ℕ) → conv R G (λ j. ◌⊕◌ (x j) (y j)) z i ≡ ◌⊕◌ (conv R G x z i) (conv R G y z i)
  unfolding conv
  conv_add_left x y z i =
      total_same R n (λ j l. total_same R n (λ k m. ap (pick R (eqb (op j k) i)) (distribute (x j) (y j) (z k)) ∙ pick_add (eqb (op j k) i) (◌⊗◌ (x j) (z k)) (◌⊗◌ (y j) (z k))) ∙ total_add R n _ _)
      ∙ total_add R n _ _
    where
      distribute : (a b c : A) → ◌⊗◌ (◌⊕◌ a b) c ≡ ◌⊕◌ (◌⊗◌ a c) (◌⊗◌ b c)
      distribute a b c = mul_comm (◌⊕◌ a b) c ∙ mul-add c a b ∙ ap₂ ◌⊕◌ (mul_comm c a) (mul_comm c b)

  -- ---- the single sum: for each j just one k has j·k = i

  single_inner : (x y : ℕ → A) (i j : ℕ) → i < n → j < n → total R n (λ k. pick R (eqb (op j k) i) (◌⊗◌ (x j) (y k))) ≡ ◌⊗◌ (x j) (y (over j i))
  single_inner x y i j p q =
      total_one R n (over j i) (λ k. pick R (eqb (op j k) i) (◌⊗◌ (x j) (y k))) (over_closed q p) (λ k l ne. pick_no (◌⊗◌ (x j) (y k)) (λ e. ne (over_only q l e)))
      ∙ pick_yes (◌⊗◌ (x j) (y (over j i))) (op_over q p)

  pub conv_single : (x y : ℕ → A) (i : ℕ) → i < n → conv R G x y i ≡ total R n (λ j. ◌⊗◌ (x j) (y (over j i)))
  unfolding conv
  conv_single x y i p = total_same R n (λ j q. single_inner x y i j p q)

  -- ---- associative: both ways are Σ x j · y k · z l over j·k·l = i

  -- a weighted sum of a convolution's coefficients
  weighted : (x y w : ℕ → A) → total R n (λ i. ◌⊗◌ (conv R G x y i) (w i)) ≡ total R n (λ j. total R n (λ k. ◌⊗◌ (◌⊗◌ (x j) (y k)) (w (op j k))))
  unfolding conv
  weighted x y w =
      total_same R n (λ i l. sym (total_mul_right R n _ (w i)) ∙ total_same R n (λ j m. sym (total_mul_right R n _ (w i))))
      ∙ total_swap R n n (λ i j. total R n (λ k. ◌⊗◌ (pick R (eqb (op j k) i) (◌⊗◌ (x j) (y k))) (w i)))
      ∙ total_same R n (λ j m. total_swap R n n (λ i k. ◌⊗◌ (pick R (eqb (op j k) i) (◌⊗◌ (x j) (y k))) (w i)) ∙ total_same R n (λ k o. at j k m o))
    where
      at : (j k : ℕ) → j < n → k < n → total R n (λ i. ◌⊗◌ (pick R (eqb (op j k) i) (◌⊗◌ (x j) (y k))) (w i)) ≡ ◌⊗◌ (◌⊗◌ (x j) (y k)) (w (op j k))
      at j k m o =
          total_one R n (op j k) (λ i. ◌⊗◌ (pick R (eqb (op j k) i) (◌⊗◌ (x j) (y k))) (w i)) (closed m o) (λ i l ne. ap (λ (a : A). ◌⊗◌ a (w i)) (pick_no {i = op j k} {j = i} (◌⊗◌ (x j) (y k)) (λ e. ne (sym e))) ∙ zero-mul R (w i))
          ∙ ap (λ (a : A). ◌⊗◌ a (w (op j k))) (pick_yes {i = op j k} {j = op j k} (◌⊗◌ (x j) (y k)) refl)

  pub conv_assoc : (x y z : ℕ → A) (i : ℕ) → conv R G (conv R G x y) z i ≡ conv R G x (conv R G y z) i
  unfolding conv
  conv_assoc x y z i = left ∙ middle ∙ sym right
    where
      -- the weight by which coefficient a of x ∗ y goes into the product with z
      w : ℕ → A
      w a = total R n (λ l. pick R (eqb (op a l) i) (z l))

      left : conv R G (conv R G x y) z i ≡ total R n (λ j. total R n (λ k. ◌⊗◌ (◌⊗◌ (x j) (y k)) (w (op j k))))
      left =
          total_same R n (λ a p. total_same R n (λ l q. sym (mul_pick (eqb (op a l) i) (conv R G x y a) (z l))) ∙ total_mul R n (conv R G x y a) (λ l. pick R (eqb (op a l) i) (z l)))
          ∙ weighted x y w

      middle : total R n (λ j. total R n (λ k. ◌⊗◌ (◌⊗◌ (x j) (y k)) (w (op j k)))) ≡ total R n (λ j. total R n (λ k. total R n (λ l. pick R (eqb (op j (op k l)) i) (◌⊗◌ (x j) (◌⊗◌ (y k) (z l))))))
      middle =
          total_same R n (λ j p. total_same R n (λ k q. sym (total_mul R n (◌⊗◌ (x j) (y k)) (λ l. pick R (eqb (op (op j k) l) i) (z l)))
          ∙ total_same R n (λ l r. mul_pick (eqb (op (op j k) l) i) (◌⊗◌ (x j) (y k)) (z l)
          ∙ ap₂ (λ (m : ℕ) (a : A). pick R (eqb m i) a) (assoc p q r) (mul_assoc (x j) (y k) (z l)))))

      -- the weight by which coefficient b of y ∗ z goes into the product with x j
      v : ℕ → ℕ → A
      v j b = pick R (eqb (op j b) i) (x j)

      turned : (t : Bool) (a c : A) → pick R t (◌⊗◌ a c) ≡ ◌⊗◌ c (pick R t a)
      turned t a c = ap (pick R t) (mul_comm a c) ∙ sym (mul_pick t c a)

      right : conv R G x (conv R G y z) i ≡ total R n (λ j. total R n (λ k. total R n (λ l. pick R (eqb (op j (op k l)) i) (◌⊗◌ (x j) (◌⊗◌ (y k) (z l))))))
      right =
          total_same R n (λ j p. total_same R n (λ b q. turned (eqb (op j b) i) (x j) (conv R G y z b))
          ∙ weighted y z (v j)
          ∙ total_same R n (λ k q. total_same R n (λ l r. sym (turned (eqb (op j (op k l)) i) (x j) (◌⊗◌ (y k) (z l))))))

  -- ---- the unit, on both sides

  pub conv_unit_left : (y : ℕ → A) (i : ℕ) → i < n → conv R G (unit R) y i ≡ y i
  unfolding conv unit
  conv_unit_left y i p =
      total_one R n 0 (λ j. total R n (λ k. pick R (eqb (op j k) i) (◌⊗◌ (pick R (eqb j 0) 𝟏) (y k)))) first (λ j l ne. total_zero R n (λ k m. ap (pick R (eqb (op j k) i)) (ap (λ (a : A). ◌⊗◌ a (y k)) (pick_no 𝟏 ne) ∙ zero-mul R (y k)) ∙ pick_none (eqb (op j k) i)))
      ∙ total_one R n i (λ k. pick R (eqb (op 0 k) i) (◌⊗◌ (pick R (eqb 0 0) 𝟏) (y k))) p (λ k l ne. pick_no {i = op 0 k} {j = i} (◌⊗◌ (pick R (eqb 0 0) 𝟏) (y k)) (λ e. ne (sym (unit_left l) ∙ e)))
      ∙ pick_yes {i = op 0 i} {j = i} (◌⊗◌ (pick R (eqb 0 0) 𝟏) (y i)) (unit_left p)
      ∙ mul_comm 𝟏 (y i) ∙ mul_one (y i)
    where
      first : 0 < n
      first = omega arith

  -- ---- commutative where the group is

  pub conv_comm : ((j k : ℕ) → op j k ≡ op k j) → (x y : ℕ → A) (i : ℕ) → conv R G x y i ≡ conv R G y x i
  unfolding conv
  conv_comm h x y i =
      total_swap R n n (λ j k. pick R (eqb (op j k) i) (◌⊗◌ (x j) (y k)))
      ∙ total_same R n (λ k l. total_same R n (λ j m. ap₂ (λ (o : ℕ) (a : A). pick R (eqb o i) a) (h j k) (mul_comm (x j) (y k))))
