-- Finite sums in a commutative ring.
use mathlib.Core.Path.{◌≡◌, refl, sym, ◌∙◌, ap, ap₂}
use mathlib.Core.Logic.{◌≢◌}
use Prim.Native.Nat.{ℕ, zero, suc, ◌<◌}
use native.Mathlib.Omega.{arith}
use native.Mathlib.Decide.{ℕ_discrete}
use Rattle.polynomials.proofs.Rings.{Ring, Congruence}

unfoldable pub total : {A : Type 0} → Ring A → ℕ → (ℕ → A) → A
total R zero f = R.zero
total R (suc n) f = R.add (total R n f) (f n)

module _ {A : Type 0} (R : Ring A) where
  open R use {zero as 𝟎, add as ◌⊕◌, mul as ◌⊗◌, add_assoc, add_comm, add-zero, mul_comm, mul-zero, mul-add}

  pub zero-add : (x : A) → ◌⊕◌ 𝟎 x ≡ x
  zero-add x = add_comm 𝟎 x ∙ add-zero x

  pub zero-mul : (x : A) → ◌⊗◌ 𝟎 x ≡ 𝟎
  zero-mul x = mul_comm 𝟎 x ∙ mul-zero x

  exchange : (a b c d : A) → ◌⊕◌ (◌⊕◌ a b) (◌⊕◌ c d) ≡ ◌⊕◌ (◌⊕◌ a c) (◌⊕◌ b d)
  exchange a b c d =
      add_assoc a b (◌⊕◌ c d)
      ∙ ap (◌⊕◌ a) (sym (add_assoc b c d) ∙ ap (λ (x : A). ◌⊕◌ x d) (add_comm b c) ∙ add_assoc c b d)
      ∙ sym (add_assoc a c (◌⊕◌ b d))

  pub total_same : (n : ℕ) {f g : ℕ → A} → ((i : ℕ) → i < n → f i ≡ g i) → total R n f ≡ total R n g
  unfolding total
  total_same zero h = refl
  total_same (suc n) h = ap₂ ◌⊕◌ (total_same n (λ i l. h i (omega arith))) (h n (omega arith))

  pub total_zero : (n : ℕ) {f : ℕ → A} → ((i : ℕ) → i < n → f i ≡ 𝟎) → total R n f ≡ 𝟎
  unfolding total
  total_zero zero h = refl
  total_zero (suc n) h = ap₂ ◌⊕◌ (total_zero n (λ i l. h i (omega arith))) (h n (omega arith)) ∙ add-zero 𝟎

  pub total_add : (n : ℕ) (f g : ℕ → A) → total R n (λ i. ◌⊕◌ (f i) (g i)) ≡ ◌⊕◌ (total R n f) (total R n g)
  unfolding total
  total_add zero f g = sym (add-zero 𝟎)
  total_add (suc n) f g = ap (λ (x : A). ◌⊕◌ x (◌⊕◌ (f n) (g n))) (total_add n f g) ∙ exchange (total R n f) (total R n g) (f n) (g n)

  pub total_mul : (n : ℕ) (a : A) (f : ℕ → A) → total R n (λ i. ◌⊗◌ a (f i)) ≡ ◌⊗◌ a (total R n f)
  unfolding total
  total_mul zero a f = sym (mul-zero a)
  total_mul (suc n) a f = ap (λ (x : A). ◌⊕◌ x (◌⊗◌ a (f n))) (total_mul n a f) ∙ sym (mul-add a (total R n f) (f n))

  pub total_mul_right : (n : ℕ) (f : ℕ → A) (a : A) → total R n (λ i. ◌⊗◌ (f i) a) ≡ ◌⊗◌ (total R n f) a
  total_mul_right n f a = total_same n (λ i l. mul_comm (f i) a) ∙ total_mul n a f ∙ mul_comm a (total R n f)

  pub total_swap : (m n : ℕ) (f : ℕ → ℕ → A) → total R m (λ i. total R n (f i)) ≡ total R n (λ j. total R m (λ i. f i j))
  unfolding total
  total_swap zero n f = sym (total_zero n (λ j l. refl))
  total_swap (suc m) n f = ap (λ (x : A). ◌⊕◌ x (total R n (f m))) (total_swap m n f) ∙ sym (total_add n (λ j. total R m (λ i. f i j)) (f m))

  -- a sum of which all terms but one are zero
  pub total_one : (n k : ℕ) (f : ℕ → A) → k < n → ((i : ℕ) → i < n → i ≢ k → f i ≡ 𝟎) → total R n f ≡ f k
  unfolding total
  total_one zero k f l h = absurd (omega arith)
  total_one (suc n) k f l h = go (ℕ_discrete k n) (total_one n k f)
    where
      go : Dec (k ≡ n) → (k < n → ((i : ℕ) → i < n → i ≢ k → f i ≡ 𝟎) → total R n f ≡ f k) → ◌⊕◌ (total R n f) (f n) ≡ f k
      go (yes e) r = ap₂ ◌⊕◌ (total_zero n (λ i m. h i (omega arith) (λ q. omega arith))) (ap f (sym e)) ∙ zero-add (f k)
      go (no e) r = ap₂ ◌⊕◌ (r (omega arith) (λ i m q. h i (omega arith) q)) (h n (omega arith) (λ q. e (sym q))) ∙ add-zero (f k)

  pub total_congruent : {E : A → A → Type 0} → Congruence R E → (n : ℕ) {f g : ℕ → A} → ((i : ℕ) → i < n → E (f i) (g i)) → E (total R n f) (total R n g)
  unfolding total
  total_congruent C zero h = C.reflexive 𝟎
  total_congruent C (suc n) h = C.adds (total_congruent C n (λ i l. h i (omega arith))) (h n (omega arith))
