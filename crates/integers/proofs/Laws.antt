-- The ring laws of ℤ that `lib.IntN` lacks: the product is associative and distributes over the sum.
-- One use: `*ℤ_assoc a b c : (a *ℤ b) *ℤ c ≡ a *ℤ (b *ℤ c)`.
use mathlib.Core.Path.{◌≡◌, sym, ◌∙◌, ap}
use Prim.Native.Nat.{zero, suc}
use lib.IntN.{ℤ, pos, negsuc, suc_ℤ, pred_ℤ, neg_ℤ, ◌+ℤ◌, ◌-ℤ◌, ◌*ℤ◌, +ℤ_assoc, +ℤ_comm, +ℤ_idl, +ℤ_idr, +ℤ_invr, +ℤ_invl, suc_ℤ-+ℤ, pred_ℤ-+ℤ, suc_ℤ-*ℤ, pred_ℤ-*ℤ, zero-*ℤ, *ℤ_comm}

-- induction by one step up and one step down
pub step_ind {ℓ} : (P : ℤ → Type ℓ) → P (pos 0) → ((k : ℤ) → P k → P (suc_ℤ k)) → ((k : ℤ) → P k → P (pred_ℤ k)) → (k : ℤ) → P k
step_ind P z s p (pos zero) = z
step_ind P z s p (pos (suc n)) = s (pos n) (step_ind P z s p (pos n))
step_ind P z s p (negsuc zero) = p (pos zero) z
step_ind P z s p (negsuc (suc n)) = p (negsuc n) (step_ind P z s p (negsuc n))

swap_last : (a b c : ℤ) → (a +ℤ b) +ℤ c ≡ (a +ℤ c) +ℤ b
swap_last a b c = +ℤ_assoc a b c ∙ ap (λ (x : ℤ). a +ℤ x) (+ℤ_comm b c) ∙ sym (+ℤ_assoc a c b)

pub distrib_right : (a b c : ℤ) → (a +ℤ b) *ℤ c ≡ (a *ℤ c) +ℤ (b *ℤ c)
distrib_right a b c = step_ind (λ a. (a +ℤ b) *ℤ c ≡ (a *ℤ c) +ℤ (b *ℤ c))
    (ap (λ (x : ℤ). x *ℤ c) (+ℤ_idl b) ∙ sym (ap (λ (x : ℤ). x +ℤ (b *ℤ c)) (zero-*ℤ c) ∙ +ℤ_idl (b *ℤ c)))
    (λ k h. ap (λ (x : ℤ). x *ℤ c) (suc_ℤ-+ℤ k b) ∙ suc_ℤ-*ℤ (k +ℤ b) c ∙ ap (λ (x : ℤ). x +ℤ c) h
    ∙ swap_last (k *ℤ c) (b *ℤ c) c ∙ ap (λ (x : ℤ). x +ℤ (b *ℤ c)) (sym (suc_ℤ-*ℤ k c)))
    (λ k h. ap (λ (x : ℤ). x *ℤ c) (pred_ℤ-+ℤ k b) ∙ pred_ℤ-*ℤ (k +ℤ b) c ∙ ap (λ (x : ℤ). x -ℤ c) h
    ∙ swap_last (k *ℤ c) (b *ℤ c) (neg_ℤ c) ∙ ap (λ (x : ℤ). x +ℤ (b *ℤ c)) (sym (pred_ℤ-*ℤ k c)))
    a

pub distrib_left : (a b c : ℤ) → a *ℤ (b +ℤ c) ≡ (a *ℤ b) +ℤ (a *ℤ c)
distrib_left a b c = *ℤ_comm a (b +ℤ c) ∙ distrib_right b c a ∙ cc (*ℤ_comm b a, *ℤ_comm c a)

-- two sums of two, exchanged in the middle
pub exchange : (a b c d : ℤ) → (a +ℤ b) +ℤ (c +ℤ d) ≡ (a +ℤ c) +ℤ (b +ℤ d)
exchange a b c d = +ℤ_assoc a b (c +ℤ d) ∙ ap (λ (x : ℤ). a +ℤ x) (sym (+ℤ_assoc b c d) ∙ ap (λ (x : ℤ). x +ℤ d) (+ℤ_comm b c) ∙ +ℤ_assoc c b d) ∙ sym (+ℤ_assoc a c (b +ℤ d))

-- a number and what makes 0 with it
pub inverse_unique : (a b : ℤ) → a +ℤ b ≡ pos 0 → b ≡ neg_ℤ a
inverse_unique a b h =
    sym (+ℤ_idl b) ∙ ap (λ (x : ℤ). x +ℤ b) (sym (+ℤ_invl a)) ∙ +ℤ_assoc (neg_ℤ a) a b ∙ ap (λ (x : ℤ). neg_ℤ a +ℤ x) h ∙ +ℤ_idr (neg_ℤ a)

pub neg-*ℤ : (a b : ℤ) → neg_ℤ a *ℤ b ≡ neg_ℤ (a *ℤ b)
neg-*ℤ a b =
    inverse_unique (a *ℤ b) (neg_ℤ a *ℤ b)
    (sym (distrib_right a (neg_ℤ a) b) ∙ ap (λ (x : ℤ). x *ℤ b) (+ℤ_invr a) ∙ zero-*ℤ b)

pub *ℤ_neg : (a b : ℤ) → a *ℤ neg_ℤ b ≡ neg_ℤ (a *ℤ b)
*ℤ_neg a b = *ℤ_comm a (neg_ℤ b) ∙ neg-*ℤ b a ∙ ap neg_ℤ (*ℤ_comm b a)

pub *ℤ_assoc : (a b c : ℤ) → (a *ℤ b) *ℤ c ≡ a *ℤ (b *ℤ c)
*ℤ_assoc a b c = step_ind (λ a. (a *ℤ b) *ℤ c ≡ a *ℤ (b *ℤ c))
    (ap (λ (x : ℤ). x *ℤ c) (zero-*ℤ b) ∙ zero-*ℤ c ∙ sym (zero-*ℤ (b *ℤ c)))
    (λ k h. ap (λ (x : ℤ). x *ℤ c) (suc_ℤ-*ℤ k b) ∙ distrib_right (k *ℤ b) b c ∙ ap (λ (x : ℤ). x +ℤ (b *ℤ c)) h
    ∙ sym (suc_ℤ-*ℤ k (b *ℤ c)))
    (λ k h. ap (λ (x : ℤ). x *ℤ c) (pred_ℤ-*ℤ k b) ∙ distrib_right (k *ℤ b) (neg_ℤ b) c
    ∙ ap (λ (x : ℤ). ((k *ℤ b) *ℤ c) +ℤ x) (neg-*ℤ b c) ∙ ap (λ (x : ℤ). x -ℤ (b *ℤ c)) h ∙ sym (pred_ℤ-*ℤ k (b *ℤ c)))
    a
