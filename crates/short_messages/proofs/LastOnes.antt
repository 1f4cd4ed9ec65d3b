-- The last 1 of some bits: what makes it so, and what is known of it.
use Rattle.std.specs.Prelude.{None, Some}
use mathlib.Core.Path.{◌≡◌, refl, sym, ◌∙◌, ap}
use mathlib.Core.Bool.{Bool, cond}
use mathlib.Core.Logic.{◌≢◌}
use Prim.Native.Nat.{ℕ, zero, suc, ◌<◌}
use native.Mathlib.Omega.{arith}
use native.Mathlib.Decide.{ℕ_discrete}
use borrow.Author.Tests.{eq-eqb, ne_eqb}
use Rattle.short_messages.specs.ShortMessages.{last_one}

module _ (bit : ℕ → ℕ) where
  -- one bit after the other, from the last one on
  pub none_left : last_one 0 bit ≡ None
  unfolding last_one
  none_left = refl

  pub last_here : (k : ℕ) → bit k ≡ 1 → last_one (suc k) bit ≡ Some k
  unfolding last_one
  last_here k e = ap (λ (t : Bool). cond t (Some k) (last_one k bit)) (eq-eqb (bit k) 1 e)

  pub last_before : (k : ℕ) → bit k ≢ 1 → last_one (suc k) bit ≡ last_one k bit
  unfolding last_one
  last_before k e = ap (λ (t : Bool). cond t (Some k) (last_one k bit)) (ne_eqb (bit k) 1 e)

  pub last_is : (n k : ℕ) → k < n → bit k ≡ 1 → ((j : ℕ) → k < j → j < n → bit j ≡ 0) → last_one n bit ≡ Some k
  last_is zero k l one zeros = absurd (omega arith)
  last_is (suc n) k l one zeros = go (ℕ_discrete k n) (λ p. last_is n k p one (λ j q r. zeros j q (omega arith)))
    where
      go : Dec (k ≡ n) → (k < n → last_one n bit ≡ Some k) → last_one (suc n) bit ≡ Some k
      go (yes e) before = ap (λ (i : ℕ). last_one (suc i) bit) (sym e) ∙ last_here k one
      go (no e) before = last_before n (λ o. absurd (omega (arith, zeros n (omega arith) (omega arith)))) ∙ before (omega arith)

  -- what is known of the last 1
  pub record Last (n k : ℕ) : Type 0 where
    pub inside : k < n
    pub one : bit k ≡ 1
    pub none_after : (j : ℕ) → k < j → j < n → bit j ≢ 1

  pub last_known : (n k : ℕ) → last_one n bit ≡ Some k → Last n k
  last_known zero k e = absurd (apart (sym none_left ∙ e))
    where
      apart : None ≡ Some k → ⊥
      apart p = let z : ◌≡◌ {A = ℕ} 0 1 = cc in omega arith
  last_known (suc n) k e = go (ℕ_discrete (bit n) 1) (λ p. last_known n k p)
    where
      same_place : {i j : ℕ} → Some i ≡ Some j → i ≡ j
      same_place p = cc

      longer : bit n ≢ 1 → Last n k → Last (suc n) k
      longer o r = record { inside = omega (arith, r.inside); one = r.one; none_after = λ j p q. later j (ℕ_discrete j n) p q }
        where
          later : (j : ℕ) → Dec (j ≡ n) → k < j → j < suc n → bit j ≢ 1
          later j (yes d) p q = λ b. o (ap bit (sym d) ∙ b)
          later j (no d) p q = r.none_after j p (omega arith)

      go : Dec (bit n ≡ 1) → (last_one n bit ≡ Some k → Last n k) → Last (suc n) k
      go (yes o) before =
          let here : n ≡ k = same_place (sym (last_here n o) ∙ e) in
          record { inside = omega arith; one = ap bit (sym here) ∙ o; none_after = λ j p q. absurd (omega arith) }
      go (no o) before = longer o (before (sym (last_before n o) ∙ e))
