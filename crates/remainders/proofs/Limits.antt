-- Within the limits nothing is refused, and what is stored is the remainder.
use mathlib.Core.Path.{◌≡◌, sym, ◌∙◌, ap, subst}
use mathlib.Core.Bool.{Bool, false, cond}
use mathlib.Core.List.{List}
use mathlib.Core.Logic.{◌≢◌}
use Prim.Native.Nat.{ℕ, ◌+◌, ◌*◌, ◌/◌, ◌^◌, ◌≤◌, ◌<◌}
use native.Mathlib.Omega.{arith}
use borrow.Author.Tests.{le-leb, lt-leb}
use lib.Dec.{T}
use lib.IntN.{ℤ}
use lib.ListN.{length, set}
use Rattle.refusals.specs.Outcomes.{Outcome, outcome, done, refused, written, Passes}
use Rattle.refusals.proofs.Checks.{done_passed, done_with, refused_with, passed, none_left}
use Rattle.eisenstein.specs.Values.{ℤ[ω], 𝟘, same}
use Rattle.eisenstein.specs.Reduction.{mod_q}
use Rattle.eisenstein.specs.Calls.{beyond}
use Rattle.eisenstein.proofs.Equality.{same_true, same_false}
use Rattle.remainders.specs.Calls.{reduction_checks, reduce_q, with_coefficient}

-- what is known where nothing is refused
pub record Reducible (q x : ℤ[ω]) : Type 0 where
  pub q_small : beyond 4095 q ≡ false
  pub q_some : q ≢ 𝟘
  pub x_small : beyond (2 ^ 40) x ≡ false

pub reducible : (q x : ℤ[ω]) → Passes (reduction_checks q x) → Reducible q x
reducible q x p =
    let a = done_passed 2 (beyond 4095 q) _ _ _ p in
    let b = done_passed 21 (same q 𝟘) _ _ _ a.1 in
    let c = done_passed 22 (beyond (2 ^ 40) x) _ _ _ b.1 in
    record { q_small = a.0; q_some = λ e. subst T (sym (same_true e) ∙ b.0) tt; x_small = c.0 }

pub reduces : (q x : ℤ[ω]) → Passes (reduction_checks q x) → reduce_q q x ≡ done (mod_q q x)
unfolding reduce_q
reduces q x p = done_with (reduction_checks q x) (mod_q q x) p

pub refuses : (q x : ℤ[ω]) (n : ℕ) → outcome (reduction_checks q x) (tt {0}) ≡ refused n → reduce_q q x ≡ refused n
unfolding reduce_q
refuses q x n e = refused_with (reduction_checks q x) (mod_q q x) n e

pub reduce_q_done : (q x : ℤ[ω]) → beyond 4095 q ≡ false → q ≢ 𝟘 → beyond (2 ^ 40) x ≡ false → reduce_q q x ≡ done (mod_q q x)
unfolding reduce_q
reduce_q_done q x p n r = passed 2 _ _ p ∙ passed 21 _ _ (same_false q 𝟘 n) ∙ passed 22 _ _ r ∙ none_left (mod_q q x)

pub remainder_is : (q x : ℤ[ω]) → beyond 4095 q ≡ false → q ≢ 𝟘 → beyond (2 ^ 40) x ≡ false → written (reduce_q q x) 𝟘 ≡ mod_q q x
remainder_is q x p n r = ap (λ (o : Outcome ℤ[ω]). written o 𝟘) (reduce_q_done q x p n r)

-- ---- a remainder that is stored

module _ (i : ℕ) (v : ℤ[ω]) (l : List ℤ) where
  pub no_coefficient : length l / 2 ≤ i → with_coefficient i v l ≡ l
  unfolding with_coefficient
  no_coefficient p = ap (λ (t : Bool). cond t l (set (set l (2 * i) v.a) (2 * i + 1) v.b)) (le-leb (length l / 2) i p)

  pub has-coefficient : i < length l / 2 → with_coefficient i v l ≡ set (set l (2 * i) v.a) (2 * i + 1) v.b
  unfolding with_coefficient
  has-coefficient p = ap (λ (t : Bool). cond t l (set (set l (2 * i) v.a) (2 * i + 1) v.b)) (lt-leb (length l / 2) i p)

pub stored_remainder : (i : ℕ) (l : List ℤ) {l' : List ℤ} (q x : ℤ[ω]) → 2 * i + 1 < length l → beyond 4095 q ≡ false → q ≢ 𝟘 → beyond (2 ^ 40) x ≡ false → l' ≡ with_coefficient i (written (reduce_q q x) 𝟘) l → l' ≡ set (set l (2 * i) (mod_q q x).a) (2 * i + 1) (mod_q q x).b
stored_remainder i l q x s p n r e =
    e ∙ has-coefficient i (written (reduce_q q x) 𝟘) l (omega arith)
    ∙ ap (λ (v : ℤ[ω]). set (set l (2 * i) v.a) (2 * i + 1) v.b) (remainder_is q x p n r)
