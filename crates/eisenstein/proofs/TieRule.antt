-- Laws of the tie rule: "at least as good" is a total order, and `best` of two is one of them and as good as both.
use mathlib.Core.Path.{◌≡◌, refl, sym, ◌∙◌, ap, ap₂, subst}
use mathlib.Core.Bool.{Bool, true, false, not, cond, ◌&&◌, ◌||◌}
use mathlib.Core.Logic.{⊎_elim}
use Prim.Native.Nat.{ℕ, ◌≤◌, ◌<◌}
use native.Mathlib.Omega.{arith}
use native.Mathlib.Decide.{ℕ_discrete}
use borrow.Author.Tests.{lt-ltb, le-ltb, eq-eqb, ne_eqb}
use lib.Dec.{T, eqb, ltb, eqb_refl}
use lib.IntN.{ℤ}
use lib.Signed.{◌≤ℤ◌, ◌<ℤ◌, lt_z, ≤ℤ_refl, lt_z_yes, lt_z_no}
use mir.Facts.{and_yes, or_yes, or_no, ltb_yes, ltb_no, eqb_yes}
use Rattle.integers.proofs.Order.{orders, less_or_equal, ≤ℤ_antisym, ≤ℤ_trans, <ℤ_trans, <ℤ-≢, <ℤ_asym, eq_parts}
use Rattle.eisenstein.specs.Values.{ℤ[ω], value, norm, same_ℤ}
use Rattle.eisenstein.proofs.Equality.{same_ℤ_yes, same_ℤ_refl, is_true, is_false}
use Rattle.eisenstein.specs.Reduction.{AsGood, smaller_norm, larger_a, larger_b, better, best}

pub as_good_norm : {r s : ℤ[ω]} → AsGood r s → norm r ≤ norm s
as_good_norm (smaller_norm h) = omega arith
as_good_norm (larger_a e h) = omega arith
as_good_norm (larger_b e f h) = omega arith

pub as_good_refl : (r : ℤ[ω]) → AsGood r r
as_good_refl r = larger_b refl refl (≤ℤ_refl r.b)

pub as_good_trans : {r s t : ℤ[ω]} → AsGood r s → AsGood s t → AsGood r t
as_good_trans (smaller_norm p) (smaller_norm q) = smaller_norm (omega arith)
as_good_trans (smaller_norm p) (larger_a e q) = smaller_norm (omega arith)
as_good_trans (smaller_norm p) (larger_b e f q) = smaller_norm (omega arith)
as_good_trans (larger_a e p) (smaller_norm q) = smaller_norm (omega arith)
as_good_trans (larger_a e p) (larger_a f q) = larger_a (e ∙ f) (<ℤ_trans q p)
as_good_trans (larger_a e p) (larger_b f g q) = larger_a (e ∙ f) (rw g p)
as_good_trans (larger_b e f p) (smaller_norm q) = smaller_norm (omega arith)
as_good_trans (larger_b e f p) (larger_a g q) = larger_a (e ∙ g) (rw (← f) q)
as_good_trans (larger_b e f p) (larger_b g h q) = larger_b (e ∙ g) (h ∙ f) (≤ℤ_trans q p)

pub as_good_antisym : {r s : ℤ[ω]} → AsGood r s → AsGood s r → r ≡ s
as_good_antisym (smaller_norm p) (smaller_norm q) = absurd (omega arith)
as_good_antisym (smaller_norm p) (larger_a e q) = absurd (omega arith)
as_good_antisym (smaller_norm p) (larger_b e f q) = absurd (omega arith)
as_good_antisym (larger_a e p) (smaller_norm q) = absurd (omega arith)
as_good_antisym (larger_a e p) (larger_a f q) = absurd (omega (arith, orders))
as_good_antisym (larger_a e p) (larger_b f g q) = absurd (omega (arith, orders, eq_parts g))
as_good_antisym (larger_b e f p) (smaller_norm q) = absurd (omega arith)
as_good_antisym (larger_b e f p) (larger_a g q) = absurd (omega (arith, orders, eq_parts f))
as_good_antisym (larger_b e f p) (larger_b g h q) = ap₂ value (sym f) (≤ℤ_antisym q p)

-- the part of `better` after the norms
larger : ℤ[ω] → ℤ[ω] → Bool
larger r s = lt_z s.a r.a || (same_ℤ s.a r.a && lt_z s.b r.b)

<ℤ-≤ℤ : {a b : ℤ} → a <ℤ b → a ≤ℤ b
<ℤ-≤ℤ h = omega (arith, orders)

larger_yes : (r s : ℤ[ω]) → norm r ≡ norm s → T (larger r s) → AsGood r s
unfolding larger
larger_yes r s e t = ⊎_elim (λ l. larger_a e (lt_z_yes l)) by_b (or_yes (lt_z s.a r.a) (same_ℤ s.a r.a && lt_z s.b r.b) t)
  where
    by_b : T (same_ℤ s.a r.a && lt_z s.b r.b) → AsGood r s
    by_b l =
        let (f, m) = and_yes (same_ℤ s.a r.a) (lt_z s.b r.b) l in
        larger_b e (same_ℤ_yes s.a r.a f) (<ℤ-≤ℤ (lt_z_yes m))

better_yes : (r s : ℤ[ω]) → T (better r s) → AsGood r s
unfolding better larger
better_yes r s t =
    ⊎_elim (λ h. smaller_norm (ltb_yes h))
    (λ h. let (e, k) = and_yes (eqb (norm r) (norm s)) (larger r s) h in larger_yes r s (eqb_yes e) k)
    (or_yes (ltb (norm r) (norm s)) (eqb (norm r) (norm s) && larger r s) t)

-- a fact on a conjunction that fails, where the first part holds
and_rest : (p q : Bool) → T p → T (not (p && q)) → T (not q)
and_rest true q t h = h
and_rest false q t h = absurd t

larger_no : (r s : ℤ[ω]) → norm s ≡ norm r → T (not (larger r s)) → AsGood s r
unfolding larger
larger_no r s e t =
    let (l, m) = or_no (lt_z s.a r.a) (same_ℤ s.a r.a && lt_z s.b r.b) t in
    ⊎_elim (λ p. larger_a e p) (λ f. by_b f m) (less_or_equal (lt_z_no l))
  where
    by_b : r.a ≡ s.a → T (not (same_ℤ s.a r.a && lt_z s.b r.b)) → AsGood s r
    by_b f k =
        larger_b e f
        (lt_z_no (and_rest (same_ℤ s.a r.a) (lt_z s.b r.b) (subst (λ (z : ℤ). T (same_ℤ s.a z)) (sym f) (same_ℤ_refl s.a)) k))

better_no : (r s : ℤ[ω]) → T (not (better r s)) → AsGood s r
unfolding better larger
better_no r s t =
    let (l, m) = or_no (ltb (norm r) (norm s)) (eqb (norm r) (norm s) && larger r s) t in
    by_norm (ltb_no l) m (ℕ_discrete (norm s) (norm r))
  where
    by_norm : norm s ≤ norm r → T (not (eqb (norm r) (norm s) && larger r s)) → Dec (norm s ≡ norm r) → AsGood s r
    by_norm l m (yes e) =
        larger_no r s e
        (and_rest (eqb (norm r) (norm s)) (larger r s) (subst (λ (n : ℕ). T (eqb (norm r) n)) (sym e) (eqb_refl (norm r))) m)
    by_norm l m (no e) = smaller_norm (omega arith)

-- ---- the best of two

best_by : (c : Bool) (r s : ℤ[ω]) → (T c → AsGood s r) → (T (not c) → AsGood r s) → AsGood (cond c s r) r × AsGood (cond c s r) s
best_by true r s f g = (f tt, as_good_refl s)
best_by false r s f g = (as_good_refl r, g tt)

pub best_good : (r s : ℤ[ω]) → AsGood (best r s) r × AsGood (best r s) s
unfolding best
best_good r s = best_by (better s r) r s (better_yes s r) (better_no s r)

pub best_ind {ℓ} : (P : ℤ[ω] → Type ℓ) {r s : ℤ[ω]} → P r → P s → P (best r s)
unfolding best
best_ind P {r} {s} p q = go (better s r)
  where
    go : (c : Bool) → P (cond c s r)
    go true = q
    go false = p

-- ---- `better`, from the comparisons of norms and parts

pub better-norm : (r s : ℤ[ω]) → norm r < norm s → better r s ≡ true
unfolding better larger
better-norm r s h = ap (λ (t : Bool). t || (eqb (norm r) (norm s) && larger r s)) (lt-ltb (norm r) (norm s) h)

pub worse_norm : (r s : ℤ[ω]) → norm s < norm r → better r s ≡ false
unfolding better larger
worse_norm r s h =
    ap₂ (λ (t u : Bool). t || (u && larger r s)) (le-ltb (norm r) (norm s) (omega arith)) (ne_eqb (norm r) (norm s) (λ e. omega arith))

tie_norm : (r s : ℤ[ω]) → norm r ≡ norm s → better r s ≡ larger r s
unfolding better larger
tie_norm r s h =
    ap₂ (λ (t u : Bool). t || (u && larger r s)) (le-ltb (norm r) (norm s) (omega arith)) (eq-eqb (norm r) (norm s) h)

pub better_a : (r s : ℤ[ω]) → norm r ≡ norm s → s.a <ℤ r.a → better r s ≡ true
unfolding larger
better_a r s e h =
    tie_norm r s e ∙ ap (λ (t : Bool). t || (same_ℤ s.a r.a && lt_z s.b r.b)) (is_true (lt_z s.a r.a) h.lt)

pub worse_a : (r s : ℤ[ω]) → norm r ≡ norm s → r.a <ℤ s.a → better r s ≡ false
unfolding larger
worse_a r s e h =
    tie_norm r s e
    ∙ ap₂ (λ (t u : Bool). t || (u && lt_z s.b r.b)) (is_false (lt_z s.a r.a) (λ t. <ℤ_asym h (lt_z_yes t)))
    (is_false (same_ℤ s.a r.a) (λ t. <ℤ-≢ h (sym (same_ℤ_yes s.a r.a t))))

pub better_b : (r s : ℤ[ω]) → norm r ≡ norm s → s.a ≡ r.a → better r s ≡ lt_z s.b r.b
unfolding larger
better_b r s e f =
    tie_norm r s e
    ∙ ap₂ (λ (t u : Bool). t || (u && lt_z s.b r.b)) (is_false (lt_z s.a r.a) (λ t. <ℤ-≢ (lt_z_yes t) f))
    (is_true (same_ℤ s.a r.a) (subst (λ (z : ℤ). T (same_ℤ s.a z)) f (same_ℤ_refl s.a)))

pub best_second : (r s : ℤ[ω]) → better s r ≡ true → best r s ≡ s
unfolding best
best_second r s e = ap (λ (t : Bool). cond t s r) e

pub best-first : (r s : ℤ[ω]) → better s r ≡ false → best r s ≡ r
unfolding best
best-first r s e = ap (λ (t : Bool). cond t s r) e
