-- Candidates for the remainder: their norms are compared by their excess over that of the first corner.
use mathlib.Core.Path.{◌≡◌, sym, ◌∙◌, ap, ap₂}
use mathlib.Core.Bool.{Bool, true, false, cond}
use Prim.Native.Nat.{ℕ, ◌+◌, ◌≤◌, ◌<◌}
use native.Mathlib.Omega.{arith}
use lib.IntN.{ℤ, pos, ◌+ℤ◌, ◌-ℤ◌, ◌*ℤ◌}
use lib.Signed.{◌≤ℤ◌, ◌<ℤ◌}
use Rattle.integers.proofs.Ring.{Expr, ring, con, ◌⊕◌, ◌⊝◌, ◌⊗◌, ◌⊜◌}
use Rattle.integers.proofs.Order.{above, below, orders, eq_parts, parts-+, above_pos, below_pos}
use Rattle.eisenstein.specs.Values.{ℤ[ω], norm, ◌-ω◌}
use Rattle.eisenstein.specs.Reduction.{better, best}
use Rattle.eisenstein.proofs.Norms.{form, norm_form, trace, norm_difference}
use Rattle.remainders.specs.Conditions.{Differ}
use Rattle.remainders.proofs.Corners.{less10, less01, less11}

module _ {r s : ℤ[ω]} {m n : ℤ} (d : Differ r m s n) where
  same_sums : (norm r + above n) + below m ≡ (norm s + above m) + below n
  same_sums =
      omega (arith, eq_parts d.sums, parts-+ (pos (norm r)) n, parts-+ (pos (norm s)) m, above_pos (norm r), below_pos (norm r), above_pos (norm s), below_pos (norm s))

  pub norm_below : m <ℤ n → norm r < norm s
  norm_below h = omega (arith, orders, same_sums)

  pub norm_not_above : m ≤ℤ n → norm r ≤ norm s
  norm_not_above h = omega (arith, orders, same_sums)

  pub differ_back : Differ s n r m
  differ_back = record { sums = sym d.sums }

-- the norm of r is k plus m
pub record Excess (k : ℕ) (r : ℤ[ω]) (m : ℤ) : Type 0 where
  pub norm-is : pos (norm r) ≡ pos k +ℤ m

-- the same of what is read of r and m
pub excess_read : {k : ℕ} {r r' : ℤ[ω]} {m m' : ℤ} → r' ≡ r → m' ≡ m → Excess k r m → Excess k r' m'
excess_read {k} e f h = record { norm-is = ap (λ (r : ℤ[ω]). pos (norm r)) e ∙ h.norm-is ∙ ap (λ (m : ℤ). pos k +ℤ m) (sym f) }

-- norms differ as their excesses over the same number do
pub differ : {k : ℕ} {r s : ℤ[ω]} {m n : ℤ} → Excess k r m → Excess k s n → Differ r m s n
differ {k} {r} {s} {m} {n} h l = record { sums = ap (λ (z : ℤ). z +ℤ n) h.norm-is ∙ swap (pos k) m n ∙ ap (λ (z : ℤ). z +ℤ m) (sym l.norm-is) }
  where
    swap : (k m n : ℤ) → (k +ℤ m) +ℤ n ≡ (k +ℤ n) +ℤ m
    swap = ring 3 (λ k m n. k ⊕ m ⊕ n ⊜ k ⊕ n ⊕ m) tt

-- ---- the excess of each corner over the first one, r

-- the trace of r·conj(qω)
abbrev pub trace_ω : (r q : ℤ[ω]) → ℤ
trace_ω r q = (r.b *ℤ ((q.a +ℤ q.a) -ℤ q.b)) -ℤ (r.a *ℤ (q.a +ℤ q.b))

abbrev formᵉ : Expr → Expr → Expr
formᵉ a b = a ⊗ a ⊝ a ⊗ b ⊕ b ⊗ b

abbrev traceᵉ : (a b c d : Expr) → Expr
traceᵉ a b c d = a ⊗ (c ⊕ c ⊝ d) ⊕ b ⊗ (d ⊕ d ⊝ c)

abbrev traceωᵉ : (a b c d : Expr) → Expr
traceωᵉ a b c d = b ⊗ (c ⊕ c ⊝ d) ⊝ a ⊗ (c ⊕ d)

module _ (r q : ℤ[ω]) where
  excess_by : (s : ℤ[ω]) (f : ℤ → ℤ) → form s ≡ form r +ℤ f (form q) → Excess (norm r) s (f (pos (norm q)))
  excess_by s f e = record { norm-is = sym (norm_form s) ∙ e ∙ ap₂ (λ (m n : ℤ). m +ℤ f n) (norm_form r) (norm_form q) }

  pub excess_00 : Excess (norm r) r (pos 0)
  excess_00 = record { norm-is = ring 1 (λ n. n ⊜ n ⊕ con (pos 0)) tt (pos (norm r)) }

  pub excess_10 : Excess (norm r) (less10 q r) (pos (norm q) -ℤ trace r q)
  unfolding ◌-ω◌
  excess_10 = record { norm-is = norm_difference r q }

  pub excess_01 : Excess (norm r) (less01 q r) (pos (norm q) -ℤ trace_ω r q)
  excess_01 =
      excess_by (less01 q r) (λ n. n -ℤ trace_ω r q)
      (ring 4 (λ a b c d. formᵉ (a ⊕ d) (b ⊝ c ⊕ d) ⊜ formᵉ a b ⊕ (formᵉ c d ⊝ traceωᵉ a b c d)) tt r.a r.b q.a q.b)

  pub excess_11 : Excess (norm r) (less11 q r) ((pos (norm q) -ℤ trace r q) -ℤ trace_ω r q)
  excess_11 =
      excess_by (less11 q r) (λ n. (n -ℤ trace r q) -ℤ trace_ω r q)
      (ring 4 (λ a b c d. formᵉ (a ⊝ c ⊕ d) (b ⊝ c) ⊜ formᵉ a b ⊕ (formᵉ c d ⊝ traceᵉ a b c d ⊝ traceωᵉ a b c d)) tt r.a r.b q.a q.b)

-- what holds of two candidates holds of the better one
pub picked : (P : ℤ[ω] → ℤ → Type 0) {r s : ℤ[ω]} {m n : ℤ} → P r m → P s n → P (best r s) (cond (better s r) n m)
unfolding best
picked P {r} {s} {m} {n} p q = by (better s r)
  where
    by : (t : Bool) → P (cond t s r) (cond t n m)
    by true = q
    by false = p
