-- `operand_refusal` meets its contract: each test is the definition's, in its order. An operand's test also asks its length and the modulus, which are known.
use mathlib.Core.Path.{◌≡◌, sym, ◌∙◌, ap, ap₂}
use mathlib.Core.Bool.{Bool, true, not, ◌&&◌}
use mathlib.Core.List.{List, [], ◌∷◌}
use Prim.Native.Nat.{ℕ, ◌*◌}
use borrow.Author.Tests.{eq-eqb, not-true, not-false}
use lib.IntN.{ℤ}
use lib.ListN.{length}
use mir.Syntax.{w32}
use mir.Val.{to_z, of_z}
use Rattle.integers.proofs.Tests.{are_equal_3}
use Rattle.refusals.specs.Outcomes.{outcome, ◌if◌}
use Rattle.refusals.proofs.Checks.{call_refused, call_passed, refused_by, passed, none_left, holds}
use Rattle.eisenstein.specs.Values.{ℤ[ω], value, 𝟘, same}
use Rattle.eisenstein.specs.Calls.{beyond}
use Rattle.eisenstein.proofs.Equality.{same_false}
use Rattle.eisenstein.proofs.Pairs.{pair_read}
use Rattle.polynomials.specs.Polynomials.{coefficient, reduced_q}
use Rattle.arrays.specs.Arrays.{full}
use Rattle.arrays.specs.Conditions.{Modulus}
use Rattle.convolution_refusals.specs.Checks.{convolving_checks}
use Rattle.convolution_refusals.proofs.operand_refusal.Goals as goal
use Rattle.convolution_refusals.proofs.operand_refusal.Goals.{After-reduced_modulo_q, After-reduced_modulo_q-2, Else-not-reduced_modulo_q, Else-not-three_full, Start}

abbrev q : Start → ℤ[ω]
q s = value s.args.c s.args.d

abbrev lengths : Start → Bool
lengths s = full s.args.n (length s.args.x.now) && (full s.args.n (length s.args.y.now) && full s.args.n s.args.room)

abbrev reduced : Start → List ℤ → Bool
reduced s x = reduced_q s.args.n (q s) (coefficient x)

-- what `reduced_modulo_q` answers
abbrev tested : ℕ → ℤ[ω] → List ℤ → Bool
tested n q x = full n (length x) && (not (beyond 4095 q) && (not (same q 𝟘) && reduced_q n q (coefficient x)))

decides : (n : ℕ) (q : ℤ[ω]) (x : List ℤ) → Modulus q → length x ≡ 2 * n → tested n q x ≡ reduced_q n q (coefficient x)
decides n q x m e = rw (eq-eqb _ _ e, m.in_range, same_false q 𝟘 m.not_zero)

handed : (s : Start) (x : List ℤ) → length x ≡ 2 * s.args.n → tested s.args.n (value (to_z w32 (of_z w32 s.args.c)) (to_z w32 (of_z w32 s.args.d))) x ≡ reduced s x
handed s x e = ap (λ (q : ℤ[ω]). tested s.args.n q x) (pair_read s.ranges.c s.ranges.d) ∙ decides s.args.n (q s) x s.requires e

-- the lengths, where 7 does not apply
asked : (c : Else-not-three_full) → (length c.args.x.now ≡ 2 * c.args.n) × (length c.args.y.now ≡ 2 * c.args.n) × (c.args.room ≡ 2 * c.args.n)
asked c = are_equal_3 _ _ _ _ _ _ (holds {t = lengths c.before.before} c.three_full.ensures (ap not c.if-not-three_full.false))

x_is : (c : After-reduced_modulo_q) → c.reduced_modulo_q.result ≡ reduced c.before.before.before c.args.x.now
x_is c = c.reduced_modulo_q.ensures ∙ handed c.before.before.before c.args.x.now (asked c.before).0

y_is : (c : After-reduced_modulo_q-2) → c.reduced_modulo_q-2.result ≡ reduced c.before.before.before.before.before c.args.y.now
y_is c =
    c.reduced_modulo_q-2.ensures ∙ handed c.before.before.before.before.before c.args.y.now (asked c.before.before.before).1

x_passed : (c : Else-not-reduced_modulo_q) → reduced c.before.before.before.before c.args.x.now ≡ true
x_passed c = sym (x_is c.before) ∙ c.if-not-reduced_modulo_q.false

-- 7 does not apply
after_7 : (c : Else-not-three_full) → outcome (convolving_checks c.args.n (q c.before.before) c.args.x.now c.args.y.now c.args.room) (tt {0}) ≡ outcome (12 if not (reduced c.before.before c.args.x.now && reduced c.before.before c.args.y.now) ∷ []) (tt {0})
unfolding convolving_checks
after_7 c = call_passed 7 _ _ c.three_full.ensures (ap not c.if-not-three_full.false)

pub returns-then-not-three_full : goal.returns-then-not-three_full
unfolding convolving_checks
returns-then-not-three_full c = sym (call_refused 7 _ _ c.three_full.ensures (ap not c.if-not-three_full.true))

pub returns-then-not-reduced_modulo_q : goal.returns-then-not-reduced_modulo_q
unfolding convolving_checks
returns-then-not-reduced_modulo_q c = sym (after_7 (goal.at.returns-then-not-reduced_modulo_q c).Else-not-three_full ∙ refused_by 12 _ _ (ap (λ (t : Bool). not (t && reduced (goal.at.returns-then-not-reduced_modulo_q c).Start c.args.y.now)) (sym (x_is (goal.at.returns-then-not-reduced_modulo_q c).After-reduced_modulo_q) ∙ c.if-not-reduced_modulo_q.true)))

pub returns-then-not-reduced_modulo_q-2 : goal.returns-then-not-reduced_modulo_q-2
unfolding convolving_checks
returns-then-not-reduced_modulo_q-2 c = sym (after_7 (goal.at.returns-then-not-reduced_modulo_q-2 c).Else-not-three_full ∙ refused_by 12 _ _ (ap₂ (λ (t u : Bool). not (t && u)) (x_passed (goal.at.returns-then-not-reduced_modulo_q-2 c).Else-not-reduced_modulo_q) (sym (y_is (goal.at.returns-then-not-reduced_modulo_q-2 c).After-reduced_modulo_q-2) ∙ c.if-not-reduced_modulo_q-2.true)))

pub returns : goal.returns
unfolding convolving_checks
returns c = sym (after_7 (goal.at.returns c).Else-not-three_full ∙ passed 12 _ _ (ap₂ (λ (t u : Bool). not (t && u)) (x_passed (goal.at.returns c).Else-not-reduced_modulo_q) (sym (y_is (goal.at.returns c).After-reduced_modulo_q-2) ∙ c.if-not-reduced_modulo_q-2.false)) ∙ none_left tt)
