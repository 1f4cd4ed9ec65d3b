-- `check_numbers` meets its contract: each test is the definition's, in its order.
use mathlib.Core.Path.{◌≡◌, sym, ◌∙◌, ap₂}
use mathlib.Core.Bool.{not, ◌&&◌, ◌||◌}
use Prim.Native.Nat.{◌≤◌, ◌%◌}
use native.Mathlib.Omega.{arith}
use lib.Dec.{ltb, eqb}
use lib.IntN.{ℤ}
use mir.Syntax.{w32}
use mir.Val.{to_z, of_z}
use mir.Facts.{to_z-of_z}
use Rattle.integers.proofs.Tests.{neither_first}
use Rattle.refusals.proofs.Checks.{refused_by, passed, none_left}
use Rattle.eisenstein.specs.Values.{value, norm}
use Rattle.eisenstein.specs.Calls.{beyond}
use Rattle.parameters.specs.Sets.{ParameterSet, set, outside, even, bound, parameter_checks}
use Rattle.parameters.proofs.Ranges.{in_range_lem}
use Rattle.parameters.proofs.check_numbers.Goals as goal
use Rattle.parameters.proofs.check_numbers.Goals.{After-bad_s, After-both_even, After-modulus_out_of_range, After-not_below_norm, After-out_of_range, After-out_of_range-2, Else-bad_s, Else-out_of_range-2, Start}

abbrev P : Start → ParameterSet
P c = set c.args.n c.args.c c.args.d c.args.s c.args.t

-- the modulus as a callee is handed it
q_read : {A : Type 0} (f : ℤ → ℤ → A) (c : Start) → f (to_z w32 (of_z w32 c.args.c)) (to_z w32 (of_z w32 c.args.d)) ≡ f c.args.c c.args.d
q_read f c = ap₂ f (to_z-of_z c.ranges.c) (to_z-of_z c.ranges.d)

-- each test, from what its call returned
test_1 : (c : After-out_of_range) → outside 3 1024 (P c.before).N ≡ c.out_of_range.result
test_1 c = sym c.out_of_range.ensures

test_2 : (c : After-modulus_out_of_range) → beyond 4095 (P c.before.before.before).q ≡ c.modulus_out_of_range.result
test_2 c = sym (c.modulus_out_of_range.ensures ∙ q_read (λ u v. beyond 4095 (value u v)) c.before.before.before)

test_3 : (c : After-both_even) → (even (P c.before.before.before.before.before).q.a && even (P c.before.before.before.before.before).q.b) ≡ c.both_even.result
test_3 c = sym (c.both_even.ensures ∙ q_read (λ u v. even u && even v) c.before.before.before.before.before)

test_4 : (c : After-bad_s) → (outside 3 (P c.before.before.before.before.before.before.before).N (P c.before.before.before.before.before.before.before).s || not (eqb ((P c.before.before.before.before.before.before.before).s % 3) 0)) ≡ c.bad_s.result
test_4 c = sym c.bad_s.ensures

test_5 : (c : After-out_of_range-2) → outside 1 (P c.before.before.before.before.before.before.before.before.before).N (P c.before.before.before.before.before.before.before.before.before).t ≡ c.out_of_range-2.result
test_5 c = sym c.out_of_range-2.ensures

test_6 : (c : After-not_below_norm) → not (ltb (bound (P c.before.before.before.before.before.before.before.before.before.before.before)) (norm (P c.before.before.before.before.before.before.before.before.before.before.before).q)) ≡ c.not_below_norm.result
unfolding bound
test_6 c =
    let s = c.before.before.before.before.before.before.before.before.before.before.before in
    sym (c.not_below_norm.ensures ∙ q_read (λ u v. not (ltb (bound (P s)) (norm (value u v)))) s)

s_in_range : (c : Else-bad_s) → c.args.s ≤ 1024
s_in_range c =
    let s = c.before.before.before.before.before.before.before.before in
    let n : s.args.n ≤ 1024 = in_range_lem 3 1024 s.args.n (test_1 c.before.before.before.before.before.before.before ∙ c.if-out_of_range.false) in
    let k = neither_first (outside 3 s.args.n s.args.s) (not (eqb (s.args.s % 3) 0)) (test_4 c.before ∙ c.if-bad_s.false) in
    let m : s.args.s ≤ s.args.n = in_range_lem 3 s.args.n s.args.s k in
    omega arith

t_in_range : (c : Else-out_of_range-2) → c.args.t ≤ 1024
t_in_range c =
    let s = c.before.before.before.before.before.before.before.before.before.before in
    let n : s.args.n ≤ 1024 = in_range_lem 3 1024 s.args.n (test_1 c.before.before.before.before.before.before.before.before.before ∙ c.if-out_of_range.false) in
    let m : s.args.t ≤ s.args.n = in_range_lem 1 s.args.n s.args.t (test_5 c.before ∙ c.if-out_of_range-2.false) in
    omega arith

pub returns-then-out_of_range : goal.returns-then-out_of_range
unfolding parameter_checks
returns-then-out_of_range c = sym (refused_by 1 _ _ (test_1 c.before ∙ c.if-out_of_range.true))

pub returns-then-modulus_out_of_range : goal.returns-then-modulus_out_of_range
unfolding parameter_checks
returns-then-modulus_out_of_range c = sym (passed 1 _ _ (test_1 c.before.before.before ∙ c.if-out_of_range.false) ∙ refused_by 2 _ _ (test_2 c.before ∙ c.if-modulus_out_of_range.true))

pub returns-then-both_even : goal.returns-then-both_even
unfolding parameter_checks
returns-then-both_even c = sym (passed 1 _ _ (test_1 c.before.before.before.before.before ∙ c.if-out_of_range.false) ∙ passed 2 _ _ (test_2 c.before.before.before ∙ c.if-modulus_out_of_range.false) ∙ refused_by 3 _ _ (test_3 c.before ∙ c.if-both_even.true))

pub returns-then-bad_s : goal.returns-then-bad_s
unfolding parameter_checks
returns-then-bad_s c = sym (passed 1 _ _ (test_1 c.before.before.before.before.before.before.before ∙ c.if-out_of_range.false) ∙ passed 2 _ _ (test_2 c.before.before.before.before.before ∙ c.if-modulus_out_of_range.false) ∙ passed 3 _ _ (test_3 c.before.before.before ∙ c.if-both_even.false) ∙ refused_by 4 _ _ (test_4 c.before ∙ c.if-bad_s.true))

pub returns-then-out_of_range-2 : goal.returns-then-out_of_range-2
unfolding parameter_checks
returns-then-out_of_range-2 c = sym (passed 1 _ _ (test_1 c.before.before.before.before.before.before.before.before.before ∙ c.if-out_of_range.false) ∙ passed 2 _ _ (test_2 c.before.before.before.before.before.before.before ∙ c.if-modulus_out_of_range.false) ∙ passed 3 _ _ (test_3 c.before.before.before.before.before ∙ c.if-both_even.false) ∙ passed 4 _ _ (test_4 c.before.before.before ∙ c.if-bad_s.false) ∙ refused_by 5 _ _ (test_5 c.before ∙ c.if-out_of_range-2.true))

pub not_below_norm-requires : goal.not_below_norm-requires
unfolding parameter_checks
not_below_norm-requires c = (s_in_range c.before.before, t_in_range c, q_read (λ u v. beyond 4095 (value u v)) c.before.before.before.before.before.before.before.before.before.before ∙ test_2 c.before.before.before.before.before.before.before ∙ c.if-modulus_out_of_range.false)

pub returns-then-not_below_norm : goal.returns-then-not_below_norm
unfolding parameter_checks
returns-then-not_below_norm c = sym (passed 1 _ _ (test_1 c.before.before.before.before.before.before.before.before.before.before.before ∙ c.if-out_of_range.false) ∙ passed 2 _ _ (test_2 c.before.before.before.before.before.before.before.before.before ∙ c.if-modulus_out_of_range.false) ∙ passed 3 _ _ (test_3 c.before.before.before.before.before.before.before ∙ c.if-both_even.false) ∙ passed 4 _ _ (test_4 c.before.before.before.before.before ∙ c.if-bad_s.false) ∙ passed 5 _ _ (test_5 c.before.before.before ∙ c.if-out_of_range-2.false) ∙ refused_by 6 _ _ (test_6 c.before ∙ c.if-not_below_norm.true))

pub returns : goal.returns
unfolding parameter_checks
returns c = sym (passed 1 _ _ (test_1 c.before.before.before.before.before.before.before.before.before.before.before ∙ c.if-out_of_range.false) ∙ passed 2 _ _ (test_2 c.before.before.before.before.before.before.before.before.before ∙ c.if-modulus_out_of_range.false) ∙ passed 3 _ _ (test_3 c.before.before.before.before.before.before.before ∙ c.if-both_even.false) ∙ passed 4 _ _ (test_4 c.before.before.before.before.before ∙ c.if-bad_s.false) ∙ passed 5 _ _ (test_5 c.before.before.before ∙ c.if-out_of_range-2.false) ∙ passed 6 _ _ (test_6 c.before ∙ c.if-not_below_norm.false) ∙ none_left tt)
