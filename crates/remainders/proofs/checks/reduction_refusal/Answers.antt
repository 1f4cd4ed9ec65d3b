-- `reduction_refusal` meets its contract: each test is the definition's, in its order.
use mathlib.Core.Path.{◌≡◌, sym, ◌∙◌, ap}
use Prim.Native.Nat.{◌^◌}
use mir.Syntax.{w32, w64}
use mir.Val.{to_z, of_z}
use Rattle.refusals.proofs.Checks.{refused_by, passed, none_left}
use Rattle.eisenstein.specs.Values.{ℤ[ω], value, 𝟘, same}
use Rattle.eisenstein.specs.Calls.{beyond}
use Rattle.eisenstein.proofs.Pairs.{pair_read, pair_cast}
use Rattle.remainders.proofs.checks.reduction_refusal.Goals as goal
use Rattle.remainders.proofs.checks.reduction_refusal.Goals.{After-is_zero, After-modulus_out_of_range, After-value_out_of_range, Start}

abbrev q : Start → ℤ[ω]
q c = value c.args.c c.args.d

abbrev x : Start → ℤ[ω]
x c = value c.args.a c.args.b

-- modulus and value as a callee is handed them
q_read : (c : Start) → value (to_z w64 (of_z w64 (to_z w32 (of_z w32 c.args.c)))) (to_z w64 (of_z w64 (to_z w32 (of_z w32 c.args.d)))) ≡ q c
q_read c = pair_cast w64 tt c.ranges.c c.ranges.d

x_read : (c : Start) → value (to_z w64 (of_z w64 c.args.a)) (to_z w64 (of_z w64 c.args.b)) ≡ x c
x_read c = pair_read c.ranges.a c.ranges.b

-- the three tests
q_tested : (c : After-modulus_out_of_range) → beyond 4095 (q c.before) ≡ c.modulus_out_of_range.result
q_tested c = sym (c.modulus_out_of_range.ensures ∙ ap (beyond 4095) (pair_read c.ranges.c c.ranges.d))

zero_tested : (c : After-is_zero) → same (q c.before.before.before) 𝟘 ≡ c.is_zero.result
zero_tested c = sym (ap (λ (y : ℤ[ω]). same y 𝟘) (q_read c.before.before.before)) ∙ sym c.is_zero.ensures

x_tested : (c : After-value_out_of_range) → beyond (2 ^ 40) (x c.before.before.before.before.before) ≡ c.value_out_of_range.result
x_tested c = sym (ap (beyond (2 ^ 40)) (x_read c.before.before.before.before.before)) ∙ sym c.value_out_of_range.ensures

pub returns-then-modulus_out_of_range : goal.returns-then-modulus_out_of_range
returns-then-modulus_out_of_range c = sym (refused_by 2 _ _ (q_tested c.before ∙ c.if-modulus_out_of_range.true))

pub returns-then-is_zero : goal.returns-then-is_zero
returns-then-is_zero c = sym (passed 2 _ _ (q_tested c.before.before.before ∙ c.if-modulus_out_of_range.false) ∙ refused_by 21 _ _ (zero_tested c.before ∙ c.if-is_zero.true))

pub returns-then-value_out_of_range : goal.returns-then-value_out_of_range
returns-then-value_out_of_range c = sym (passed 2 _ _ (q_tested c.before.before.before.before.before ∙ c.if-modulus_out_of_range.false)
    ∙ passed 21 _ _ (zero_tested c.before.before.before ∙ c.if-is_zero.false)
    ∙ refused_by 22 _ _ (x_tested c.before ∙ c.if-value_out_of_range.true))

pub returns : goal.returns
returns c = sym (passed 2 _ _ (q_tested c.before.before.before.before.before ∙ c.if-modulus_out_of_range.false)
    ∙ passed 21 _ _ (zero_tested c.before.before.before ∙ c.if-is_zero.false)
    ∙ passed 22 _ _ (x_tested c.before ∙ c.if-value_out_of_range.false)
    ∙ none_left tt)
