-- `reduce_2` meets its contract.
use mathlib.Core.Path.{◌≡◌, sym, ◌∙◌, ap}
use Prim.Native.Nat.{◌^◌}
use Rattle.refusals.specs.Outcomes.{done}
use Rattle.refusals.proofs.Checks.{refused_by, passed, none_left}
use Rattle.eisenstein.specs.Values.{value}
use Rattle.eisenstein.specs.Reduction.{mod2}
use Rattle.eisenstein.specs.Calls.{beyond, reduce2}
use Rattle.eisenstein.proofs.Pairs.{pair_read}
use Rattle.eisenstein.proofs.reduce_2.Goals as goal
use Rattle.eisenstein.proofs.reduce_2.Goals.{After-value_out_of_range}

-- the test, of the value itself
tested : (c : After-value_out_of_range) → beyond (2 ^ 40) (value c.args.a c.args.b) ≡ c.value_out_of_range.result
tested c = sym (c.value_out_of_range.ensures ∙ ap (beyond (2 ^ 40)) (pair_read c.ranges.a c.ranges.b))

pub returns-then-value_out_of_range : goal.returns-then-value_out_of_range
unfolding reduce2
returns-then-value_out_of_range c = sym (refused_by 22 _ _ (tested c.before ∙ c.if-value_out_of_range.true))

pub returns : goal.returns
unfolding reduce2
returns c = let s = c.before.before.before in
    ap done (c.remainder_2.ensures ∙ ap mod2 (pair_read s.ranges.a s.ranges.b)) ∙ sym (passed 22 _ _ (tested c.before.before ∙ c.if-value_out_of_range.false) ∙ none_left _)
