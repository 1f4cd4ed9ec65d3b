-- `all_zero_or_unit` meets its contract.
use mathlib.Core.Path.{sym, ◌∙◌, subst}
use lib.Dec.{T}
use Rattle.arrays.specs.Arrays.{AllWithin}
use Rattle.arrays.proofs.Sizes.{are_within}
use Rattle.array_limits.proofs.UnitTests.{all_together, not_within}
use Rattle.array_limits.proofs.all_zero_or_unit.Goals as goal
use Rattle.array_limits.proofs.all_zero_or_unit.Goals.{Then-numbers_within}

within : (c : Then-numbers_within) → AllWithin 1 c.args.x.now
within c = are_within 1 c.args.x.now (subst T (sym (sym c.numbers_within.ensures ∙ c.if-numbers_within.true)) tt)

pub parts_together-requires : goal.parts_together-requires
parts_together-requires c = (c.requires.0, c.requires.1, within c)

pub returns-then-numbers_within : goal.returns-then-numbers_within
returns-then-numbers_within c = c.parts_together.ensures ∙ all_together c.args.n c.args.x.now (within (goal.at.returns-then-numbers_within c).Then-numbers_within)

pub returns-else-numbers_within : goal.returns-else-numbers_within
returns-else-numbers_within c = c.if-numbers_within.false ∙ not_within c.args.n c.args.x.now c.requires.1 (sym c.numbers_within.ensures ∙ c.if-numbers_within.false)
