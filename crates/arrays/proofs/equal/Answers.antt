-- `equal` meets its contract.
use mathlib.Core.Path.{sym, ◌∙◌, ap}
use mathlib.Core.Bool.{Bool, ◌&&◌}
use borrow.Author.Tests.{ne_eqb}
use mir.Syntax.{w64}
use mir.Val.{of_z}
use Rattle.integers.proofs.Machine.{bits_same}
use Rattle.eisenstein.specs.Values.{same, same_ℤ}
use Rattle.eisenstein.proofs.Equality.{same_bits, same_ℤ_true, same_ℤ_false}
use Rattle.arrays.proofs.equal.Goals as goal

pub returns-then-a-c : goal.returns-then-a-c
unfolding same
returns-then-a-c c = let s = c.before in
    same_bits s.args.b s.args.d s.ranges.b s.ranges.d
    ∙ sym (ap (λ (t : Bool). t && same_ℤ s.args.b s.args.d) (same_ℤ_true (bits_same s.ranges.a s.ranges.c c.if-a-c.true)))

pub returns-else-a-c : goal.returns-else-a-c
unfolding same
returns-else-a-c c = let s = c.before in
    ne_eqb _ _ c.if-a-c.false ∙ sym (ap (λ (t : Bool). t && same_ℤ s.args.b s.args.d) (same_ℤ_false (λ e. c.if-a-c.false (ap (of_z w64) e))))
