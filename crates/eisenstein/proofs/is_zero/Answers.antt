-- `is_zero` meets its contract.
use mathlib.Core.Path.{sym, ◌∙◌, ap}
use mathlib.Core.Bool.{Bool, ◌&&◌}
use lib.IntN.{pos}
use mir.Syntax.{w64}
use mir.Val.{of_z}
use mir.Facts.{sfits_lit}
use Rattle.integers.proofs.Machine.{bits_same}
use Rattle.eisenstein.specs.Values.{same, same_ℤ}
use Rattle.eisenstein.proofs.Equality.{same_bits, same_ℤ_true, same_ℤ_false}
use borrow.Author.Tests.{ne_eqb}
use Rattle.eisenstein.proofs.is_zero.Goals as goal
use Rattle.eisenstein.proofs.is_zero.Goals.{Start}

pub returns-then-a-eq0 : goal.returns-then-a-eq0
unfolding same
returns-then-a-eq0 c = let s = (goal.at.returns-then-a-eq0 c).Start in
    same_bits s.args.b (pos 0) s.ranges.b (sfits_lit tt)
    ∙ sym (ap (λ (t : Bool). t && same_ℤ s.args.b (pos 0)) (same_ℤ_true (bits_same s.ranges.a (sfits_lit tt) c.if-a-eq0.true)))

pub returns-else-a-eq0 : goal.returns-else-a-eq0
unfolding same
returns-else-a-eq0 c = let s = (goal.at.returns-else-a-eq0 c).Start in
    ne_eqb _ _ c.if-a-eq0.false ∙ sym (ap (λ (t : Bool). t && same_ℤ s.args.b (pos 0)) (same_ℤ_false (λ e. c.if-a-eq0.false (ap (of_z w64) e))))
