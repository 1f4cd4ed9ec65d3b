-- `class_of` meets its contract.
use mathlib.Core.Path.{◌∙◌, ap, ap₂}
use Prim.Native.Nat.{ℕ, ◌+◌, ◌*◌}
use mir.Facts.{to_z-of_z}
use Rattle.eisenstein.specs.Reduction.{bit}
use Rattle.classes.specs.Classes.{class_of}
use Rattle.classes.proofs.class_of.Goals as goal

pub returns : goal.returns
unfolding class_of
returns c = let s = c.before.before in
    ap₂ (λ (u v : ℕ). u + 2 * v) (c.bit.ensures.0 ∙ ap bit (to_z-of_z s.ranges.a)) (c.bit-2.ensures.0 ∙ ap bit (to_z-of_z s.ranges.b))
