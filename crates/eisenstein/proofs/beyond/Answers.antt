-- `beyond` meets its contract.
use mathlib.Core.Path.{sym, ◌∙◌, ap, ap₂}
use mathlib.Core.Bool.{Bool, ◌||◌}
use lib.Dec.{ltb}
use lib.IntN.{ℤ, nat_abs}
use mir.Facts.{to_z-of_z}
use Rattle.eisenstein.specs.Calls.{beyond}
use Rattle.eisenstein.proofs.beyond.Goals as goal
use Rattle.eisenstein.proofs.beyond.Goals.{Start}

pub returns-then-outside : goal.returns-then-outside
unfolding beyond
returns-then-outside c = let s = (goal.at.returns-then-outside c).Start in
    c.if-outside.true ∙ sym (ap (λ (t : Bool). t || ltb (nat_abs s.args.limit) (nat_abs s.args.b))
    (sym (ap₂ (λ (l x : ℤ). ltb (nat_abs l) (nat_abs x)) (to_z-of_z s.ranges.limit) (to_z-of_z s.ranges.a)) ∙ sym c.outside.ensures ∙ c.if-outside.true))

pub returns-else-outside : goal.returns-else-outside
unfolding beyond
returns-else-outside c = let s = (goal.at.returns-else-outside c).Start in
    c.outside-else-outside.ensures
    ∙ ap₂ (λ (l x : ℤ). ltb (nat_abs l) (nat_abs x)) (to_z-of_z s.ranges.limit) (to_z-of_z s.ranges.b)
    ∙ sym (ap (λ (t : Bool). t || ltb (nat_abs s.args.limit) (nat_abs s.args.b))
    (sym (ap₂ (λ (l x : ℤ). ltb (nat_abs l) (nat_abs x)) (to_z-of_z s.ranges.limit) (to_z-of_z s.ranges.a)) ∙ sym c.outside.ensures ∙ c.if-outside.false))
