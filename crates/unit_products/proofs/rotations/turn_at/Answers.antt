-- `turn_at` meets its contract.
use mathlib.Core.Path.{◌∙◌, ap₂}
use mathlib.Core.List.{List, [], ◌∷◌}
use Prim.Native.Nat.{ℕ, ◌+◌, ◌*◌, ◌^◌}
use lib.IntN.{ℤ, pos}
use lib.ListN.{get_or, set}
use mir.Syntax.{w32}
use Rattle.integers.proofs.Ring.{var, ◌⊝◌}
use Rattle.integers.proofs.Machine.{Leaf, given, fits, exact}
use Rattle.polynomials.specs.Polynomials.{coefficient}
use Rattle.unit_products.proofs.Horner.{turn_a, turn_b}
use Rattle.unit_products.proofs.rotations.turn_at.Goals as goal
use Rattle.unit_products.proofs.rotations.turn_at.Goals.{Start}

ρ : Start → List Leaf
unfolding coefficient
ρ s =
    let k : ℕ = 2 * s.args.i in
    given (get_or s.args.x.now k (pos 0)) (2 ^ 29) s.requires.2.0
    ∷ given (get_or s.args.x.now (k + 1) (pos 0)) (2 ^ 29) s.requires.2.1
    ∷ []

pub overflow_sub-x : goal.overflow_sub-x
unfolding coefficient ρ
overflow_sub-x c = fits w32 (ρ (goal.at.overflow_sub-x c).Start) (var 0 ⊝ var 1) tt

pub returns : goal.returns
unfolding coefficient ρ
returns c = let x = c.args.x.now in
    let i = c.args.i in
    ap₂ (λ (a b : ℤ). set (set x (2 * i) a) (2 * i + 1) b) (exact w32 (ρ (goal.at.returns c).Start) (var 0 ⊝ var 1) tt ∙ turn_a (coefficient x i)) (exact w32 (ρ (goal.at.returns c).Start) (var 0) tt ∙ turn_b (coefficient x i))
