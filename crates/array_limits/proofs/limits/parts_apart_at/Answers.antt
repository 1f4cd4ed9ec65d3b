-- `parts_apart_at` meets its contract.
use mathlib.Core.Path.{◌∙◌, ap}
use mathlib.Core.List.{List, [], ◌∷◌}
use Prim.Native.Nat.{ℕ, ◌+◌, ◌*◌}
use lib.Dec.{ltb}
use lib.IntN.{ℤ, pos, nat_abs}
use lib.ListN.{get_or}
use mir.Syntax.{w32}
use Rattle.integers.proofs.Ring.{var, ◌⊝◌}
use Rattle.integers.proofs.Machine.{Leaf, given, exact}
use Rattle.polynomials.specs.Polynomials.{coefficient}
use Rattle.array_limits.proofs.limits.parts_apart_at.Goals as goal
use Rattle.array_limits.proofs.limits.parts_apart_at.Goals.{Start}

abbrev ρ : Start → List Leaf
ρ s =
    let k : ℕ = 2 * s.args.i in
    given (get_or s.args.x.now k (pos 0)) 1 (s.requires.2 k) ∷ given (get_or s.args.x.now (k + 1) (pos 0)) 1 (s.requires.2 (k + 1)) ∷ []

pub returns : goal.returns
unfolding coefficient
returns c = c.is_beyond.ensures ∙ ap (λ (z : ℤ). ltb 1 (nat_abs z)) (exact w32 (ρ (goal.at.returns c).Start) (var 0 ⊝ var 1) tt)
