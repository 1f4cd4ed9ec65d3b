-- `wrapped_at` meets its contract.
use mathlib.Core.Path.{ap₂}
use mathlib.Core.List.{List, [], ◌∷◌}
use Prim.Native.Nat.{◌+◌, ◌*◌, ◌^◌}
use native.Mathlib.Omega.{arith}
use lib.IntN.{pos}
use lib.ListN.{get_or}
use mir.Syntax.{w64}
use Rattle.integers.proofs.Ring.{Expr, var, ◌⊕◌}
use Rattle.integers.proofs.Machine.{Leaf, given, exact}
use Rattle.eisenstein.specs.Values.{value, ◌+ω◌}
use Rattle.polynomials.specs.Polynomials.{coefficient}
use Rattle.halving.specs.Products.{wrapped}
use Rattle.convolution.proofs.wrapping.wrapped_at.Goals as goal
use Rattle.convolution.proofs.wrapping.wrapped_at.Goals.{Start}

abbrev ρ : Start → List Leaf
ρ s =
    let w = s.args.w.now in
    let i = s.args.i in
    let n = s.args.n in
    given (get_or w (2 * i) (pos 0)) (2 ^ 59) (s.requires.by_index (2 * i) (omega (arith, s.requires.i_lt_n)))
    ∷ given (get_or w (2 * i + 1) (pos 0)) (2 ^ 59) (s.requires.by_index (2 * i + 1) (omega (arith, s.requires.i_lt_n)))
    ∷ given (get_or w (2 * (n + i)) (pos 0)) (2 ^ 59) (s.requires.by_index (2 * (n + i)) (omega (arith, s.requires.i_lt_n)))
    ∷ given (get_or w (2 * (n + i) + 1) (pos 0)) (2 ^ 59) (s.requires.by_index (2 * (n + i) + 1) (omega (arith, s.requires.i_lt_n)))
    ∷ []

abbrev a : Expr
a = var 0 ⊕ var 2

abbrev b : Expr
b = var 1 ⊕ var 3

pub returns : goal.returns
unfolding wrapped coefficient ◌+ω◌
returns c = ap₂ value (exact w64 (ρ (goal.at.returns c).Start) a tt) (exact w64 (ρ (goal.at.returns c).Start) b tt)
