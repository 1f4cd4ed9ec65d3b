-- `wide_norm` meets its contract: no step overflows, and the result is the form a² − ab + b².
use mathlib.Core.Path.{◌∙◌}
use mathlib.Core.List.{List, [], ◌∷◌}
use Prim.Native.Nat.{◌^◌}
use mir.Syntax.{w64}
use Rattle.integers.proofs.Ring.{Expr, var, ◌⊕◌, ◌⊝◌, ◌⊗◌}
use Rattle.integers.proofs.Machine.{Leaf, given, fits, exact}
use Rattle.eisenstein.specs.Values.{value}
use Rattle.eisenstein.proofs.Norms.{norm_form}
use Rattle.eisenstein.proofs.wide_norm.Goals as goal
use Rattle.eisenstein.proofs.wide_norm.Goals.{Start}

abbrev ρ : Start → List Leaf
ρ c = given c.args.a (2 ^ 30) c.requires.0 ∷ given c.args.b (2 ^ 30) c.requires.1 ∷ []

abbrev a : Expr
a = var 0

abbrev b : Expr
b = var 1

pub overflow_add-result : goal.overflow_add-result
overflow_add-result c = fits w64 (ρ c) (a ⊗ a ⊝ a ⊗ b ⊕ b ⊗ b) tt

pub returns : goal.returns
returns c = exact w64 (ρ c) (a ⊗ a ⊝ a ⊗ b ⊕ b ⊗ b) tt ∙ norm_form (value c.args.a c.args.b)
