-- `odd` meets its contract.
use mathlib.Core.Path.{◌∙◌, ap}
use mathlib.Core.Bool.{not}
use lib.Dec.{eqb}
use lib.IntN.{ℤ, pos}
use lib.Signed.{rem_z}
use mir.Syntax.{w64}
use mir.Val.{of_z}
use mir.Facts.{to_z-of_z}
use Rattle.eisenstein.proofs.Modulo2.{odd_test}
use Rattle.eisenstein.proofs.odd.Goals as goal

pub returns : goal.returns
returns c = ap (λ (z : ℤ). not (eqb (of_z w64 (rem_z z (pos 2))) 0)) (to_z-of_z c.ranges.x) ∙ odd_test c.args.x
