-- `is_one_at` meets its contract.
use mathlib.Core.Path.{◌≡◌, refl, ◌∙◌, ap}
use mathlib.Core.Bool.{Bool, true, false, cond}
use lib.Dec.{eqb}
use lib.IntN.{ℤ, pos}
use mir.Syntax.{w64}
use mir.Val.{to_z, of_z, bool_byte}
use Rattle.eisenstein.specs.Values.{value, 𝟘, same}
use Rattle.polynomials.specs.Polynomials.{coefficient, one}
use Rattle.key_check.proofs.inverses.is_one_at.Goals as goal

-- the number of a `bool`, as a callee is handed it
one_or_zero : (b : Bool) → value (to_z w64 (of_z w64 (pos (bool_byte b)))) (pos 0) ≡ cond b (value (pos 1) (pos 0)) 𝟘
one_or_zero true = refl
one_or_zero false = refl

pub returns : goal.returns
unfolding one
returns c =
    c.coefficient_is.ensures
    ∙ ap (same (coefficient c.args.x.now c.args.i)) (ap (λ (z : ℤ). value (to_z w64 (of_z w64 z)) (pos 0)) c.from.ensures ∙ one_or_zero (eqb c.args.i 0))
