-- `add_run` meets its contract. The loop's invariant: the run is added as far as it was walked.
use mathlib.Core.Path.{◌≡◌, sym, ◌∙◌, ap, subst}
use mathlib.Core.List.{List, [], ◌∷◌}
use Prim.Native.Nat.{◌^◌, ◌≤◌}
use native.Mathlib.Omega.{arith}
use lib.IntN.{ℤ, pos, nat_abs, ◌+ℤ◌}
use lib.ListN.{get_or}
use lib.Dec.{lit<}
use mir.Syntax.{w16, w32}
use mir.Val.{to_z, of_z}
use mir.Facts.{to_z-of_z}
use Rattle.integers.proofs.Ring.{var, ◌⊕◌}
use Rattle.integers.proofs.Machine.{Leaf, given, exact, sfits_within}
use Rattle.arrays.proofs.Changing.{set_next}
use Rattle.unit_products.proofs.rotations.add_run.Goals as goal
use Rattle.unit_products.proofs.rotations.add_run.Goals.{After-from}

abbrev number : After-from → ℤ
number c = get_or c.args.numbers.now c.loop-k.k (pos 0)

small : (c : After-from) → nat_abs (number c) ≤ 32766
small c = c.requires.2 c.loop-k.k

read : (c : After-from) → to_z w16 (of_z w16 (number c)) ≡ number c
read c = to_z-of_z {w = w16} (sfits_within (number c) (small c) (lit< tt))

-- the sum, which is as it came, and the number
abbrev ρ : After-from → List Leaf
ρ c =
    given (get_or c.loop-k.sums c.loop-k.k (pos 0)) (2 ^ 30) (subst (λ (z : ℤ). nat_abs z ≤ 2 ^ 30) (sym (c.loop-k.invariant.old c.loop-k.k (omega arith))) (c.requires.1 c.loop-k.k))
    ∷ record { code = c.from.result; meant = number c; bound = 32766; is = c.from.ensures ∙ read c; small = small c }
    ∷ []

pub loop-k-preserved : goal.loop-k-preserved
loop-k-preserved c =
    set_next (pos 0) c.loop-k.invariant (omega (arith, c.loop-k.invariant.long)) (exact w32 (ρ (goal.at.loop-k-preserved c).After-from) (var 0 ⊕ var 1) tt ∙ ap (λ (z : ℤ). z +ℤ number (goal.at.loop-k-preserved c).After-from) (c.loop-k.invariant.old c.loop-k.k (omega arith)))
