-- `sum_of_six` meets its contract: in 16 bits the sum is what it is meant to be.
use mathlib.Core.Path.{sym, subst}
use mathlib.Core.List.{List, [], ◌∷◌}
use Prim.Native.Nat.{ℕ, ◌+◌, ◌≤◌}
use native.Mathlib.Nat.{le_trans}
use lib.Dec.{lit≤}
use lib.IntN.{ℤ, nat_abs}
use lib.ListN.{get_or}
use mir.Syntax.{w16}
use Rattle.integers.proofs.Ring.{Expr, var, ◌⊕◌, eval}
use Rattle.integers.proofs.Machine.{Leaf, given, meanings, fits, exact, size}
use Rattle.unit_products.specs.Rotations.{number_at}
use Rattle.unit_products.proofs.rotations.sum_of_six.Goals as goal
use Rattle.unit_products.proofs.rotations.sum_of_six.Goals.{Start}

abbrev number : Start → ℕ → Leaf
number s i =
    given (number_at s.args.twice.now s.args.starts.now s.args.k i) 5461 (s.requires.all_within (get_or s.args.starts.now i 0 + s.args.k))

abbrev ρ : Start → List Leaf
ρ s = number s 0 ∷ number s 1 ∷ number s 2 ∷ number s 3 ∷ number s 4 ∷ number s 5 ∷ []

abbrev three : Expr
three = var 0 ⊕ var 1 ⊕ var 2

abbrev six : Expr
six = three ⊕ var 3 ⊕ var 4 ⊕ var 5

within : (s : Start) → nat_abs (eval (meanings (ρ s)) six) ≤ 32766
within s = le_trans (size w16 (ρ s) six tt) (lit≤ tt)

pub overflow_add-result-7 : goal.overflow_add-result-7
overflow_add-result-7 c = fits w16 (ρ (goal.at.overflow_add-result-7 c).Start) (three ⊕ var 3) tt

pub overflow_add-result-9 : goal.overflow_add-result-9
overflow_add-result-9 c = fits w16 (ρ (goal.at.overflow_add-result-9 c).Start) (three ⊕ var 3 ⊕ var 4) tt

pub overflow_add-result-11 : goal.overflow_add-result-11
overflow_add-result-11 c = fits w16 (ρ (goal.at.overflow_add-result-11 c).Start) six tt

pub returns : goal.returns
returns c = let e = exact w16 (ρ (goal.at.returns c).Start) six tt in
    (e, subst (λ (z : ℤ). nat_abs z ≤ 32766) (sym e) (within (goal.at.returns c).Start))
