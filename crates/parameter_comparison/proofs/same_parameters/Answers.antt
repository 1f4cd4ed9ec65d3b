-- `same_parameters` meets its contract: the derived comparison is that of the definition, number by number.
use mathlib.Core.Path.{◌≡◌, refl, sym, ◌∙◌}
use mathlib.Core.Bool.{Bool, true, false, ◌&&◌}
use lib.Dec.{eqb}
use lib.IntN.{ℤ}
use Rattle.std.specs.Ordering.{int_eq}
use Rattle.eisenstein.specs.Values.{same, same_ℤ}
use Rattle.eisenstein.proofs.Equality.{same_ℤ_true, same_ℤ_false}
use Rattle.std.proofs.lemmas.Bool.Decides.{Decides-int_eq, not_from_Decides}
use Rattle.parameter_comparison.specs.Comparison.{same_set}
use Rattle.parameter_comparison.proofs.same_parameters.Goals as goal

same_is : (x y : ℤ) → int_eq x y ≡ same_ℤ x y
same_is x y = go (int_eq x y) refl
  where
    go : (t : Bool) → int_eq x y ≡ t → int_eq x y ≡ same_ℤ x y
    go true e = e ∙ sym (same_ℤ_true ((Decides-int_eq x y).0 e))
    go false e = e ∙ sym (same_ℤ_false (not_from_Decides (int_eq x y) (Decides-int_eq x y) e))

and_grouped : (x y z : Bool) → x && (y && z) ≡ (x && y) && z
and_grouped true y z = refl
and_grouped false y z = refl

pub returns : goal.returns
unfolding same_set same
returns c =
    let p = c.args.p in
    let q = c.args.other in
    c.eq.ensures ∙ rw (same_is p.c q.c, same_is p.d q.d, and_grouped (same_ℤ p.c q.c) (same_ℤ p.d q.d) (eqb p.s q.s && eqb p.t q.t)) refl
