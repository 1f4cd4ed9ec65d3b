-- `places_of` meets its contract. The loop's invariant: the places so far are listed.
use mathlib.Core.Path.{refl, sym, ◌∙◌, subst}
use mathlib.Core.List.{List}
use Prim.Native.Nat.{ℕ, ◌+◌, ◌<◌}
use native.Mathlib.Omega.{arith}
use lib.ListN.{length, set, length-set}
use lib.Seq.{get_or-set_same}
use Rattle.eisenstein.specs.Values.{ℤ[ω], value}
use Rattle.polynomials.specs.Polynomials.{coefficient}
use Rattle.unit_products.specs.Rotations.{Places}
use Rattle.unit_products.proofs.PlacesOf.{places_none, places_kept, places_more, places_same}
use Rattle.unit_products.proofs.places.places_of.Goals as goal
use Rattle.unit_products.proofs.places.places_of.Goals.{Start, then-coefficient_is, else-coefficient_is}

abbrev unit : Start → ℤ[ω]
unit s = value s.args.u.a s.args.u.b

pub loop-j-init : goal.loop-j-init
loop-j-init c = (omega arith, refl, places_none (unit (goal.at.loop-j-init c).Start) (coefficient c.args.x.now) c.args.places.now)

pub loop-j-preserved : goal.loop-j-preserved
loop-j-preserved c =
    let listed : List ℕ = set c.loop-j.places c.loop-j.count c.loop-j.j in
    let room : c.loop-j.count < length c.loop-j.places = omega (arith, c.loop-j.auto.j-end, c.loop-j.invariant.0, c.loop-j.invariant.1, c.requires) in
    let x = coefficient c.args.x.now in
    let e = sym c.coefficient_is.ensures in
    let kept = places_kept (unit (goal.at.loop-j-preserved c).Start) x c.loop-j.places c.loop-j.j c.loop-j.invariant.2 in
    let long = length-set c.loop-j.places c.loop-j.count c.loop-j.j ∙ c.loop-j.invariant.1 in
    elim c.if-coefficient_is.branch [
      | then-coefficient_is w ↦ (omega (arith, w.count-is, c.loop-j.invariant.0), long, subst (Places (c.loop-j.j + 1) (unit (goal.at.loop-j-preserved c).Start) x listed) (sym w.count-is) (places_more (unit (goal.at.loop-j-preserved c).Start) x listed kept (get_or-set_same c.loop-j.places c.loop-j.count c.loop-j.j 0 room) (e ∙ w.if-coefficient_is.true)))
      | else-coefficient_is w ↦ (omega (arith, w.count-is, c.loop-j.invariant.0), long, subst (Places (c.loop-j.j + 1) (unit (goal.at.loop-j-preserved c).Start) x listed) (sym w.count-is) (places_same (unit (goal.at.loop-j-preserved c).Start) x listed kept (e ∙ w.if-coefficient_is.false)))
    ]
