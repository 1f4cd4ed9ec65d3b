-- `lay_checked` meets its contract: 23 of the whole list, then 24, then 10 of the array.
use mathlib.Core.Path.{◌≡◌, sym, ◌∙◌, ap}
use mathlib.Core.Bool.{Bool, true, not}
use mathlib.Core.List.{[], ◌∷◌}
use borrow.Author.Tests.{not-true, not-false}
use Rattle.refusals.specs.Outcomes.{outcome, ◌if◌}
use Rattle.refusals.proofs.Checks.{refused_by, passed, done_passed}
use Rattle.parameters.specs.Sets.{set_of}
use Rattle.polynomials.specs.Polynomials.{array}
use Rattle.polynomials.proofs.Arrays.{array_length}
use Rattle.array_sets.specs.Sets.{array_check}
use Rattle.array_sets.specs.declared.ArraySet.TheVariants.{Phi}
use Rattle.array_sets.proofs.ArrayChecks.{own_check}
use Rattle.placed_units.specs.PlacedUnits.{any_out_of_range, any_place_twice, spread}
use Rattle.placed_ephemerals.proofs.Promises.{array_in_set}
use Rattle.place_spreading.proofs.checked.lay_checked.Goals as goal

pub returns-then-any_out_of_range-clause-refusal : goal.returns-then-any_out_of_range-clause-refusal
returns-then-any_out_of_range-clause-refusal c = sym (refused_by 23 _ _ (sym c.any_out_of_range.ensures ∙ c.if-any_out_of_range.true))

pub returns-then-any_out_of_range-clause-laid : goal.returns-then-any_out_of_range-clause-laid
returns-then-any_out_of_range-clause-laid c passes =
    let in_range = (done_passed 23 (any_out_of_range c.args.p.parameters.n c.args.places.now) _ _ _ passes).0 in
    cc

pub returns-then-not-lay-clause-refusal : goal.returns-then-not-lay-clause-refusal
returns-then-not-lay-clause-refusal c = sym (passed 23 _ _ (sym c.any_out_of_range.ensures ∙ c.if-any_out_of_range.false) ∙ refused_by 24 _ _ (not-false _ (sym c.lay.ensures.value ∙ c.if-not-lay.true)))

pub returns-then-not-lay-clause-laid : goal.returns-then-not-lay-clause-laid
returns-then-not-lay-clause-laid c passes =
    let twice : any_place_twice c.args.places.now ≡ true = not-false _ (sym c.lay.ensures.value ∙ c.if-not-lay.true) in
    let once = (done_passed 24 (any_place_twice c.args.places.now) _ _ _ (done_passed 23 (any_out_of_range c.args.p.parameters.n c.args.places.now) _ _ _ passes).1).0 in
    cc

pub returns-clause-refusal : goal.returns-clause-refusal
returns-clause-refusal c =
    let p = set_of c.args.p.parameters in
    let x = array c.args.p.parameters.n (spread c.args.places.now) in
    c.check_array.ensures
    ∙ ap (array_check p Phi) (c.lay.ensures.x_after c.if-not-lay.false)
    ∙ own_check p Phi x c.args.p.passes (array_length c.args.p.parameters.n (spread c.args.places.now))
    ∙ ap (λ (t : Bool). outcome (10 if not t ∷ []) (tt {0})) (sym (array_in_set p.N p.s (spread c.args.places.now)))
    ∙ sym (passed 23 _ _ (sym c.any_out_of_range.ensures ∙ c.if-any_out_of_range.false) ∙ passed 24 _ _ (not-true _ (sym c.lay.ensures.value ∙ c.if-not-lay.false)))
