-- `any_twice_of` meets its contract.
use Rattle.std.proofs.Common.{◌≡◌, refl, sym, ◌∙◌, ap, ℕ, drop, arith}
use Rattle.stop_sets.specs.Stops.{any_twice}
use Rattle.stop_sets.proofs.Twice.{none_seen, Turn, turn_found, turn_new}
use Rattle.stop_sets.proofs.any_twice_of.Given.{Over}
use Rattle.stop_sets.proofs.any_twice_of.Goals as goal
use Rattle.stop_sets.proofs.any_twice_of.Goals.{After-add}

turn : (g : Over) (c : After-add g) → Turn c.loop-k.words (g.S.StopList.stops c.args.stops.now) c.loop-k.k c.from.result
turn g c = record {
  positive = omega arith;
  within = omega (arith, c.count-k.ensures);
  seen = c.loop-k.invariant;
  here = sym (c.stop.ensures (omega (arith, c.count-k.ensures))) ∙ sym c.from.ensures;
  small = omega arith;
}

pub loop-k-init : goal.loop-k-init
loop-k-init g c = none_seen _ _ c.count-k.result c.count-k.ensures refl

pub returns-then-add : goal.returns-then-add
returns-then-add g c = sym (turn_found (turn g (goal.at.returns-then-add g c).After-add) (sym c.add.ensures.0 ∙ c.if-add.true))

pub loop-k-preserved : goal.loop-k-preserved
loop-k-preserved g c = rw c.add.ensures.1 (turn_new (turn g (goal.at.loop-k-preserved g c).After-add) (sym c.add.ensures.0 ∙ c.if-add.false))

pub returns : goal.returns
returns g c =
    let first : c.loop-k.k ≡ 0 = omega arith in
    sym (ap (λ (i : ℕ). any_twice (drop i (g.S.StopList.stops c.args.stops.now))) (sym first) ∙ c.loop-k.invariant.once)
