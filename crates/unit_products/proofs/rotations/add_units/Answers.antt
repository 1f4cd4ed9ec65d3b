-- `add_units` meets its contract. The loop's invariant: the units so far, from unit 5 down, have brought what they bring.
use mathlib.Core.Path.{◌≡◌, refl, ◌∙◌, ap, subst}
use Prim.Native.Nat.{ℕ, suc, ◌-◌, ◌^◌}
use native.Mathlib.Omega.{arith}
use native.Mathlib.Nat.{mod-eq_of_lt}
use Rattle.eisenstein.specs.Values.{ℤ[ω], value, unit}
use Rattle.polynomials.specs.Polynomials.{coefficient}
use Rattle.unit_products.specs.Rotations.{runs, Summed}
use Rattle.unit_products.proofs.Horner.{turned_below, grown, still_small, After, after_none, after_next, after_all}
use Rattle.unit_products.proofs.rotations.add_units.Goals as goal

pub loop-k-init : goal.loop-k-init
loop-k-init c = (refl, refl, after_none c.args.n (coefficient c.args.x.now) c.args.twice.now c.args.sums.now c.requires.zeros.1.long c.requires.zeros.0)

pub turn-requires : goal.turn-requires
turn-requires c = let h = c.loop-k.invariant.2 in
    record { n_bound = (c.requires.zeros.1.N_small, h.long); all_within = λ i. omega (arith, h.below i, still_small (6 - c.loop-k.k) (omega (arith))) }

pub add_unit-requires : goal.add_unit-requires
add_unit-requires c = let h = c.loop-k.invariant.2 in
    let k = turned_below c.args.n (grown (6 - c.loop-k.k)) c.loop-k.sums c.turn.ensures h.below in (
      c.requires.x_len.0,
      record {
        N_small = c.requires.zeros.1.N_small;
        long = k.0;
        twice_long = c.requires.zeros.1.twice_long;
        sums_below = λ i. omega (arith, k.1 i, still_small (6 - c.loop-k.k) (omega (arith)));
        twice_below = c.requires.zeros.1.twice_below;
      },
      omega (arith, c.requires.x_len.2, c.loop-k.invariant.0),
      c.loop-k.invariant.1 ∙ c.requires.x_len.3,
    )

pub loop-k-preserved : goal.loop-k-preserved
loop-k-preserved c =
    let m : ℕ = 6 - c.loop-k.k in
    let next : suc m ≡ 6 - (c.loop-k.k - 1) = omega arith in
    let e : value c.unit.result.a c.unit.result.b ≡ unit (5 - m) = c.unit.ensures ∙ ap unit (mod-eq_of_lt (omega arith) ∙ omega arith) in
    let x = coefficient c.args.x.now in (
      c.add_unit.ensures.0 ∙ c.loop-k.invariant.0,
      c.add_unit.ensures.1 ∙ c.loop-k.invariant.1,
      subst (λ (k : ℕ). After c.args.n x c.args.twice.now k c.add_unit.new.sums) next
          (after_next c.args.n x c.args.twice.now m c.loop-k.sums c.loop-k.invariant.2 c.turn.ensures
          (subst (λ (v : ℤ[ω]). Summed c.args.n (runs c.args.n c.args.twice.now v x) (2 ^ 23) c.turn.new.x c.add_unit.new.sums) e c.add_unit.ensures.2)),
    )

pub returns : goal.returns
returns c = after_all c.args.n (coefficient c.args.x.now) c.args.twice.now c.loop-k.sums c.requires.x_len.1 (subst (λ (m : ℕ). After c.args.n (coefficient c.args.x.now) c.args.twice.now m c.loop-k.sums) (omega arith) c.loop-k.invariant.2)
