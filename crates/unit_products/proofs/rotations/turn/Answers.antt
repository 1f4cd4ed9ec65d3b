-- `turn` meets its contract. The loop's invariant: the coefficients so far are multiplied, the others as they came.
use mathlib.Core.Path.{sym, ap, subst}
use Prim.Native.Nat.{◌^◌}
use native.Mathlib.Omega.{arith}
use Rattle.eisenstein.specs.Values.{◌*ω◌}
use Rattle.arrays.proofs.Changing.{stored_next, stored_all}
use Rattle.unit_products.specs.Rotations.{ζ, PartsBelow}
use Rattle.unit_products.proofs.Horner.{parts_below}
use Rattle.unit_products.proofs.rotations.turn.Goals as goal

pub turn_at-requires : goal.turn_at-requires
turn_at-requires c = (omega (arith, c.requires.n_bound.0), omega (arith, c.loop-i.invariant.long, c.requires.n_bound.1), subst (PartsBelow (2 ^ 29)) (sym (c.loop-i.invariant.old c.loop-i.i (omega arith))) (parts_below c.args.x.now c.loop-i.i c.requires.all_within))

pub loop-i-preserved : goal.loop-i-preserved
loop-i-preserved c = stored_next c.loop-i.invariant c.turn_at.ensures (omega (arith, c.loop-i.invariant.long, c.requires.n_bound.1)) (ap (◌*ω◌ ζ) (c.loop-i.invariant.old c.loop-i.i (omega arith)))

pub returns : goal.returns
returns c = stored_all c.args.n c.loop-i.invariant c.requires.n_bound.1 (omega arith)
