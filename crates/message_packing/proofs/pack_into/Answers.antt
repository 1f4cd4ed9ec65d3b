-- `pack_into` meets its contract. The loop's invariant: the coefficients that are stored are right.
use mathlib.Core.Path.{refl, ◌∙◌}
use Prim.Native.Nat.{◌+◌, ◌*◌, ◌<◌}
use native.Mathlib.Omega.{arith}
use borrow.Author.Rules.{rules}
use lib.ListN.{length}
use mir.Syntax.{w32}
use Rattle.eisenstein.proofs.Pairs.{pair_read}
use Rattle.arrays.proofs.Changing.{stored_next, stored_all}
use Rattle.message_packing.proofs.pack_into.Goals as goal

pub loop-i-preserved : goal.loop-i-preserved
loop-i-preserved c =
    let inside : 2 * c.loop-i.i + 1 < length c.loop-i.m = omega (arith, c.loop-i.invariant.long, c.requires.1) in
    let r = c.pair_of-v in
    stored_next c.loop-i.invariant refl inside (pair_read {w = w32} {a = r.result.a} {b = r.result.b} (search rules) (search rules) ∙ r.ensures)

pub returns : goal.returns
returns c = stored_all c.args.n c.loop-i.invariant c.requires.1 (omega arith)
