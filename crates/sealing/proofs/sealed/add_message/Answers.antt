-- `add_message` meets its contract. The loop's invariant: the coefficients so far are what is sealed, the others as they came.
use mathlib.Core.Path.{refl, ◌∙◌, ap}
use Prim.Native.Nat.{◌+◌, ◌*◌, ◌<◌}
use native.Mathlib.Omega.{arith}
use borrow.Author.Rules.{rules}
use lib.ListN.{length}
use mir.Syntax.{w32}
use Rattle.eisenstein.specs.Values.{ℤ[ω], ◌+ω◌}
use Rattle.eisenstein.specs.Reduction.{mod_q}
use Rattle.eisenstein.proofs.Pairs.{pair_read}
use Rattle.parameters.specs.Sets.{set_of}
use Rattle.arrays.proofs.Changing.{stored_next, stored_all}
use Rattle.packing.specs.Messages.{packed}
use Rattle.sealing.proofs.sealed.add_message.Goals as goal

pub loop-i-preserved : goal.loop-i-preserved
loop-i-preserved c =
    let inside : 2 * c.loop-i.i + 1 < length c.loop-i.e = omega (arith, c.loop-i.invariant.long) in
    let r = c.sealed_at-r in
    stored_next c.loop-i.invariant refl inside (pair_read {w = w32} {a = r.result.a} {b = r.result.b} (search rules) (search rules) ∙ r.ensures ∙ ap (λ (z : ℤ[ω]). mod_q (set_of c.args.p.parameters).q (z +ω z +ω packed c.args.message.now c.loop-i.i)) (c.loop-i.invariant.old c.loop-i.i (omega arith)))

pub returns : goal.returns
returns c = stored_all c.args.p.parameters.n c.loop-i.invariant c.requires (omega arith)
