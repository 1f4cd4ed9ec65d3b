-- `copy_numbers` meets its contract. The loop's invariant: the first k numbers are those of x.
use mathlib.Core.Path.{◌≡◌, sym, ◌∙◌}
use native.Mathlib.Omega.{arith}
use borrow.Author.Rules.{rules}
use lib.IntN.{pos}
use lib.ListN.{length}
use lib.Seq.{ext_get_or}
use mir.Syntax.{w32}
use mir.Facts.{to_z-of_z}
use Rattle.arrays.proofs.Changing.{set_next}
use Rattle.convolution.proofs.wrapping.copy_numbers.Goals as goal

pub loop-k-preserved : goal.loop-k-preserved
loop-k-preserved c = set_next (pos 0) c.loop-k.invariant (omega arith) (to_z-of_z {w = w32} (search rules))

pub returns : goal.returns
returns c =
    let long : length c.loop-k.out ≡ length c.args.x.now = c.loop-k.invariant.long ∙ sym c.requires in
    ext_get_or (pos 0) c.loop-k.out c.args.x.now long (λ i h. c.loop-k.invariant.new i (omega arith))
