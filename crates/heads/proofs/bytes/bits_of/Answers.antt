-- `bits_of` meets its contract: the bits of a signed number are the machine's.
use Rattle.std.proofs.Common.{◌≡◌, sym, ◌∙◌, ap, of_z}
use mir.Syntax.{w16}
use mir.Facts.{to_z-of_z}
use Rattle.heads.specs.Heads.{bits16}
use Rattle.heads.proofs.Numbers.{bits_machine, bits_lt}
use Rattle.heads.proofs.bytes.bits_of.Goals as goal

pub returns : goal.returns
returns c =
    let e : c.from.result ≡ bits16 c.args.z = c.from.ensures ∙ c.cast_unsigned.ensures ∙ ap (of_z w16) (to_z-of_z c.ranges.z) ∙ sym (bits_machine c.args.z) in
    (e, rw e (bits_lt c.ranges.z))
