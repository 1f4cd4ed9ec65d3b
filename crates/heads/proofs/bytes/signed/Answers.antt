-- `signed` meets its contract: the number of 16 bits is the machine's.
use Rattle.std.proofs.Common.{◌≡◌, ◌<◌, ◌≤◌, ℤ, pos, negsuc, nat_abs, sym, ◌∙◌, ap, arith, to_z}
use lib.Signed.{mag}
use mir.Syntax.{w16}
use mir.Facts.{to_z-of_z}
use Rattle.heads.specs.Heads.{number16, signed16}
use Rattle.heads.proofs.Handed.{read_32}
use Rattle.heads.proofs.Numbers.{signed_machine}
use Rattle.heads.proofs.bytes.signed.Goals as goal

small : (z : ℤ) → mag z < 32768 → nat_abs z ≤ 32768
small (pos n) h = omega arith
small (negsuc n) h = omega arith

pub returns : goal.returns
unfolding number16
returns c =
    let z : ℤ = c.from_be_bytes.result in
    let handed : c.from.result ≡ z = c.from.ensures ∙ to_z-of_z {w = w16} (record { sfits = c.from_be_bytes.type_inv }) in
    let read : z ≡ signed16 (number16 c.args.high c.args.low) = c.from_be_bytes.ensures ∙ ap (to_z w16) (omega arith) ∙ sym (signed_machine _) in
    let in_32 = read_32 z (small z c.from_be_bytes.type_inv) in
    rw (handed, in_32) (read, small z c.from_be_bytes.type_inv)
