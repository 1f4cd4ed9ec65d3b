-- `open_with` meets its contract.
use mathlib.Core.Path.{◌≡◌}
use borrow.Author.Rules.{rules}
use mir.Syntax.{w32}
use mir.Val.{to_z, of_z}
use Rattle.eisenstein.specs.Values.{value}
use Rattle.eisenstein.proofs.Pairs.{pair_read}
use Rattle.parameters.specs.Sets.{set_of}
use Rattle.unsealing.proofs.OpenedMessages.{opened_message}
use Rattle.unsealing.proofs.opened.open_with.Goals as goal
use Rattle.unsealing.proofs.opened.open_with.Goals.{Start}

-- the modulus as it is handed on
same_modulus : (s : Start) → value (to_z w32 (of_z w32 s.args.p.c)) (to_z w32 (of_z w32 s.args.p.d)) ≡ (set_of s.args.p).q
same_modulus s = pair_read {w = w32} (search rules) (search rules)

pub returns : goal.returns
returns c = opened_message (set_of c.args.p) c.args.f.now c.args.f2.now c.args.e.now c.args.message.now c.requires.passes
    c.args.product.now c.args.m.now c.requires.product_len.0 c.requires.product_len.1 (same_modulus (goal.at.returns c).Start)
    c.multiply_units_modulo_q.ensures c.multiply_units_modulo_2.ensures c.unpack.ensures
