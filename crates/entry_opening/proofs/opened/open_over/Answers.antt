-- `open_over` meets its contract: it leaves what opening to two lent arrays leaves.
use mathlib.Core.Path.{◌≡◌}
use borrow.Author.Rules.{rules}
use lib.ListN.{length}
use mir.Syntax.{w32}
use mir.Val.{to_z, of_z}
use Rattle.eisenstein.specs.Values.{value}
use Rattle.eisenstein.proofs.Pairs.{pair_read}
use Rattle.parameters.specs.Sets.{set_of}
use Rattle.etru.proofs.Passed.{opening_passed}
use Rattle.unsealing.proofs.OpenedMessages.{opened_message}
use Rattle.entry_opening.proofs.opened.open_over.Goals as goal
use Rattle.entry_opening.proofs.opened.open_over.Goals.{Start}

-- the modulus as it is handed on
same_modulus : (s : Start) → value (to_z w32 (of_z w32 s.args.p.c)) (to_z w32 (of_z w32 s.args.p.d)) ≡ (set_of s.args.p).q
same_modulus s = pair_read {w = w32} (search rules) (search rules)

pub returns : goal.returns
returns c = let P = set_of c.args.p in
    let e_full = (opening_passed P c.args.f.now c.args.f2.now c.args.e.now (length c.args.message.now) c.requires.passes).e_ready.long in
    opened_message P c.args.f.now c.args.f2.now c.args.e.now c.args.message.now c.requires.passes
    c.args.product.now c.args.e.now c.requires.product_len e_full (same_modulus (goal.at.returns c).Start)
    c.multiply_units_modulo_q.ensures c.multiply_units_modulo_2.ensures c.unpack.ensures
