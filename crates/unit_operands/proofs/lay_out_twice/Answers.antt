-- `lay_out_twice` meets its contract.
use mathlib.Core.Path.{◌≡◌, sym, ◌∙◌}
use mathlib.Core.Bool.{true}
use mathlib.Core.List.{◌++◌}
use lib.ListN.{length}
use Rattle.unit_operands.specs.Operands.{repeatable}
use Rattle.unit_operands.proofs.Operands.{formed}
use Rattle.unit_operands.proofs.Repeated.{joined_twice, repeatable_facts}
use Rattle.unit_operands.proofs.lay_out_twice.Goals as goal
use Rattle.unit_operands.proofs.lay_out_twice.Goals.{Else-not-repeatable}

can : (c : Else-not-repeatable) → repeatable c.args.y.now (length c.args.twice.now) ≡ true
can c = sym c.repeatable.ensures ∙ c.if-not-repeatable.false

pub lay_out-requires : goal.lay_out-requires
lay_out-requires c = let f = repeatable_facts c.args.y.now (length c.args.twice.now) (can (goal.at.lay_out-requires c).Else-not-repeatable) in
    record { y_len_bound = (f.0, f.1); small = f.2 }

pub returns : goal.returns
returns c = formed (c.args.y.now ++ c.args.y.now) c.args.twice.now (can (goal.at.returns c).Else-not-repeatable) (joined_twice c.args.y.now c.lay_out.new.twice c.lay_out.ensures)
