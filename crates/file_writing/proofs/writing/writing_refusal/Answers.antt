-- `writing_refusal` meets its contract: the lengths, then the arrays.
use mathlib.Core.Path.{sym, ◌∙◌}
use lib.ListN.{length}
use Rattle.heads.specs.Kinds.{number_of_kind}
use Rattle.parameters.specs.Sets.{set_of}
use Rattle.files.proofs.Passed.{lengths_passed, lengths_refused}
use Rattle.file_writing.proofs.writing.writing_refusal.Goals as goal

pub returns-then-not-lengths_right : goal.returns-then-not-lengths_right
returns-then-not-lengths_right c = sym (lengths_refused (number_of_kind c.args.kind) (set_of c.args.p.parameters) _ (length c.args.numbers.now) c.args.room _ (rw c.number.ensures at c.lengths_right.ensures) (c.if-not-lengths_right.true))

pub returns : goal.returns
returns c = c.sets_refusal.ensures ∙ sym (lengths_passed (number_of_kind c.args.kind) (set_of c.args.p.parameters) _ (length c.args.numbers.now) c.args.room _ (rw c.number.ensures at c.lengths_right.ensures) (c.if-not-lengths_right.false))
