-- `Refusal::when` meets its contract.
use mathlib.Core.Path.{sym, ◌∙◌}
use mathlib.Core.List.{[]}
use Rattle.refusals.specs.Numbers.{number_of}
use Rattle.refusals.proofs.Checks.{passed, refused_by, none_left}
use Rattle.refusals.proofs.Refusal.when.Goals as goal

pub returns-then-applies : goal.returns-then-applies
returns-then-applies c = sym (refused_by (number_of c.args.self) [] tt c.if-applies.true)

pub returns : goal.returns
returns c = sym (passed (number_of c.args.self) [] tt c.if-applies.false ∙ none_left tt)
