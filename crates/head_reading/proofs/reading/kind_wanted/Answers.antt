-- `kind_wanted` meets its contract: a number is known where it is found to be a kind's.
use Rattle.std.proofs.Common.{◌≡◌, sym, ◌∙◌, true}
use Rattle.heads.specs.Kinds.{known_kind}
use Rattle.heads.proofs.ArraysOfKinds.{kind_found}
use Rattle.head_reading.proofs.reading.kind_wanted.Goals as goal

pub returns-then-is_ok : goal.returns-then-is_ok
returns-then-is_ok c =
    let known : known_kind c.args.kind ≡ true = sym (kind_found c.args.kind c.try_from.result c.try_from.ensures) ∙ sym c.is_ok.ensures.value ∙ c.if-is_ok.true in
    rw (known, c.from.ensures)
