-- `lay_rows` meets its contract.
use mathlib.Core.Path.{◌∙◌}
use lib.ListN.{length, get_or}
use Rattle.class_products.proofs.Laying.{rows_laid}
use Rattle.class_products.proofs.rows.lay_rows.Goals as goal

pub returns : goal.returns
returns c = let h = c.lay_twice.ensures in
    let g = c.lay_twice-2.ensures in
    let f = c.lay_twice-3.ensures in
    (f.long ∙ g.long ∙ h.long, rows_laid (length c.args.classes.now) (λ k. get_or c.args.classes.now k 0) h g f)
