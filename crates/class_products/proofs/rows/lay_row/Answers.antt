-- `lay_row` meets its contract. The loop's invariant: the row is laid out as far as it was walked.
use mathlib.Core.Path.{◌≡◌, ◌∙◌, ap}
use mathlib.Core.List.{List, []}
use Prim.Native.Nat.{ℕ}
use native.Mathlib.Omega.{arith}
use lib.ListN.{get_or}
use Rattle.classes.specs.Classes.{product, products}
use Rattle.class_products.proofs.Laying.{laid_next}
use Rattle.class_products.proofs.rows.lay_row.Goals as goal

-- an entry of the table is a product
entry : (table : List (List ℕ)) (i j : ℕ) → table ≡ products → get_or (get_or table i []) j 0 ≡ product i j
unfolding product
entry table i j e = ap (λ (t : List (List ℕ)). get_or (get_or t i []) j 0) e

pub loop-k-preserved : goal.loop-k-preserved
loop-k-preserved c =
    laid_next c.loop-k.invariant (omega (arith, c.requires.classes_bound, c.loop-k.invariant.long)) (entry c.products-table.result c.args.c c.from-column.result c.products-table.ensures ∙ ap (product c.args.c) c.from-column.ensures)
