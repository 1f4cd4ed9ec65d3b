-- `lay_twice` meets its contract: the row stands again after itself.
use mathlib.Core.Path.{◌∙◌, ap}
use Prim.Native.Nat.{ℕ, ◌+◌, ◌-◌}
use native.Mathlib.Omega.{arith}
use lib.ListN.{length, get_or}
use Rattle.class_products.proofs.Laying.{laid_twice}
use Rattle.class_products.proofs.rows.lay_twice.Goals as goal

pub returns : goal.returns
returns c =
    let n : ℕ = length c.args.classes.now in
    let start : ℕ = c.args.start in
    let copied = c.copy_within.ensures in
    laid_twice c.lay_row.ensures (record {
      long = copied.len;
      inside = λ k p. copied.by_index.0 (start + n + k) 0 (omega arith) (omega arith) ∙ ap (λ (i : ℕ). get_or c.lay_row.new.rows i 0) {x = start + (start + n + k - (start + n))} {y = start + k} (omega arith);
      before = λ i p. copied.by_index.1 i 0 p;
      after = λ i p. copied.by_index.2 i 0 (omega arith);
    })
