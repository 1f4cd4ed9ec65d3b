-- `combine` meets its contract.
use mathlib.Core.Path.{sym}
use Prim.Native.Nat.{◌+◌}
use native.Mathlib.Omega.{arith}
use Rattle.halved_products.proofs.Putting.{given_both, read_old, combined_next}
use Rattle.halved_products.proofs.halves.combine.Goals as goal

pub op-requires : goal.op-requires
op-requires g c =
    let k = c.loop-k.k in
    let v = c.loop-k.invariant in
    let a = c.index-x-to in
    let b = c.index-x-from in
    given_both (goal.F-pre g c.args.op)
    (sym (read_old v a.result (c.args.to + k) a.result (λ j p. omega arith) (omega (arith, v.long)) a.is))
    (sym (read_old v a.result (c.args.from + k) b.result (λ j p e. c.requires.apart j k (omega arith) (omega arith) (sym e)) (omega (arith, v.long)) b.is))
    (c.requires.callable a.result k (omega arith))

pub loop-k-preserved : goal.loop-k-preserved
loop-k-preserved g c =
    let k = c.loop-k.k in
    let v = c.loop-k.invariant in
    let a = c.index-x-to in
    let b = c.index-x-from in
    combined_next v (omega (arith, v.long)) (λ d.
    given_both (λ x y. goal.F-post g c.args.op x y c.op.result)
    (read_old v d (c.args.to + k) a.result (λ j p. omega arith) (omega (arith, v.long)) a.is)
    (read_old v d (c.args.from + k) b.result (λ j p e. c.requires.apart j k (omega arith) (omega arith) (sym e)) (omega (arith, v.long)) b.is)
    c.op.ensures)
