-- `count_nonzero` meets its contract. The loop's invariant: how many of the coefficients so far are not zero.
use mathlib.Core.Path.{sym, ◌∙◌, ap, subst}
use Prim.Native.Nat.{ℕ, ◌+◌}
use native.Mathlib.Omega.{arith}
use Rattle.polynomials.specs.Polynomials.{count}
use Rattle.arrays.proofs.Scans.{Counted, counted_none, counted_more}
use Rattle.set_tests.proofs.scans.count_nonzero.Goals as goal
use Rattle.set_tests.proofs.scans.count_nonzero.Invariants.{test}

pub loop-i-init : goal.loop-i-init
loop-i-init c = counted_none (test c.args.x.now)

pub loop-i-preserved : goal.loop-i-preserved
loop-i-preserved c =
    let t = test c.args.x.now in
    subst (λ (k : ℕ). Counted t (c.loop-i.i + 1) (c.loop-i.found + k)) (sym c.from-found.ensures) (counted_more t c.loop-i.invariant c.nonzero_at.ensures)

pub returns : goal.returns
returns c = c.loop-i.invariant.is ∙ ap (λ (k : ℕ). count k (test c.args.x.now)) (omega arith)
