-- `add_rest` meets its contract. The loop's invariant: the sums are those of the runs so far.
use mathlib.Core.Path.{◌≡◌, ◌∙◌, ap, subst}
use Prim.Native.Nat.{ℕ, ◌+◌, ◌-◌}
use native.Mathlib.Omega.{arith}
use lib.ListN.{length, get_or, drop}
use lib.Seq.{get_or-take, get_or-drop}
use Rattle.class_products.specs.Steps.{Sums}
use Rattle.class_products.proofs.RunSums.{sums_one}
use Rattle.class_products.proofs.sums.add_rest.Goals as goal

pub loop-start-preserved : goal.loop-start-preserved
loop-start-preserved c =
    let rows = c.args.rows.now in
    let starts = c.args.starts.now in
    let i : ℕ = c.loop-start.start-index in
    let m : ℕ = c.args.done + i in
    let a : ℕ = c.from.result in
    let begins : a ≡ get_or starts m 0 = c.from.ensures ∙ get_or-take (length starts - c.args.done) (drop c.args.done starts) i 0 (omega arith) ∙ get_or-drop c.args.done starts i 0 in (
      c.add_run.ensures.long ∙ c.loop-start.invariant.0,
      subst (λ (k : ℕ). Sums rows starts k c.add_run.new.sums) (let e : m + 1 ≡ c.args.done + (i + 1) = omega arith in e)
          (sums_one rows starts m (λ k p. get_or-take (length rows - a) (drop a rows) k 0 (omega (arith, begins, c.requires.1.fits m (omega arith), c.loop-start.invariant.0)) ∙ get_or-drop a rows k 0 ∙ ap (λ (b : ℕ). get_or rows (b + k) 0) begins) c.loop-start.invariant.1 c.add_run.ensures),
    )
