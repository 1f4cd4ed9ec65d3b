-- `stands_at` meets its contract.
use mathlib.Core.Path.{◌≡◌, refl, sym, ◌∙◌, ap}
use mathlib.Core.Bool.{Bool, true, false}
use Prim.Native.Nat.{ℕ, ◌+◌, ◌-◌, ◌≤◌}
use native.Mathlib.Omega.{arith}
use borrow.Author.Tests.{le-leb, lt-leb, leb-true, leb-false}
use lib.Dec.{leb}
use lib.ListN.{length}
use Rattle.heads.specs.Heads.{head_of}
use Rattle.bundles.specs.Bundles.{entry_length}
use Rattle.bundles.specs.Steps.{stands_at}
use Rattle.bundles.proofs.Steps.{stands_not}
use Rattle.bundle_steps.proofs.stands_at.Goals as goal

-- whether what is left behind a place is as long, as a test of the place where that ends
left : (at long all : ℕ) → at ≤ all → (t : Bool) → leb (at + long) all ≡ t → leb long (all - at) ≡ t
left at long all h true e = le-leb long (all - at) (omega (arith, leb-true (at + long) all e))
left at long all h false e = lt-leb long (all - at) (omega (arith, leb-false (at + long) all e))

pub returns-then-at-bytes : goal.returns-then-at-bytes
unfolding stands_at
returns-then-at-bytes c = ap (λ (long : ℕ). leb long (length c.args.bytes.now - c.args.at)) (c.entry_length.ensures ∙ ap entry_length c.coefficient_count.ensures.0)
    ∙ left c.args.at (entry_length (head_of c.args.bytes.now).N) (length c.args.bytes.now) c.if-at-bytes.true _ refl

pub returns-else-at-bytes : goal.returns-else-at-bytes
returns-else-at-bytes c = lt-leb _ _ c.if-at-bytes.false ∙ sym (stands_not c.args.bytes.now c.args.at (omega arith))
