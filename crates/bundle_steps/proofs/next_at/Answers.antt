-- `next_at` meets its contract.
use mathlib.Core.Path.{◌≡◌, sym, ◌∙◌, ap}
use mathlib.Core.Bool.{true}
use Prim.Native.Nat.{ℕ, ◌+◌}
use native.Mathlib.Omega.{arith}
use Rattle.heads.specs.Heads.{head_of}
use Rattle.bundles.specs.Bundles.{entry_length}
use Rattle.bundles.specs.Steps.{stands_at}
use Rattle.bundles.proofs.Steps.{ends_within, next_here, next_past}
use Rattle.bundle_steps.proofs.next_at.Goals as goal

pub returns-then-not-stands_at : goal.returns-then-not-stands_at
returns-then-not-stands_at c = sym (next_past _ _ (sym c.stands_at.ensures ∙ c.if-not-stands_at.true))

pub overflow_add-result : goal.overflow_add-result
overflow_add-result c =
    let standing : stands_at c.args.bytes.now c.args.at ≡ true = sym c.stands_at.ensures ∙ c.if-not-stands_at.false in
    let long : c.entry_length.result ≡ entry_length (head_of c.args.bytes.now).N = c.entry_length.ensures ∙ ap entry_length c.coefficient_count.ensures.0 in
    omega (arith, long, ends_within _ _ standing)

pub returns : goal.returns
returns c =
    let standing : stands_at c.args.bytes.now c.args.at ≡ true = sym c.stands_at.ensures ∙ c.if-not-stands_at.false in
    let long : c.entry_length.result ≡ entry_length (head_of c.args.bytes.now).N = c.entry_length.ensures ∙ ap entry_length c.coefficient_count.ensures.0 in
    ap (λ (l : ℕ). c.args.at + l) long ∙ sym (next_here _ _ standing)
