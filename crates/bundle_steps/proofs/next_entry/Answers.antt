-- `next_entry` meets its contract.
use mathlib.Core.Path.{◌≡◌, sym, ◌∙◌}
use mathlib.Core.Bool.{true, false}
use native.Mathlib.Omega.{arith}
use Rattle.heads.specs.Heads.{head_of}
use Rattle.bundles.specs.Bundles.{stop_in, stored_at}
use Rattle.bundles.specs.Steps.{stands_at}
use Rattle.bundles.proofs.Lengths.{entry_length_lem}
use Rattle.bundles.proofs.Steps.{ends_within, next_past}
use Rattle.bundle_steps.proofs.next_entry.Goals as goal

pub returns-then-not-stands_at : goal.returns-then-not-stands_at
unfolding stored_at stop_in
returns-then-not-stands_at c =
    let none : stands_at c.args.bytes.now c.args.at.now ≡ false = sym c.stands_at.ensures ∙ c.if-not-stands_at.true in
    record { value = (sym none, sym (next_past _ _ none)); stop_after = simp none; part_after = simp none }

pub overflow_add-part : goal.overflow_add-part
unfolding stored_at stop_in
overflow_add-part c =
    let standing : stands_at c.args.bytes.now c.args.at.now ≡ true = sym c.stands_at.ensures ∙ c.if-not-stands_at.false in
    omega (arith, ends_within _ _ standing, entry_length_lem (head_of c.args.bytes.now).N)

pub returns : goal.returns
unfolding stored_at stop_in
returns c =
    let standing : stands_at c.args.bytes.now c.args.at.now ≡ true = sym c.stands_at.ensures ∙ c.if-not-stands_at.false in
    record { value = (sym standing, c.next_at-next.ensures); stop_after = simp standing c.stop_in-number.ensures.0; part_after = simp standing }
