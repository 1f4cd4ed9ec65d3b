-- `stop_at` meets its contract.
use Rattle.std.specs.Prelude.{Some}
use mathlib.Core.Path.{sym, ◌∙◌, ap}
use Rattle.bundles.proofs.Steps.{stop_here, stop_past}
use Rattle.bundle_steps.proofs.stop_at.Goals as goal

pub returns-then-not-stands_at : goal.returns-then-not-stands_at
returns-then-not-stands_at c = sym (stop_past _ _ (sym c.stands_at.ensures ∙ c.if-not-stands_at.true))

pub returns : goal.returns
returns c = ap Some c.stop_in.ensures.0 ∙ sym (stop_here _ _ (sym c.stands_at.ensures ∙ c.if-not-stands_at.false))
