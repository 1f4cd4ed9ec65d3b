-- `equally_many` meets its contract.
use mathlib.Core.Path.{sym, ◌∙◌, ap, ap₂}
use mathlib.Core.Bool.{Bool, ◌&&◌}
use borrow.Author.Tests.{eq-eqb, ne_eqb}
use lib.Dec.{eqb}
use Rattle.polynomials.specs.Polynomials.{coefficient, unit_count, equally_many}
use Rattle.set_tests.proofs.scans.equally_many.Goals as goal
use Rattle.set_tests.proofs.scans.equally_many.Goals.{Start}

-- the second comparison
abbrev rest : Start → Bool
rest s = let x = coefficient s.args.x.now in eqb (unit_count s.args.n x s.args.k) (unit_count s.args.n x s.args.l)

pub returns-then-count_unit-found : goal.returns-then-count_unit-found
unfolding equally_many
returns-then-count_unit-found c = ap₂ eqb c.count_unit-found.ensures c.count_unit-then-count_unit-found.ensures
    ∙ sym (ap (λ (t : Bool). t && rest (goal.at.returns-then-count_unit-found c).Start) (eq-eqb _ _ (sym c.count_unit.ensures ∙ c.if-count_unit-found.true ∙ c.count_unit-found.ensures)))

pub returns-else-count_unit-found : goal.returns-else-count_unit-found
unfolding equally_many
returns-else-count_unit-found c = ne_eqb _ _ c.if-count_unit-found.false ∙ sym (ap (λ (t : Bool). t && rest (goal.at.returns-else-count_unit-found c).Start) (ne_eqb _ _ (λ e. c.if-count_unit-found.false (c.count_unit.ensures ∙ e ∙ sym c.count_unit-found.ensures))))
