-- `best` meets its contract.
use mathlib.Core.Path.{◌≡◌, sym, ◌∙◌, ap}
use mathlib.Core.Bool.{Bool, true, false, cond}
use Rattle.eisenstein.specs.Values.{value}
use Rattle.eisenstein.specs.Reduction.{better}
use Rattle.eisenstein.proofs.TieRule.{best-first, best_second}
use Rattle.remainders.proofs.Candidate.best.Goals as goal

pub returns-then-is_better_than : goal.returns-then-is_better_than
returns-then-is_better_than c =
    let e : better (value c.args.s.a c.args.s.b) (value c.args.self.a c.args.self.b) ≡ true = sym c.is_better_than.ensures ∙ c.if-is_better_than.true in
    (sym (best_second _ _ e), sym (ap (λ (t : Bool). cond t c.args.s.excess c.args.self.excess) e))

pub returns-else-is_better_than : goal.returns-else-is_better_than
returns-else-is_better_than c =
    let e : better (value c.args.s.a c.args.s.b) (value c.args.self.a c.args.self.b) ≡ false = sym c.is_better_than.ensures ∙ c.if-is_better_than.false in
    (sym (best-first _ _ e), sym (ap (λ (t : Bool). cond t c.args.s.excess c.args.self.excess) e))
