-- `open_pair` meets its contract: the parameters, then what the key check answered.
use Rattle.refusals.proofs.Errors.{err_is}
use Rattle.std.specs.Prelude.{Result}
use Rattle.refusals.specs.declared.Refusal.{Refusal}
use mathlib.Core.Path.{◌≡◌, sym, ◌∙◌, ap, ap₂}
use mathlib.Core.Bool.{not}
use mathlib.Core.List.{List, [], ◌∷◌}
use Prim.Native.Nat.{ℕ}
use Rattle.refusals.specs.Outcomes.{Outcome, done, outcome, first, ◌if◌}
use Rattle.refusals.specs.Numbers.{answered}
use Rattle.refusals.proofs.Checks.{call_passed, call_refused, none_left}
use Rattle.parameters.specs.Sets.{set_of}
use Rattle.parameter_comparison.specs.Comparison.{same_set}
use Rattle.opened_arrays.specs.Openings.{opening_arrays}
use Rattle.opened_arrays.proofs.Answers.{gives_as, gives_refusal, gives_err}
use Rattle.opened_arrays.proofs.open_pair.Goals as goal

pub returns-then-not-same_parameters : goal.returns-then-not-same_parameters
returns-then-not-same_parameters c =
    let opened : Outcome (List ℕ) = opening_arrays (set_of c.args.p) c.args.numbers.now in
    let with_key : Result (Unit {0}) Refusal → Outcome (List ℕ) = λ key. first (answered key) opened in
    gives_refusal (sym (ap (λ (x : Outcome (Unit {0})). first x (with_key c.args.key)) (call_refused 20 [] (tt {0}) c.same_parameters.ensures (ap not c.if-not-same_parameters.true))))

pub returns : goal.returns
returns c =
    let opened : Outcome (List ℕ) = opening_arrays (set_of c.args.p) c.args.numbers.now in
    let with_key : Result (Unit {0}) Refusal → Outcome (List ℕ) = λ key. first (answered key) opened in
    let passed_20 : outcome (20 if not (same_set (set_of c.args.p) (set_of c.args.sealed)) ∷ []) (tt {0}) ≡ done (tt {0}) = call_passed 20 [] (tt {0}) c.same_parameters.ensures (ap not c.if-not-same_parameters.false) ∙ none_left (tt {0}) in
    gives_as (sym (ap₂ first passed_20 (ap with_key c.in_ok-key.was))) c.open_arrays.ensures

pub returns-in_err-key : goal.returns-in_err-key
returns-in_err-key c =
    let opened : Outcome (List ℕ) = opening_arrays (set_of c.args.p) c.args.numbers.now in
    let with_key : Result (Unit {0}) Refusal → Outcome (List ℕ) = λ key. first (answered key) opened in
    let passed_20 : outcome (20 if not (same_set (set_of c.args.p) (set_of c.args.sealed)) ∷ []) (tt {0}) ≡ done (tt {0}) = call_passed 20 [] (tt {0}) c.same_parameters.ensures (ap not c.if-not-same_parameters.false) ∙ none_left (tt {0}) in
    gives_err (err_is _ _ c.from_residual.ensures.1) (sym (ap₂ first passed_20 (ap with_key c.in_err-key.was)))
