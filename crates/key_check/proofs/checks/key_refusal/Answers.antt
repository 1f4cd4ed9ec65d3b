-- `key_refusal` meets its contract: the checks before the inverses, then those of the inverses.
use mathlib.Core.Path.{◌≡◌, sym, ◌∙◌}
use mathlib.Core.List.{List, ◌++◌}
use Rattle.refusals.proofs.Errors.{passed_on}
use Rattle.refusals.specs.Outcomes.{Check, outcome, Passes}
use Rattle.refusals.proofs.Checks.{passed_all, refused_first}
use Rattle.parameters.specs.Sets.{ParameterSet, set_of, parameter_checks}
use Rattle.etru.specs.Calls.{key_array_checks, inverse_checks, key_checks}
use Rattle.etru.proofs.Passed.{key_arrays_passed, key_checks_apart}
use Rattle.key_check.proofs.checks.key_refusal.Goals as goal
use Rattle.key_check.proofs.checks.key_refusal.Goals.{Start}

abbrev P : Start → ParameterSet
P s = set_of s.args.p

abbrev first : Start → List Check
first s = parameter_checks (P s) ++ key_array_checks (P s) s.args.f.now s.args.f2.now s.args.fq.now s.args.g.now s.args.room

abbrev last : Start → List Check
last s = inverse_checks (P s) s.args.f.now s.args.f2.now s.args.fq.now

apart : (s : Start) → outcome (first s ++ last s) (tt {0}) ≡ outcome (parameter_checks (P s) ++ key_checks (P s) s.args.f.now s.args.f2.now s.args.fq.now s.args.g.now s.args.room) (tt {0})
apart s = key_checks_apart (P s) s.args.f.now s.args.f2.now s.args.fq.now s.args.g.now s.args.room

pub inverse_refusal-requires : goal.inverse_refusal-requires
inverse_refusal-requires c =
    let first_passed : Passes (first (goal.at.inverse_refusal-requires c).Start) = sym c.in_ok-key_array_refusal.ensures in
    let k = key_arrays_passed (P (goal.at.inverse_refusal-requires c).Start) c.args.f.now c.args.f2.now c.args.fq.now c.args.g.now c.args.room first_passed in
    record {
      accepted = k.passes;
      f_full = k.f_full;
      F2_full = k.F2_full;
      Fq_full = k.Fq_full;
      f_units = k.f_units;
      F2_reduced = k.F2_reduced;
      Fq_reduced = k.Fq_reduced;
    }

pub returns : goal.returns
returns c =
    let first_passed : Passes (first (goal.at.returns c).Start) = sym c.in_ok-key_array_refusal.ensures in
    c.inverse_refusal.ensures ∙ sym (passed_all (first (goal.at.returns c).Start) (last (goal.at.returns c).Start) tt first_passed) ∙ apart (goal.at.returns c).Start

pub returns-in_err-key_array_refusal : goal.returns-in_err-key_array_refusal
returns-in_err-key_array_refusal c = passed_on _ _ c.from_residual.ensures.1 ∙ sym (refused_first (first (goal.at.returns-in_err-key_array_refusal c).Start) (last (goal.at.returns-in_err-key_array_refusal c).Start) tt _ (sym c.in_err-key_array_refusal.ensures)) ∙ apart (goal.at.returns-in_err-key_array_refusal c).Start
