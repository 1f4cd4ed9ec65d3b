-- `convolving_refusal` meets its contract: the parameter set's refusal comes first, and where there is none the operands' one follows.
use mathlib.Core.Path.{◌≡◌, sym, ◌∙◌, ap}
use borrow.Author.Rules.{rules}
use mir.Syntax.{w32}
use mir.Val.{to_z, of_z}
use Rattle.refusals.proofs.Errors.{passed_on}
use Rattle.refusals.specs.Outcomes.{outcome, Passes}
use Rattle.refusals.proofs.Checks.{passed_all, refused_first}
use Rattle.eisenstein.specs.Values.{ℤ[ω], value}
use Rattle.eisenstein.proofs.Pairs.{pair_read}
use Rattle.parameters.specs.Sets.{set_of, parameter_checks}
use Rattle.parameters.proofs.AcceptedParameters.{accepted_parameters, modulus_nonzero}
use Rattle.arrays.specs.Conditions.{Modulus}
use Rattle.arrays.proofs.Sizes.{modulus_handed}
use Rattle.convolution_refusals.specs.Checks.{convolving_checks}
use Rattle.convolution_refusals.proofs.convolving_refusal.Goals as goal

pub operand_refusal-requires : goal.operand_refusal-requires
operand_refusal-requires c =
    let accepted : Passes (parameter_checks (set_of c.args.p)) = sym c.in_ok-check.ensures in
    let modulus : let p = c.args.p in Modulus (value p.c p.d) = let p = set_of c.args.p in
    let a = accepted_parameters p accepted in
    record { in_range = a.q_small; not_zero = modulus_nonzero p a } in
    modulus_handed {w = w32} (search rules) (search rules) modulus

pub returns : goal.returns
returns c =
    let accepted : Passes (parameter_checks (set_of c.args.p)) = sym c.in_ok-check.ensures in
    let read_q : let p = c.args.p in value (to_z w32 (of_z w32 p.c)) (to_z w32 (of_z w32 p.d)) ≡ value p.c p.d = pair_read {w = w32} (search rules) (search rules) in
    c.operand_refusal.ensures
    ∙ ap (λ (q : ℤ[ω]). outcome (convolving_checks c.args.p.n q c.args.x.now c.args.y.now c.args.room) (tt {0})) read_q
    ∙ sym (passed_all (parameter_checks (set_of c.args.p)) _ tt accepted)

pub returns-in_err-check : goal.returns-in_err-check
returns-in_err-check c = passed_on _ _ c.from_residual.ensures.1 ∙ sym (refused_first _ _ tt _ (sym c.in_err-check.ensures))
