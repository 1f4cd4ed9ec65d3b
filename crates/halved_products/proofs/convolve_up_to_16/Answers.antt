-- `convolve_up_to_16` meets its contract.
use mathlib.Core.Path.{◌≡◌, sym, ◌∙◌, ap}
use mathlib.Core.Bool.{Bool, cond}
use mathlib.Core.List.{List, ◌++◌}
use borrow.Author.Rules.{rules}
use lib.Dec.{leb}
use lib.IntN.{ℤ}
use lib.ListN.{length}
use mir.Syntax.{w32}
use Rattle.refusals.proofs.Errors.{passed_on}
use Rattle.refusals.specs.Outcomes.{Check, Outcome, done, outcome}
use Rattle.refusals.specs.Numbers.{answered as answer}
use Rattle.refusals.proofs.Checks.{done_with, refused_with}
use Rattle.eisenstein.specs.Values.{ℤ[ω]}
use Rattle.eisenstein.specs.Reduction.{mod_q}
use Rattle.eisenstein.proofs.Pairs.{pair_read}
use Rattle.parameters.specs.Sets.{ParameterSet, set_of, parameter_checks}
use Rattle.polynomials.specs.Polynomials.{coefficient, array, convolution}
use Rattle.convolution_refusals.specs.Checks.{convolving_checks}
use Rattle.halved_products.specs.Calls.{beginning, left}
use Rattle.halved_products.proofs.Operands.{convolving_passed, convolvable_handed}
use Rattle.halved_products.proofs.convolve_up_to_16.Goals as goal

module _ (p : ParameterSet) (x y out : List ℤ) where
  abbrev checks : List Check
  checks = parameter_checks p ++ convolving_checks p.N p.q x y (length out)

  abbrev value_of : ℤ[ω] → List ℤ
  value_of q = array p.N (λ i. mod_q q (convolution p.N (coefficient x) (coefficient y) i))

  -- what is left, by the outcome
  left_by : {o : Outcome Bool} → outcome checks (leb p.N 16) ≡ o → left o (value_of p.q) out ≡ left (beginning p x y (length out)) (value_of p.q) out
  unfolding beginning
  left_by e = sym (ap (λ (o : Outcome Bool). left o (value_of p.q) out) e)

pub convolve_few-requires : goal.convolve_few-requires
convolve_few-requires c =
    let p = set_of c.args.p in
    convolvable_handed p.N c.args.x.now c.args.y.now c.args.out.now (search rules) (search rules) (convolving_passed p c.args.x.now c.args.y.now c.args.out.now (sym c.convolving_refusal.ensures ∙ ap answer c.in_ok-convolving_refusal.was))

pub returns : goal.returns
unfolding beginning
returns c =
    let p = set_of c.args.p in
    let few = c.convolve_few.ensures in
    let o = done_with (checks p c.args.x.now c.args.y.now c.args.out.now) (leb p.N 16) (sym c.convolving_refusal.ensures ∙ ap answer c.in_ok-convolving_refusal.was) in (
      ap done few.0 ∙ sym o,
      few.1 ∙ ap (λ (q : ℤ[ω]). cond (leb p.N 16) (value_of p c.args.x.now c.args.y.now c.args.out.now q) c.args.out.now) (pair_read {w = w32} {a = c.args.p.c} {b = c.args.p.d} (search rules) (search rules)) ∙ left_by p c.args.x.now c.args.y.now c.args.out.now o,
    )

pub returns-in_err-convolving_refusal : goal.returns-in_err-convolving_refusal
unfolding beginning
returns-in_err-convolving_refusal c =
    let p = set_of c.args.p in
    let o = refused_with (checks p c.args.x.now c.args.y.now c.args.out.now) (leb p.N 16) _ (sym c.convolving_refusal.ensures ∙ ap answer c.in_err-convolving_refusal.was) in
    (passed_on _ _ c.from_residual.ensures.1 ∙ sym o, left_by p c.args.x.now c.args.y.now c.args.out.now o)
