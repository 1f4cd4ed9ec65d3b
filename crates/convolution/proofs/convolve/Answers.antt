-- `convolve` meets its contract.
use mir.Syntax.{w32}
use mathlib.Core.Path.{◌≡◌, sym, ◌∙◌, ap}
use mathlib.Core.Bool.{Bool, cond}
use mathlib.Core.List.{List, ◌++◌}
use Prim.Native.Nat.{ℕ, ◌<◌}
use borrow.Author.Rules.{rules}
use lib.Dec.{leb}
use lib.IntN.{ℤ}
use lib.ListN.{length}
use Rattle.refusals.proofs.Errors.{passed_on}
use Rattle.refusals.specs.Outcomes.{Check, Outcome, Passes, done, refused, outcome, number, written}
use borrow.Author.Tests.{leb-false}
use native.Mathlib.Omega.{arith}
use Rattle.refusals.proofs.Checks.{gives_done, carried, carried_refused, outcome_carried, done_parts}
use Rattle.eisenstein.specs.Values.{ℤ[ω]}
use Rattle.eisenstein.specs.Reduction.{mod_q}
use Rattle.eisenstein.proofs.Pairs.{pair_read}
use Rattle.parameters.specs.Sets.{ParameterSet, set_of, parameter_checks}
use Rattle.polynomials.specs.Polynomials.{coefficient, array, convolution}
use Rattle.convolution_refusals.specs.Checks.{convolving_checks}
use Rattle.convolution.specs.Calls.{convolving}
use Rattle.halved_products.specs.Calls.{beginning, left}
use Rattle.halved_products.proofs.Operands.{convolving_passed, convolvable_handed}
use Rattle.convolution.proofs.Copies.{convolvable_to}
use Rattle.convolution.proofs.convolve.Goals as goal
use Rattle.convolution.proofs.convolve.Goals.{Start}

abbrev P : Start → ParameterSet
P s = set_of s.args.p

abbrev checks : Start → List Check
checks s = parameter_checks (P s) ++ convolving_checks (P s).N (P s).q s.args.x.now s.args.y.now (length s.args.out.now)

abbrev value_of : Start → ℤ[ω] → List ℤ
value_of s q = array (P s).N (λ i. mod_q q (convolution (P s).N (coefficient s.args.x.now) (coefficient s.args.y.now) i))

-- a refusal is that of every value
refused_any : {A B : Type 0} (cs : List Check) (a : A) (b : B) (n : ℕ) → outcome cs a ≡ refused n → outcome cs b ≡ refused n
refused_any {A} {B} cs a b n e = outcome_carried (λ (_ : A). b) cs a ∙ ap (carried (λ (_ : A). b)) e ∙ carried_refused (λ (_ : A). b) n

pub convolve-requires : goal.convolve-requires
unfolding convolving beginning
convolve-requires c =
    let s = (goal.at.convolve-requires c).Start in
    let all_passed : Passes (checks s) × (leb (P s).N 16 ≡ c.in_ok-formed.formed) = done_parts (checks s) (leb (P s).N 16) c.in_ok-formed.formed (sym c.in_ok-formed.ensures.0) in
    let above : 16 < c.args.p.n = leb-false (P s).N 16 (all_passed.1 ∙ c.if-not-formed.true) in
    let o = c.convolve_up_to_16 in
    (omega arith, convolvable_handed (P s).N c.args.x.now c.args.y.now o.new.out (search rules) (search rules) (convolvable_to o.new.out o.auto.out (convolving_passed (P s) c.args.x.now c.args.y.now c.args.out.now all_passed.0)))

pub returns-then-not-formed : goal.returns-then-not-formed
unfolding convolving beginning
returns-then-not-formed c =
    let s = (goal.at.returns-then-not-formed c).Start in
    let all_passed : Passes (checks s) × (leb (P s).N 16 ≡ c.in_ok-formed.formed) = done_parts (checks s) (leb (P s).N 16) c.in_ok-formed.formed (sym c.in_ok-formed.ensures.0) in
    gives_done (checks s) (value_of s (P s).q) c.args.out.now _ all_passed.0
    (c.convolve.ensures ∙ ap (λ (q : ℤ[ω]). value_of s q) (pair_read {w = w32} (search rules) (search rules)))

pub returns-else-not-formed : goal.returns-else-not-formed
unfolding convolving beginning
returns-else-not-formed c =
    let s = (goal.at.returns-else-not-formed c).Start in
    let v = value_of s (P s).q in
    let told : outcome (checks s) (leb (P s).N 16) ≡ done c.in_ok-formed.formed = sym c.in_ok-formed.ensures.0 in
    let all_passed : Passes (checks s) × (leb (P s).N 16 ≡ c.in_ok-formed.formed) = done_parts (checks s) (leb (P s).N 16) c.in_ok-formed.formed told in
    gives_done (checks s) v c.args.out.now _ all_passed.0
    (c.convolve_up_to_16.ensures.1 ∙ ap (λ (x : Outcome Bool). left x v c.args.out.now) told ∙ ap (λ (t : Bool). cond t v c.args.out.now) c.if-not-formed.false)

pub returns-in_err-formed : goal.returns-in_err-formed
unfolding convolving beginning
returns-in_err-formed c = let v = value_of (goal.at.returns-in_err-formed c).Start (P (goal.at.returns-in_err-formed c).Start).q in
    let e = sym c.in_err-formed.ensures.0 in
    let o = refused_any (checks (goal.at.returns-in_err-formed c).Start) (leb (P (goal.at.returns-in_err-formed c).Start).N 16) v _ e in
    (ap number (passed_on _ _ c.from_residual.ensures.1) ∙ sym (ap number o), c.convolve_up_to_16.ensures.1 ∙ ap (λ (x : Outcome Bool). left x v c.args.out.now) e ∙ sym (ap (λ (x : Outcome (List ℤ)). written x c.args.out.now) o))
