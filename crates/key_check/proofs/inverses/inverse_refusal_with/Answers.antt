-- `inverse_refusal_with` meets its contract.
use mir.Syntax.{w32}
use mathlib.Core.Path.{◌≡◌, sym, ◌∙◌, ap}
use mathlib.Core.Bool.{Bool, not}
use mathlib.Core.List.{List, [], ◌∷◌}
use borrow.Author.Rules.{rules}
use lib.ListN.{length}
use Rattle.refusals.specs.Outcomes.{Check, ◌if◌, outcome}
use Rattle.refusals.proofs.Checks.{call_passed, call_refused, none_left}
use Rattle.eisenstein.specs.Reduction.{mod_q, mod2}
use Rattle.eisenstein.proofs.Pairs.{pair_read}
use Rattle.parameters.specs.Sets.{ParameterSet, set_of}
use Rattle.parameters.proofs.AcceptedParameters.{Accepted, accepted_parameters}
use Rattle.polynomials.specs.Polynomials.{Polynomial, coefficient, array, convolution, one, congruent_q, congruent2}
use Rattle.polynomials.proofs.Arrays.{array_length}
use Rattle.arrays.proofs.Sizes.{units-all, reduced2-small}
use Rattle.etru.proofs.Passed.{Ready, Units, remainders}
use Rattle.etru.proofs.Products.{product-formed, formed_modulo_q}
use Rattle.key_check.proofs.Ones.{is_one_modulo_2, is_one_modulo_q}
use Rattle.key_check.proofs.inverses.inverse_refusal_with.Goals as goal
use Rattle.key_check.proofs.inverses.inverse_refusal_with.Goals.{Start}

abbrev P : Start → ParameterSet
P s = set_of s.args.p

abbrev by_F2 : Start → Polynomial
by_F2 s = convolution (P s).N (coefficient s.args.f.now) (coefficient s.args.f2.now)

abbrev by_Fq : Start → Polynomial
by_Fq s = convolution (P s).N (coefficient s.args.f.now) (coefficient s.args.fq.now)

abbrev test_13 : Start → Bool
test_13 s = congruent2 (P s).N (by_F2 s) one

abbrev test_14 : Start → Bool
test_14 s = congruent_q (P s).N (P s).q (by_Fq s) one

abbrev from_14 : Start → List Check
from_14 s = 14 if not (test_14 s) ∷ []

-- what the products may count on
accepted : (s : Start) → Accepted (P s)
accepted s = accepted_parameters (P s) s.requires.0.accepted

f_units : (s : Start) → Units (P s).N s.args.f.now
f_units s = record { long = s.requires.0.f_full; units = units-all (P s).N (P s).t (coefficient s.args.f.now) s.requires.0.f_units }

F2_ready : (s : Start) → Ready (P s).N s.args.f2.now
F2_ready s = record { long = s.requires.0.F2_full; small = reduced2-small (P s).N s.args.f2.now s.requires.0.F2_full s.requires.0.F2_reduced }

pub returns-then-not-is_one : goal.returns-then-not-is_one
returns-then-not-is_one c =
    let modulo_2_is : c.multiply_units_modulo_2.new.out ≡ array (P (goal.at.returns-then-not-is_one c).Start).N (λ i. mod2 (by_F2 (goal.at.returns-then-not-is_one c).Start i)) = let s = (goal.at.returns-then-not-is_one c).Start in
    product-formed (P s) (accepted s) s.args.product.now (f_units s) (F2_ready s) s.requires.1 _ c.multiply_units_modulo_2.ensures in
    let tested_13 : c.is_one.result ≡ test_13 (goal.at.returns-then-not-is_one c).Start = c.is_one.ensures ∙ is_one_modulo_2 (P (goal.at.returns-then-not-is_one c).Start).N (by_F2 (goal.at.returns-then-not-is_one c).Start) _ modulo_2_is in
    sym (call_refused 13 _ tt tested_13 (ap not c.if-not-is_one.true))

pub returns-then-not-is_one-2 : goal.returns-then-not-is_one-2
returns-then-not-is_one-2 c =
    let modulo_2_is : c.multiply_units_modulo_2.new.out ≡ array (P (goal.at.returns-then-not-is_one-2 c).Start).N (λ i. mod2 (by_F2 (goal.at.returns-then-not-is_one-2 c).Start i)) = let s = (goal.at.returns-then-not-is_one-2 c).Start in
    product-formed (P s) (accepted s) s.args.product.now (f_units s) (F2_ready s) s.requires.1 _ c.multiply_units_modulo_2.ensures in
    let modulo_q_is : c.multiply_units_modulo_q.new.out ≡ array (P ((goal.at.returns-then-not-is_one-2 c).Start)).N (λ i. mod_q (P ((goal.at.returns-then-not-is_one-2 c).Start)).q (by_Fq ((goal.at.returns-then-not-is_one-2 c).Start) i)) = let s = (goal.at.returns-then-not-is_one-2 c).Start in
    formed_modulo_q (P s) (accepted s) c.multiply_units_modulo_2.new.out (f_units s) (remainders (P s) (accepted s) s.args.fq.now s.requires.0.Fq_full s.requires.0.Fq_reduced) (ap length modulo_2_is ∙ array_length (P s).N _) (pair_read {w = w32} (search rules) (search rules)) c.multiply_units_modulo_q.ensures in
    let tested_14 : c.is_one-2.result ≡ test_14 ((goal.at.returns-then-not-is_one-2 c).Start) = c.is_one-2.ensures ∙ is_one_modulo_q (P ((goal.at.returns-then-not-is_one-2 c).Start)) (accepted ((goal.at.returns-then-not-is_one-2 c).Start)) (by_Fq ((goal.at.returns-then-not-is_one-2 c).Start)) _ modulo_q_is in
    let tested_13 : c.is_one.result ≡ test_13 (goal.at.returns-then-not-is_one-2 c).Start = c.is_one.ensures ∙ is_one_modulo_2 (P (goal.at.returns-then-not-is_one-2 c).Start).N (by_F2 (goal.at.returns-then-not-is_one-2 c).Start) _ modulo_2_is in
    let after_13 : let s = (goal.at.returns-then-not-is_one-2 c).Start in outcome (13 if not (test_13 s) ∷ from_14 s) (tt {0}) ≡ outcome (from_14 s) (tt {0}) = call_passed 13 _ tt tested_13 (ap not c.if-not-is_one.false) in
    sym (after_13 ∙ call_refused 14 _ tt tested_14 (ap not c.if-not-is_one-2.true))

pub returns : goal.returns
returns c =
    let modulo_2_is : c.multiply_units_modulo_2.new.out ≡ array (P (goal.at.returns c).Start).N (λ i. mod2 (by_F2 (goal.at.returns c).Start i)) = let s = (goal.at.returns c).Start in
    product-formed (P s) (accepted s) s.args.product.now (f_units s) (F2_ready s) s.requires.1 _ c.multiply_units_modulo_2.ensures in
    let modulo_q_is : c.multiply_units_modulo_q.new.out ≡ array (P ((goal.at.returns c).Start)).N (λ i. mod_q (P ((goal.at.returns c).Start)).q (by_Fq ((goal.at.returns c).Start) i)) = let s = (goal.at.returns c).Start in
    formed_modulo_q (P s) (accepted s) c.multiply_units_modulo_2.new.out (f_units s) (remainders (P s) (accepted s) s.args.fq.now s.requires.0.Fq_full s.requires.0.Fq_reduced) (ap length modulo_2_is ∙ array_length (P s).N _) (pair_read {w = w32} (search rules) (search rules)) c.multiply_units_modulo_q.ensures in
    let tested_14 : c.is_one-2.result ≡ test_14 ((goal.at.returns c).Start) = c.is_one-2.ensures ∙ is_one_modulo_q (P ((goal.at.returns c).Start)) (accepted ((goal.at.returns c).Start)) (by_Fq ((goal.at.returns c).Start)) _ modulo_q_is in
    let tested_13 : c.is_one.result ≡ test_13 (goal.at.returns c).Start = c.is_one.ensures ∙ is_one_modulo_2 (P (goal.at.returns c).Start).N (by_F2 (goal.at.returns c).Start) _ modulo_2_is in
    let after_13 : let s = (goal.at.returns c).Start in outcome (13 if not (test_13 s) ∷ from_14 s) (tt {0}) ≡ outcome (from_14 s) (tt {0}) = call_passed 13 _ tt tested_13 (ap not c.if-not-is_one.false) in
    sym (after_13 ∙ call_passed 14 _ tt tested_14 (ap not c.if-not-is_one-2.false) ∙ none_left tt)
