-- No refusal has the number 0, and each has at most two digits. So an answer's number tells its outcome.
-- The first two are computed for every variant in the enum's own list of them, so no variant is named here.
use Prim.Native.Nat.{◌<◌}
use mathlib.Core.Path.{◌≡◌, sym, ◌∙◌, ap, subst}
use mathlib.Core.Bool.{Bool, true, false, ◌&&◌}
use mathlib.Core.List.{List, [], ◌∷◌}
use mathlib.Core.Logic.{inl, inr}
use denote.Struct.Field.{Field}
use denote.Enum.Declared.{Choice}
use lib.Dec.{T, ltb}
use mir.Facts.{and_yes, ltb_yes}
use Rattle.std.specs.Prelude.{Result, Ok, Err}
use Rattle.refusals.specs.Outcomes.{Check, Outcome, refused, outcome, number}
use Rattle.refusals.specs.Numbers.{number_of, answered}
use Rattle.refusals.specs.declared.Refusal.{Refusal}
use Rattle.refusals.proofs.Checks.{positive, done_by_number, refused_by_number}
use Rattle.refusals.specs.contracts.Refusal as variants

-- A test holds of every variant, where none has fields.
abbrev every : (parts : List (List Field)) → (Choice parts → Bool) → Bool
every [] test = true
every ([] ∷ parts) test = test (inl tt) && every parts (λ c. test (inr c))
every ((field ∷ fields) ∷ parts) test = false

each : (parts : List (List Field)) (test : Choice parts → Bool) → T (every parts test) → (c : Choice parts) → T (test c)
each [] test all c = absurd c
each ([] ∷ parts) test all (inl tt) = (and_yes (test (inl tt)) (every parts (λ c. test (inr c))) all).0
each ([] ∷ parts) test all (inr c) = each parts (λ c. test (inr c)) (and_yes (test (inl tt)) (every parts (λ c. test (inr c))) all).1 c
each ((field ∷ fields) ∷ parts) test all c = absurd all

abbrev in_range : Refusal → Bool
in_range r = ltb 0 (number_of r) && ltb (number_of r) 100

in_range_lem : (r : Refusal) → T (in_range r)
in_range_lem r = subst (λ (r : Refusal). T (in_range r)) (variants.the_eta r) (each variants.the_parts (λ c. in_range (variants.the_make c)) tt (variants.as_values r))

pub number_positive : (r : Refusal) → 0 < number_of r
number_positive r = ltb_yes (and_yes (ltb 0 (number_of r)) (ltb (number_of r) 100) (in_range_lem r)).0

pub two_digits : (r : Refusal) → number_of r < 100
two_digits r = ltb_yes (and_yes (ltb 0 (number_of r)) (ltb (number_of r) 100) (in_range_lem r)).1

-- ---- an outcome from the number of an answer

pub answer_by_number : (a : Result (Unit {0}) Refusal) (cs : List Check) → T (positive cs) → number (answered a) ≡ number (outcome cs (tt {0})) → answered a ≡ outcome cs (tt {0})
answer_by_number (Ok a) cs t e = sym (done_by_number cs a t (sym e))
answer_by_number (Err r) cs t e = sym (refused_by_number (outcome cs (tt {0})) (number_of r) (number_positive r) (sym e))

pub answer_refused : {A B : Type 0} (o : Outcome A) (answer : Result B Refusal) (r : Refusal) → number (answered answer) ≡ number o → answer ≡ Err r → o ≡ refused (number_of r)
answer_refused {B = B} o answer r e a = refused_by_number o (number_of r) (number_positive r) (sym e ∙ ap (λ (x : Result B Refusal). number (answered x)) a)
