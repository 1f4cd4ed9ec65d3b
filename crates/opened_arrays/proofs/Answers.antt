-- What a call gives that opens to a message.
use Rattle.std.specs.Prelude.{Err, Result}
use mathlib.Core.Path.{◌≡◌, refl, ◌∙◌, ap}
use mathlib.Core.List.{List, ◌++◌}
use Prim.Native.Nat.{ℕ}
use lib.IntN.{ℤ}
use Rattle.refusals.specs.Outcomes.{Outcome, done, refused, number, written}
use Rattle.refusals.specs.Numbers.{number_of, answered}
use Rattle.refusals.specs.declared.Refusal.{Refusal}
use Rattle.refusals.proofs.Checks.{done_as_written}
use Rattle.parameters.specs.Sets.{ParameterSet, parameter_checks}
use Rattle.etru.specs.Calls.{opening_checks, opening}
use Rattle.opened_arrays.specs.Answers.{length_of, over, GivesMessage}

-- by an outcome that is equal to its own
pub gives_as : {o o' : Outcome (List ℕ)} {r : (Result ℕ Refusal)} {old new : List ℕ} → o ≡ o' → GivesMessage o r old new → GivesMessage o' r old new
gives_as {old = old} e g = record {
  answer = g.answer ∙ ap length_of e;
  left = g.left ∙ ap (λ (x : Outcome (List ℕ)). over x old) e;
}

pub gives_refusal : {o : Outcome (List ℕ)} {r : Refusal} {old : List ℕ} → refused (number_of r) ≡ o → GivesMessage o (Err r) old old
gives_refusal e = gives_as e (record { answer = refl; left = refl })

-- of a result that is this refusal
pub gives_err : {o : Outcome (List ℕ)} {r : Result ℕ Refusal} {e : Refusal} {old : List ℕ} → r ≡ Err e → refused (number_of e) ≡ o → GivesMessage o r old old
gives_err {r = r} h f = gives_as f (record { answer = ap answered h; left = refl })

-- what opening wrote, where its number is 0
pub opening_done : (p : ParameterSet) (f F2 e : List ℤ) (room : ℕ) (old new : List ℕ) → number (opening p f F2 e room) ≡ 0 → new ≡ written (opening p f F2 e room) old → opening p f F2 e room ≡ done new
unfolding opening opening_checks parameter_checks
opening_done p f F2 e room old new z w = done_as_written (parameter_checks p ++ opening_checks p f F2 e room) _ old new tt z w
