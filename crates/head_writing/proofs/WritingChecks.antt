-- What the checks of writing a head leave, where all are passed: accepted parameters and room.
use mathlib.Core.Path.{◌≡◌, ◌∙◌, ap}
use mathlib.Core.Bool.{not}
use mathlib.Core.List.{List, [], ◌∷◌, ◌++◌}
use Prim.Native.Nat.{ℕ, ◌≤◌}
use borrow.Author.Tests.{ltb-false, le-ltb}
use lib.Dec.{T, ltb}
use lib.ListN.{length, drop}
use Rattle.refusals.specs.Outcomes.{Check, Outcome, outcome, ◌if◌, written, Gives, Passes}
use Rattle.refusals.proofs.Checks.{passed, holds_passed, none_left, passed_all, done_passed, done_holds, done_all}
use Rattle.parameters.specs.Sets.{ParameterSet, parameter_checks}
use Rattle.heads.specs.declared.kinds.Kind.{Kind}
use Rattle.heads.specs.Kinds.{known_kind, number_of_kind}
use Rattle.heads.specs.Heads.{head_length, head_bytes}
use Rattle.head_writing.specs.Calls.{head_writing_checks, writing_head}
use Rattle.heads.proofs.ArraysOfKinds.{kind_known}

abbrev pub from_parameters : ParameterSet → ℕ → List Check
from_parameters p room = parameter_checks p ++ (7 if ltb room head_length ∷ [])

-- a number that is a kind's passes the first check
pub kind_passed : {number : ℕ} (kind : Kind) → number_of_kind kind ≡ number → (p : ParameterSet) (old : List ℕ) → writing_head number p old ≡ outcome (from_parameters p (length old)) (head_bytes (number_of_kind kind) p ++ drop head_length old)
unfolding head_writing_checks writing_head
kind_passed kind e p old = rw (← e) (passed 19 _ _ (ap not (kind_known kind)))

pub room_passed : (p : ParameterSet) (room : ℕ) → Passes (from_parameters p room) → head_length ≤ room
room_passed p room e =
    ltb-false room head_length (done_passed 7 (ltb room head_length) _ _ _ (done_all (parameter_checks p) _ _ _ e).1).0

-- all checks passed leave a known kind, accepted parameters and room
pub writing_passed : (kind : ℕ) (p : ParameterSet) (room : ℕ) → Passes (head_writing_checks kind p room) → T (known_kind kind) × Passes (parameter_checks p) × (head_length ≤ room)
unfolding head_writing_checks
writing_passed kind p room e =
    let k19 = done_holds 19 (known_kind kind) _ _ _ e in
    (k19.0, (done_all (parameter_checks p) _ _ _ k19.1).0, room_passed p room k19.1)

-- and then the head is written
pub head_written : (kind : ℕ) (p : ParameterSet) (old : List ℕ) {n : ℕ} {new : List ℕ} → T (known_kind kind) → Passes (parameter_checks p) → head_length ≤ length old → Gives (writing_head kind p old) n old new → new ≡ head_bytes kind p ++ drop head_length old
unfolding head_writing_checks writing_head
head_written kind p old k e l g =
    g.1
    ∙ ap (λ (o : Outcome (List ℕ)). written o old)
    (holds_passed 19 (known_kind kind) _ _ k ∙ passed_all (parameter_checks p) _ _ e ∙ passed 7 [] _ (le-ltb (length old) head_length l) ∙ none_left _)
