-- One array's check inside a longer list, where the parameter set is accepted and the array is full: the refusal of its set alone.
use mathlib.Core.Path.{◌≡◌, refl, sym, ◌∙◌, ap}
use mathlib.Core.Bool.{Bool, not}
use mathlib.Core.List.{List, [], ◌∷◌, ◌++◌, append_assoc}
use Prim.Native.Nat.{ℕ, ◌*◌}
use lib.Dec.{T}
use lib.IntN.{ℤ}
use lib.ListN.{length}
use mir.Facts.{yes_eqb}
use Rattle.refusals.specs.Outcomes.{Check, ◌if◌, Outcome, done, refused, outcome, first, Passes}
use Rattle.refusals.proofs.Checks.{holds_passed, done_all, done_holds, passed_all, refused_first, and_checks}
use Rattle.parameters.specs.Sets.{ParameterSet, parameter_checks}
use Rattle.arrays.specs.Arrays.{full}
use Rattle.array_sets.specs.Sets.{in_set, not_in_set, array_checks, array_check}
use Rattle.array_sets.specs.declared.ArraySet.{ArraySet}

-- the check of array x
abbrev pub own : ParameterSet → ArraySet → List ℤ → Check
own p a x = not_in_set a if not (in_set p a x)

module _ (p : ParameterSet) (a : ArraySet) (x : List ℤ) (accepted : Passes (parameter_checks p)) (long : length x ≡ 2 * p.N) where
  pub own_check : array_check p a x ≡ outcome (own p a x ∷ []) (tt {0})
  unfolding array_check array_checks
  own_check =
      passed_all (parameter_checks p) _ tt accepted ∙ holds_passed 7 (full p.N (length x)) _ tt (yes_eqb long)

-- ---- the checks of a call, test by test: its parameter set, 7 for all lengths, then its arrays

module _ (p : ParameterSet) (t : Bool) where
  abbrev pub from_7 : List Check → List Check
  from_7 cs = parameter_checks p ++ (7 if not t ∷ cs)

  pub and_lengths : {b : Bool} → b ≡ t → {o r : Outcome (Unit {0})} → o ≡ outcome (parameter_checks p) tt → r ≡ outcome (7 if not b ∷ []) tt → first o r ≡ outcome (from_7 []) tt
  and_lengths e o r = and_checks (parameter_checks p) (7 if not t ∷ []) tt o (r ∙ ap (λ (b : Bool). outcome (7 if not b ∷ []) (tt {0})) e)

  -- an array whose length was asked by 7
  pub and_array : (a : ArraySet) (x : List ℤ) → (T t → length x ≡ 2 * p.N) → (cs : List Check) {o r : Outcome (Unit {0})} → o ≡ outcome (from_7 cs) tt → r ≡ array_check p a x → first o r ≡ outcome (from_7 (cs ++ (own p a x ∷ []))) tt
  and_array a x long cs {o} {r} e f = go (outcome (from_7 cs) tt) refl
    where
      rest : List Check
      rest = own p a x ∷ []

      before : (u : Outcome (Unit {0})) → outcome (from_7 cs) tt ≡ u → first o r ≡ first u r
      before u h = ap (λ (z : Outcome (Unit {0})). first z r) (e ∙ h)

      listed : outcome (from_7 cs ++ rest) (tt {0}) ≡ outcome (from_7 (cs ++ rest)) tt
      listed = ap (λ (l : List Check). outcome l (tt {0})) (append_assoc (parameter_checks p) (7 if not t ∷ cs) rest)

      go : (u : Outcome (Unit {0})) → outcome (from_7 cs) tt ≡ u → first o r ≡ outcome (from_7 (cs ++ rest)) tt
      go (done v) h =
          let passed = done_all (parameter_checks p) (7 if not t ∷ cs) tt v h in
          before (done v) h ∙ f ∙ own_check p a x passed.0 (long (done_holds 7 t cs tt v passed.1).0) ∙ sym (passed_all (from_7 cs) rest tt h) ∙ listed
      go (refused n) h = before (refused n) h ∙ sym (refused_first (from_7 cs) rest tt n h) ∙ listed

  -- a check of another kind
  pub and_check : (c : Check) (cs : List Check) {o r : Outcome (Unit {0})} → o ≡ outcome (from_7 cs) tt → r ≡ outcome (c ∷ []) tt → first o r ≡ outcome (from_7 (cs ++ (c ∷ []))) tt
  and_check c cs e f =
      and_checks (from_7 cs) (c ∷ []) tt e f ∙ ap (λ (l : List Check). outcome l (tt {0})) (append_assoc (parameter_checks p) (7 if not t ∷ cs) (c ∷ []))

  -- a refusal that comes early, whatever would be asked after it
  pub stops_before_7 : (cs : List Check) {o : Outcome (Unit {0})} {n : ℕ} → o ≡ refused n → refused n ≡ outcome (parameter_checks p) (tt {0}) → o ≡ outcome (from_7 cs) (tt {0})
  stops_before_7 cs {n = n} e f = e ∙ sym (refused_first (parameter_checks p) (7 if not t ∷ cs) tt n (sym f))

  pub stops : (cs ds : List Check) {o : Outcome (Unit {0})} {n : ℕ} → o ≡ refused n → refused n ≡ outcome (from_7 cs) (tt {0}) → o ≡ outcome (from_7 (cs ++ ds)) (tt {0})
  stops cs ds {n = n} e f =
      e ∙ sym (refused_first (from_7 cs) ds tt n (sym f)) ∙ ap (λ (l : List Check). outcome l (tt {0})) (append_assoc (parameter_checks p) (7 if not t ∷ cs) ds)
