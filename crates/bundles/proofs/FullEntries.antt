-- Entries whose arrays are full and reduced, by their places, and that writing refuses none of them.
use mathlib.Core.Path.{◌≡◌, sym, ◌∙◌, ap}
use mathlib.Core.List.{List, [], ◌∷◌}
use Prim.Native.Nat.{ℕ, zero, suc, ◌*◌, ◌<◌}
use native.Mathlib.Omega.{arith}
use lib.Dec.{T}
use lib.ListN.{length, length-map}
use mir.Facts.{yes_and, yes_eqb}
use Rattle.refusals.specs.Outcomes.{done, outcome, Passes}
use Rattle.refusals.proofs.Checks.{holds_passed, done_holds, none_left, passed_all, done_with}
use Rattle.parameters.specs.Sets.{ParameterSet, parameter_checks}
use Rattle.polynomials.specs.Polynomials.{coefficient, reduced_q}
use Rattle.bundles.specs.Bundles.{Entry, stops_of, array_of, numbers_of, entry_start, bundle_of}
use Rattle.bundles.specs.Calls.{right_length, arrays_checks, entries_checks, entries_given, right_given, writing_checks, writing_bundle}
use Rattle.bundles.proofs.Lengths.{Right, is_right}
use Rattle.bundles.proofs.GivenEntries.{Full, numbers_count, given_again}

pub each_full : (N : ℕ) (es : List Entry) → ((k : ℕ) → k < length es → length (array_of es k) ≡ 2 * N) → Full N es
each_full N [] h = tt
each_full N (e ∷ es) h = (h 0 (omega arith), each_full N es (λ k l. h (suc k) (omega arith)))

module _ (p : ParameterSet) where
  abbrev Reduced : List Entry → ℕ → Type 0
  Reduced es k = T (reduced_q p.N p.q (coefficient (array_of es k)))

  pub each_reduced : (es : List Entry) → ((k : ℕ) → k < length es → Reduced es k) → Passes (arrays_checks p es)
  unfolding arrays_checks
  each_reduced [] h = none_left tt
  each_reduced (e ∷ es) h = holds_passed 12 (reduced_q p.N p.q (coefficient e.array)) _ tt (h 0 (omega arith)) ∙ each_reduced es (λ k l. h (suc k) (omega arith))

  pub is_reduced : (es : List Entry) → Passes (arrays_checks p es) → (k : ℕ) → k < length es → Reduced es k
  unfolding arrays_checks
  is_reduced [] c k l = absurd (omega arith)
  is_reduced (e ∷ es) c zero l = (done_holds 12 (reduced_q p.N p.q (coefficient e.array)) _ _ _ c).0
  is_reduced (e ∷ es) c (suc k) l = is_reduced es (done_holds 12 (reduced_q p.N p.q (coefficient e.array)) _ _ _ c).1 k (omega arith)

  -- entries as they are handed over to be written
  module _ (es : List Entry) (full : Full p.N es) where
    stops_count : length (stops_of es) ≡ length es
    stops_count = length-map es (λ (e : Entry). e.stop)

    numbers_right : length (numbers_of es) ≡ 2 * p.N * length (stops_of es)
    numbers_right = numbers_count p.N es full ∙ ap (λ (k : ℕ). 2 * p.N * k) (sym stops_count)

    pub full-written : (room : ℕ) → Passes (parameter_checks p) → Right p.N (length es) room → Passes (entries_checks p es) → writing_bundle p (stops_of es) (numbers_of es) room ≡ done (bundle_of p es)
    unfolding writing_bundle writing_checks
    full-written room accepted right-room entries =
        let again = given_again p.N es full in
        let right-stops : Right p.N (length (stops_of es)) room = record { is = right-room.is ∙ ap (entry_start p.N) (sym stops_count); short = right-room.short } in
        passed_all (parameter_checks p) _ _ accepted
        ∙ holds_passed 7 (right_given p.N (length (stops_of es)) (length (numbers_of es)) room) _ _ (yes_and (right_length p.N (length (stops_of es)) room) _ (is_right p.N (length (stops_of es)) room right-stops) (yes_eqb numbers_right))
        ∙ done_with (entries_checks p (entries_given p.N (stops_of es) (numbers_of es))) _ (ap (λ (l : List Entry). outcome (entries_checks p l) (tt {0})) again ∙ entries)
        ∙ ap (λ (l : List Entry). done (bundle_of p l)) again
