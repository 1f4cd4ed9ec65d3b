-- What opening an entry gives: the refusals of its part, then what its array gives.
use mathlib.Core.Path.{◌≡◌, refl, sym, ◌∙◌, ap, subst}
use mathlib.Core.Bool.{not, ◌&&◌}
use mathlib.Core.List.{List, [], ◌∷◌}
use mathlib.Core.Logic.{◌≢◌}
use Prim.Native.Nat.{ℕ, ◌*◌, ◌<◌}
use native.Mathlib.Omega.{arith}
use borrow.Author.Tests.{ne_eqb}
use lib.Dec.{T, eqb}
use lib.IntN.{ℤ}
use lib.ListN.{length}
use mir.Facts.{yes_eqb}
use Rattle.integers.proofs.Tests.{equal_4}
use Rattle.refusals.specs.Outcomes.{Outcome, done, refused, outcome, first, Passes, ◌if◌}
use Rattle.refusals.proofs.Checks.{holds_passed, fails_refused, none_left, done_all, passed_all, refused_first, same_first}
use Rattle.parameters.specs.Sets.{ParameterSet, parameter_checks}
use Rattle.polynomials.specs.Polynomials.{coefficient, units_only, reduced_q, reduced2}
use Rattle.arrays.specs.Arrays.{full}
use Rattle.packing.specs.Messages.{message_bytes}
use Rattle.etru.specs.Calls.{opening, opening_checks}
use Rattle.heads.specs.Heads.{head_of}
use Rattle.files.specs.Files.{numbers_from}
use Rattle.files.proofs.Lists.{numbers_length}
use Rattle.bundles.specs.Bundles.{entry_start, count_of, entries_of}
use Rattle.bundles.specs.Calls.{count_checks, bundle_checks}
use Rattle.bundles.specs.Steps.{part_at}
use Rattle.bundles.proofs.Entries.{entries_count}
use Rattle.bundles.proofs.EntryChecks.{entries_parts}
use Rattle.bundles.proofs.Counted.{Counted, counted, part_long, array_of_part}
use Rattle.bundles.proofs.FullEntries.{is_reduced}
use Rattle.entry_opening.specs.Calls.{part_checks, opening_entry}
use Rattle.entry_opening.specs.Promises.{OpensAsItsArray, EntriesNotRefused}

module _ (p : ParameterSet) (f F2 : List ℤ) (part : List ℕ) (room : ℕ) where
  -- the outcome of the part's own checks decides first
  after : {o : Outcome (Unit {0})} → outcome (part_checks p (length part)) (tt {0}) ≡ o → opening_entry p f F2 part room ≡ first o (opening p f F2 (numbers_from part) room)
  unfolding opening_entry
  after e = ap (λ (o : Outcome (Unit {0})). first o (opening p f F2 (numbers_from part) room)) e

  pub parameters_refused : {n : ℕ} → outcome (parameter_checks p) (tt {0}) ≡ refused n → opening_entry p f F2 part room ≡ refused n
  parameters_refused {n} e = after (refused_first (parameter_checks p) _ tt n e)

  pub length_refused : Passes (parameter_checks p) → length part ≢ 4 * p.N → opening_entry p f F2 part room ≡ refused 7
  length_refused e n = after (passed_all (parameter_checks p) _ tt e ∙ fails_refused 7 _ _ tt (ne_eqb (length part) (4 * p.N) n))

pub opens_as_its_array : OpensAsItsArray
unfolding opening
opens_as_its_array p f F2 part room long = go (outcome (parameter_checks p) (tt {0})) refl
  where
    go : (o : Outcome (Unit {0})) → outcome (parameter_checks p) (tt {0}) ≡ o → opening_entry p f F2 part room ≡ opening p f F2 (numbers_from part) room
    go (done _) e = after p f F2 part room (passed_all (parameter_checks p) _ tt e ∙ holds_passed 7 (eqb (length part) (4 * p.N)) [] tt (yes_eqb long) ∙ none_left tt)
    go (refused n) e = parameters_refused p f F2 part room e ∙ sym (refused_first (parameter_checks p) (opening_checks p f F2 (numbers_from part) room) _ n e)

-- an entry of a bundle that is accepted
module _ (file : List ℕ) (k : ℕ) (made : Passes (bundle_checks file)) (within : k < count_of file) where
  abbrev P : ParameterSet
  P = head_of file

  abbrev numbers : List ℤ
  numbers = numbers_from (part_at file (entry_start P.N k))

  at_place : Counted file
  unfolding bundle_checks
  at_place = counted file (done_all (count_checks file) _ _ _ made).0

  numbers_full : length numbers ≡ 2 * P.N
  numbers_full = numbers_length (part_at file (entry_start P.N k)) ∙ omega (arith, part_long file at_place k within)

  numbers_reduced : T (reduced_q P.N P.q (coefficient numbers))
  unfolding bundle_checks
  numbers_reduced =
      let arrays = (entries_parts P (entries_of file) (done_all (count_checks file) _ _ _ made).1).1 in
      subst (λ (x : List ℤ). T (reduced_q P.N P.q (coefficient x))) (array_of_part file at_place k within)
      (is_reduced P (entries_of file) arrays k (subst (λ (n : ℕ). k < n) (sym (entries_count file)) within))

pub entries_not_refused : EntriesNotRefused
unfolding opening opening_checks
entries_not_refused file k f F2 made within f_full F2_full =
    let p = head_of file in
    let part = part_at file (entry_start p.N k) in
    let c = at_place file k made within in
    opens_as_its_array p f F2 part (message_bytes p.N) (part_long file c k within)
    ∙ passed_all (parameter_checks p) _ _ c.accepted
    ∙ holds_passed 7 (eqb (message_bytes p.N) (message_bytes p.N) && (full p.N (length f) && (full p.N (length F2) && full p.N (length (numbers_from part))))) _ _
    (equal_4 {a = message_bytes p.N} refl f_full F2_full (numbers_full file k made within))
    ∙ same_first (8 if not (units_only p.N p.t (coefficient f)) ∷ 11 if not (reduced2 p.N (coefficient F2)) ∷ []) _ [] _ _
    (λ _. holds_passed 12 (reduced_q p.N p.q (coefficient (numbers_from part))) [] _ (numbers_reduced file k made within))
