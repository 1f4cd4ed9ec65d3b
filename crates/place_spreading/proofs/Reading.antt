-- The records of a list that is laid out as numbers, one by one, and what is asked of the list before they are read.
use mathlib.Core.Path.{◌≡◌, refl, sym, ◌∙◌, ap}
use mathlib.Core.Bool.{Bool, true, false, not}
use mathlib.Core.List.{List, [], ◌∷◌, ◌++◌}
use Prim.Native.Nat.{ℕ, zero, suc, ◌+◌, ◌*◌, ◌≤◌, ◌<◌}
use native.Mathlib.Omega.{arith}
use borrow.Author.Tests.{ltb-false}
use lib.Dec.{eqb, ltb, eqb→eq}
use lib.ListN.{length, get_or, take, replicate}
use lib.Seq.{length-take-le}
use Rattle.refusals.specs.Outcomes.{Check, ◌if◌, Outcome, done, refused, outcome}
use Rattle.refusals.proofs.Checks.{refused_first, passed_all, done_all, done_passed, done_holds, fails_refused, never_done}
use Rattle.parameters.specs.Sets.{ParameterSet, parameter_checks}
use Rattle.parameters.proofs.AcceptedParameters.{accepted_parameters}
use Rattle.placed_units.specs.declared.PlacedUnit.{PlacedUnit}
use Rattle.placed_units.specs.Layout.{record_at, records_from}
use Rattle.placed_units.proofs.Layouts.{records_length}
use Rattle.placed_ephemerals.specs.Calls.{not_all_there}

-- what stands for a record past the end, which nothing reads
abbrev pub no_record : PlacedUnit
no_record = record { place = 0; unit = 0 }

pub read_from : (numbers : List ℕ) (i k j m : ℕ) → j < k → i + j ≡ m → get_or (records_from numbers i k) j no_record ≡ record_at numbers m
unfolding records_from
read_from numbers i zero j m h e = absurd (omega arith)
read_from numbers i (suc k) zero m h e = ap (record_at numbers) (omega arith)
read_from numbers i (suc k) (suc j) m h e = read_from numbers (suc i) k j m (omega arith) (omega arith)

-- the part of the room that holds them
pub room_part : (count : ℕ) → count ≤ 1024 → length (take count (replicate 1024 no_record)) ≡ count
room_part count h = length-take-le count (replicate 1024 no_record) h

-- ---- what is asked before they are read

module _ (p : ParameterSet) (numbers : List ℕ) (count : ℕ) where
  abbrev asked : List Check
  asked = not_all_there (length numbers) count ∷ 7 if not (eqb count p.s) ∷ []

  pub are_there : done (tt {0}) ≡ outcome (parameter_checks p ++ asked) (tt {0}) → (2 * count ≤ length numbers) × (count ≤ 1024)
  are_there e =
      let c = done_all (parameter_checks p) asked (tt {0}) _ (sym e) in
      let there = done_passed 7 (ltb (length numbers) (2 * count)) _ _ _ c.1 in
      let a = accepted_parameters p c.0 in
      (ltb-false (length numbers) (2 * count) there.0, omega (arith, eqb→eq count p.s (done_holds 7 (eqb count p.s) [] _ _ there.1).0, a.s_small, a.N_small))

  -- a refusal is that of the call, whatever else its 7 asks, and whatever it asks later
  pub not_there : {n : ℕ} (other : Bool → Bool) → other false ≡ false → (later : List Check) → refused n ≡ outcome (parameter_checks p ++ asked) (tt {0})
      → outcome (parameter_checks p ++ not_all_there (length numbers) count ∷ 7 if not (other (eqb (length (records_from numbers 0 count)) p.s)) ∷ later) (tt {0}) ≡ refused n
  unfolding outcome
  not_there {n} other both later e = from (outcome (parameter_checks p) (tt {0})) refl
    where
      wanted : List Check
      wanted = not_all_there (length numbers) count ∷ 7 if not (other (eqb (length (records_from numbers 0 count)) p.s)) ∷ later

      go : (t u : Bool) → refused n ≡ outcome (7 if t ∷ 7 if not u ∷ []) (tt {0}) → outcome (7 if t ∷ 7 if not (other u) ∷ later) (tt {0}) ≡ refused n
      go true u e = sym e
      go false true e = absurd (never_done n (tt {0}) e)
      go false false e = fails_refused 7 (other false) later (tt {0}) both ∙ sym e

      from : (o : Outcome (Unit {0})) → outcome (parameter_checks p) (tt {0}) ≡ o → outcome (parameter_checks p ++ wanted) (tt {0}) ≡ refused n
      from (done _) h =
          passed_all (parameter_checks p) wanted (tt {0}) h
          ∙ go (ltb (length numbers) (2 * count)) (eqb (length (records_from numbers 0 count)) p.s)
          (e ∙ passed_all (parameter_checks p) asked (tt {0}) h ∙ ap (λ (k : ℕ). outcome (not_all_there (length numbers) count ∷ 7 if not (eqb k p.s) ∷ []) (tt {0})) (sym (records_length numbers 0 count)))
      from (refused m) h = refused_first (parameter_checks p) wanted (tt {0}) m h ∙ sym (refused_first (parameter_checks p) asked (tt {0}) m h) ∙ sym e
