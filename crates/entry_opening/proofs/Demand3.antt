-- Demand 3 of bundles: it is that of sealing and opening an array, entry by entry.
use Rattle.std.specs.Prelude.{Some}
use mathlib.Core.Path.{◌≡◌, refl, sym, ◌∙◌, ap, subst}
use mathlib.Core.Bool.{false, ◌&&◌}
use mathlib.Core.List.{List, [], ◌++◌}
use Prim.Native.Nat.{ℕ, ◌*◌, ◌≤◌, ◌<◌}
use lib.Dec.{T, eqb}
use lib.IntN.{ℤ}
use lib.ListN.{length, get_or, length-map}
use Rattle.refusals.specs.Outcomes.{Outcome, done, outcome, Passes}
use Rattle.refusals.proofs.Checks.{passed, done_holds, done_parts, done_all}
use Rattle.parameters.specs.Sets.{ParameterSet, parameter_checks}
use Rattle.parameters.proofs.AcceptedParameters.{Accepted}
use Rattle.polynomials.specs.Polynomials.{coefficient, units_only, reduced_q, reduced2}
use Rattle.arrays.specs.Arrays.{full}
use Rattle.packing.specs.Messages.{message_bytes}
use Rattle.etru.specs.Calls.{opening_checks, opening}
use Rattle.etru.specs.Demand3.{AcceptedKey}
use Rattle.etru.proofs.Passed.{opening_passed}
use Rattle.etru.proofs.Demand3.{accepted_key, all_opens}
use Rattle.heads.specs.Heads.{head_of}
use Rattle.heads.proofs.PartsFit.{PartsFit, parts_fit}
use Rattle.files.specs.Files.{numbers_from}
use Rattle.stop_sets.specs.Stops.{any_twice}
use Rattle.bundles.specs.Bundles.{longest_bundle, Entry, stops_of, array_of, numbers_of, entry_start, bundle_of, count_of, entries_of}
use Rattle.bundles.specs.Calls.{arrays_checks, entries_checks, writing_checks, writing_bundle}
use Rattle.bundles.specs.Steps.{stop_at, part_at}
use Rattle.bundles.proofs.Entries.{stop_is}
use Rattle.bundles.proofs.Steps.{stop_here}
use Rattle.bundles.proofs.Counted.{Counted, counted, entry_stands, part_long, array_of_part}
use Rattle.bundles.proofs.StoredEntries.{FittingEntries}
use Rattle.bundles.proofs.GivenEntries.{Full, given_again, fitting_entries}
use Rattle.bundles.proofs.FullEntries.{each_full, each_reduced, full-written}
use Rattle.bundles.proofs.RoundTrips.{bundle_head, bundle_count, bundle_entries, count_passes, bundle_passes, writing_passed}
use Rattle.entry_opening.specs.Calls.{opening_entry}
use Rattle.entry_opening.specs.Demand3.{Sealed, SealedEntries, OpensEntries, Demand3}
use Rattle.entry_opening.proofs.Promises.{opens_as_its_array}

-- an array that opens is full, and reduced modulo q
module _ (p : ParameterSet) (f F2 e : List ℤ) (room : ℕ) (message : List ℕ) (d : opening p f F2 e room ≡ done message) where
  opened-full : length e ≡ 2 * p.N
  unfolding opening
  opened-full = (opening_passed p f F2 e room (done_parts (parameter_checks p ++ opening_checks p f F2 e room) _ _ d).0).e_ready.long

  opened_reduced : T (reduced_q p.N p.q (coefficient e))
  unfolding opening opening_checks
  opened_reduced =
      let k7 = done_holds 7 (eqb room (message_bytes p.N) && (full p.N (length f) && (full p.N (length F2) && full p.N (length e)))) _ _ _ (done_all (parameter_checks p) _ _ _ d).1 in
      let k8 = done_holds 8 (units_only p.N p.t (coefficient f)) _ _ _ k7.1 in
      let k11 = done_holds 11 (reduced2 p.N (coefficient F2)) _ _ _ k8.1 in
      (done_holds 12 (reduced_q p.N p.q (coefficient e)) _ _ _ k11.1).0

-- an array that was sealed opens
sealed_opens : {p : ParameterSet} {f F2 Fq g h e : List ℤ} {message : List ℕ} → AcceptedKey p f F2 Fq g h → Sealed p h e message → opening p f F2 e (message_bytes p.N) ≡ done message
sealed_opens {p} {f} {F2} {e = e} {message} key s =
    let o = all_opens key s.ephemeral s.valid in
    let same : o.e ≡ e = one-outcome o.seals s.seals in
    subst (λ (x : List ℤ). opening p f F2 x (message_bytes p.N) ≡ done message) same o.opens
  where
    one-outcome : {A : Type 0} {o : Outcome A} {a b : A} → o ≡ done a → o ≡ done b → a ≡ b
    one-outcome x y = cc

module _ {p : ParameterSet} {f F2 Fq g h : List ℤ} {es : List Entry} {messages : List (List ℕ)} (key : AcceptedKey p f F2 Fq g h) (s : SealedEntries p h es messages) where
  accepted : Accepted p
  accepted = (accepted_key key).parameters

  entry_opens : (k : ℕ) → k < length es → opening p f F2 (array_of es k) (message_bytes p.N) ≡ done (get_or messages k [])
  entry_opens k l = sealed_opens key (s.sealed k l)

  entries_full : Full p.N es
  entries_full = each_full p.N es (λ k l. opened-full p f F2 (array_of es k) _ _ (entry_opens k l))

  entries_reduced : Passes (arrays_checks p es)
  entries_reduced = each_reduced p es (λ k l. opened_reduced p f F2 (array_of es k) _ _ (entry_opens k l))

  -- nothing is refused
  writes : any_twice (stops_of es) ≡ false → entry_start p.N (length es) ≤ longest_bundle → writing_bundle p (stops_of es) (numbers_of es) (entry_start p.N (length es)) ≡ done (bundle_of p es)
  unfolding entries_checks
  writes once short = full-written p es entries_full _ accepted.checks (record { is = refl; short = short }) (passed 25 (arrays_checks p es) tt once ∙ entries_reduced)

  -- the bundle of the entries
  module _ (entries : Passes (entries_checks p es)) (short : entry_start p.N (length es) ≤ longest_bundle) where
    abbrev bundle : List ℕ
    bundle = bundle_of p es

    parts : PartsFit p
    parts = parts_fit p accepted.checks

    fits : FittingEntries p.N es
    fits = fitting_entries p es accepted s.stops entries_full entries_reduced

    same_head : head_of bundle ≡ p
    same_head = bundle_head p es parts fits

    same_entries : entries_of bundle ≡ es
    same_entries = bundle_entries p es parts fits

    at_place : Counted bundle
    at_place = counted bundle (count_passes p es parts fits accepted.checks short)

    module _ (k : ℕ) (l : k < length es) where
      within : k < count_of bundle
      within = subst (λ (n : ℕ). k < n) (sym (bundle_count p es parts fits)) l

      place : entry_start p.N k ≡ entry_start (head_of bundle).N k
      place = ap (λ (q : ParameterSet). entry_start q.N k) (sym same_head)

      stop_handed : stop_at bundle (entry_start p.N k) ≡ Some (get_or (stops_of es) k 0)
      stop_handed =
          ap (stop_at bundle) place
          ∙ stop_here bundle _ (entry_stands bundle at_place k within)
          ∙ ap (λ (n : ℕ). Some n) (sym (stop_is bundle k within) ∙ ap (λ (x : List Entry). get_or (stops_of x) k 0) same_entries)

      part_full : length (part_at bundle (entry_start p.N k)) ≡ 4 * p.N
      part_full = ap (λ (at : ℕ). length (part_at bundle at)) place ∙ part_long bundle at_place k within ∙ ap (λ (q : ParameterSet). 4 * q.N) same_head

      numbers_are : numbers_from (part_at bundle (entry_start p.N k)) ≡ array_of es k
      numbers_are =
          ap (λ (at : ℕ). numbers_from (part_at bundle at)) place ∙ sym (array_of_part bundle at_place k within) ∙ ap (λ (x : List Entry). array_of x k) same_entries

      part_opens : opening_entry p f F2 (part_at bundle (entry_start p.N k)) (message_bytes p.N) ≡ done (get_or messages k [])
      part_opens =
          opens_as_its_array p f F2 _ (message_bytes p.N) part_full
          ∙ ap (λ (x : List ℤ). opening p f F2 x (message_bytes p.N)) numbers_are
          ∙ entry_opens k l

    bundle_opens : OpensEntries p f F2 es messages bundle
    bundle_opens = record {
      made = bundle_passes p es parts fits accepted.checks short entries;
      parameters = same_head;
      count = bundle_count p es parts fits;
      stop = stop_handed;
      opens = part_opens;
    }

  opens : (room : ℕ) (file : List ℕ) → writing_bundle p (stops_of es) (numbers_of es) room ≡ done file → OpensEntries p f F2 es messages file
  unfolding writing_bundle
  opens room file e =
      let again = given_again p.N es entries_full in
      let d = done_parts (writing_checks p (stops_of es) (numbers_of es) room) _ file e in
      let w = writing_passed p (stops_of es) (numbers_of es) room d.0 in
      let count = length-map es (λ (e : Entry). e.stop) in
      subst (OpensEntries p f F2 es messages) (ap (bundle_of p) (sym again) ∙ d.1)
      (bundle_opens (ap (λ (x : List Entry). outcome (entries_checks p x) (tt {0})) (sym again) ∙ w.entries)
      (subst (λ (n : ℕ). n ≤ longest_bundle) (w.right_length_lem.is ∙ ap (entry_start p.N) count) w.right_length_lem.short))

pub demand_3 : Demand3
demand_3 = record {
  writes = λ p f F2 Fq g h es messages key s once short. writes key s once short;
  opens = λ p f F2 Fq g h es messages room file key s e. opens key s room file e;
}
