-- The calls one after another walk the entries of a bundle: the promises of specs/Promises.antt.
use Rattle.std.specs.Prelude.{Option}
use mathlib.Core.Path.{◌≡◌, sym, ◌∙◌, ap, ap₂}
use mathlib.Core.Bool.{false}
use mathlib.Core.List.{List, ◌++◌, map}
use Prim.Native.Nat.{ℕ, zero, suc, ◌+◌, ◌-◌, ◌≤◌, ◌<◌}
use native.Mathlib.Omega.{arith}
use denote.Ref.{Bor}
use lib.ListN.{length, get_or, replicate, get_or-replicate, length-map, get_or-append, get_or-map}
use lib.Seq.{get_or-append-add}
use Rattle.refusals.specs.Outcomes.{refused, outcome, Passes}
use Rattle.heads.specs.Heads.{head_of}
use Rattle.bundles.specs.Bundles.{count_of, Stored, stored_of}
use Rattle.bundles.specs.Calls.{bundle_checks}
use Rattle.bundles.specs.Steps.{stands_at, stop_at, part_at, next_at, Handed, past, handed, walk}
use Rattle.bundles.proofs.Entries.{stored_count}
use Rattle.bundles.proofs.Lengths.{entry_length_lem}
use Rattle.bundles.proofs.Steps.{stands_not, stop_past, part_past, next_past, starts_past}
use Rattle.bundles.proofs.Walking.{walking}
use Rattle.bundle_reader.specs.Promises.{WalkOver, WalksTheEntries, RefusedHasNoEntry}

-- what a step hands out
abbrev both : Option ℕ → List ℕ → Handed
both stop part = record { stop = stop; part = part }

abbrev step : List ℕ → ℕ → Handed
step file at = both (stop_at file at) (part_at file at)

module _ (bytes : Bor (List ℕ)) (w : WalkOver bytes) where
  abbrev file : List ℕ
  file = bytes.now

  abbrev at : ℕ → ℕ
  at k = (w.reader k).at

  -- what a walk has at entry k
  abbrev got : ℕ → Handed
  got k = both (w.entry k).stop (w.entry k).array.now

  same_bytes : (k : ℕ) → (w.reader k).bytes ≡ bytes
  same_bytes zero = w.first.0
  same_bytes (suc k) = (w.then k).0 ∙ same_bytes k

  next_place : (k : ℕ) → next_at file (at k) ≡ at (suc k)
  next_place k = ap (λ (b : Bor (List ℕ)). next_at b.now (at k)) (sym (same_bytes k)) ∙ sym (w.then k).1

  got_is : (k : ℕ) → got k ≡ step file (at k)
  got_is k =
      ap₂ both (w.handed k).0 (w.handed k).1
      ∙ ap (λ (b : Bor (List ℕ)). step b.now (at k)) (same_bytes k)

  -- the readers from j on take the steps of the walk from there
  steps : (m k j : ℕ) → k < m → (d : Handed) → get_or (walk file (at j) m) k d ≡ got (j + k)
  unfolding walk
  steps zero k j h d = absurd (omega arith)
  steps (suc m) zero j h d = let here : j ≡ j + 0 = omega arith in sym (got_is j) ∙ ap got here
  steps (suc m) (suc k) j h d =
      let one : suc j + k ≡ j + suc k = omega arith in
      ap (λ (p : ℕ). get_or (walk file p m) k d) (next_place j) ∙ steps m k (suc j) (omega arith) d ∙ ap got one

  -- an accepted bundle
  module _ (passes : Passes (bundle_checks file)) where
    abbrev entries : List Handed
    entries = map handed (stored_of file)

    count : length entries ≡ count_of file
    count = length-map (stored_of file) handed ∙ stored_count file

    walked : (k : ℕ) (d : Handed) → got k ≡ get_or (entries ++ replicate (suc k) past) k d
    walked k d =
        let from-none : 0 + k ≡ k = omega arith in
        sym (steps (count_of file + suc k) k 0 (omega arith) d ∙ ap got from-none)
        ∙ ap (λ (l : List Handed). get_or l k d) (ap (λ (p : ℕ). walk file p (count_of file + suc k)) w.first.1 ∙ walking file passes (suc k))

    entry_here : (k : ℕ) → k < count_of file → (none : Stored) → got k ≡ handed (get_or (stored_of file) k none)
    entry_here k h none = walked k (handed none) ∙ get_or-append entries (replicate (suc k) past) (handed none) k (omega (arith, count)) ∙ get_or-map handed (stored_of file) k none

    entry_past : (k : ℕ) → count_of file ≤ k → got k ≡ past
    entry_past k h =
        let behind : k ≡ length entries + (k - count_of file) = omega (arith, count) in
        walked k past
        ∙ ap (λ (i : ℕ). get_or (entries ++ replicate (suc k) past) i past) behind
        ∙ get_or-append-add entries (replicate (suc k) past) (k - count_of file) past
        ∙ get_or-replicate (suc k) (k - count_of file) past past (omega arith)

  -- bytes that are refused
  module _ (n : ℕ) (refusal : outcome (bundle_checks file) (tt {0}) ≡ refused n) where
    none_stands : stands_at file (length file) ≡ false
    none_stands = stands_not file (length file) (omega (arith, entry_length_lem (head_of file).N))

    stays : (k : ℕ) → at k ≡ length file
    stays zero = w.first.1 ∙ starts_past file refusal
    stays (suc k) = sym (next_place k) ∙ ap (next_at file) (stays k) ∙ next_past file (length file) none_stands

    got_past : (k : ℕ) → got k ≡ past
    got_past k = got_is k ∙ ap (step file) (stays k) ∙ ap₂ both (stop_past file (length file) none_stands) (part_past file (length file) none_stands)

abbrev of_stop : Handed → Option ℕ
of_stop h = h.stop

abbrev of_part : Handed → List ℕ
of_part h = h.part

pub walks_the_entries : WalksTheEntries
walks_the_entries bytes passes w k = ((λ h. let e = entry_here bytes w passes k h _ in (ap of_stop e, ap of_part e)), (λ h. let e = entry_past bytes w passes k h in (ap of_stop e, ap of_part e)))

pub refused_has_no_entry : RefusedHasNoEntry
refused_has_no_entry bytes n refusal w k = let e = got_past bytes w n refusal k in (ap of_stop e, ap of_part e)
