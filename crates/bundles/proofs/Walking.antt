-- The steps of a made reader hand out the entries of its bundle, and nothing else.
use Rattle.std.specs.Prelude.{Option}
use mathlib.Core.Path.{◌≡◌, refl, sym, ◌∙◌, ap, ap₂}
use mathlib.Core.Bool.{false}
use mathlib.Core.List.{List, ◌∷◌, ◌++◌, map}
use Prim.Native.Nat.{ℕ, zero, suc, ◌+◌, ◌≤◌, ◌<◌}
use native.Mathlib.Numerals.{add-one}
use native.Mathlib.Omega.{arith}
use native.Mathlib.Decide.{ℕ_discrete}
use native.Mathlib.Nat.{suc-add, zero-add}
use lib.ListN.{replicate}
use Rattle.refusals.proofs.Checks.{done_all}
use Rattle.heads.specs.Heads.{head_of}
use Rattle.bundles.specs.Bundles.{entry_length, entry_start, count_of, stored_at, stored_from, stored_of}
use Rattle.bundles.specs.Calls.{count_checks, bundle_checks}
use Rattle.bundles.specs.Steps.{stands_at, stop_at, part_at, next_at, start_of, Handed, past, handed, walk, place_after}
use Rattle.bundles.specs.Promises.{Walking, Stepping}
use Rattle.bundles.proofs.Steps.{stop_here, stop_past, part_past, next_past, starts}
use Rattle.bundles.proofs.Entries.{entry_stored}
use Rattle.bundles.proofs.Counted.{Counted, counted, entry_stands, entry_part, next_entry, none_behind}
use Rattle.bundles.proofs.Lengths.{next_start}

-- past the end, however often it is asked
walk-past : (file : List ℕ) (at n : ℕ) → stands_at file at ≡ false → walk file at n ≡ replicate n past
unfolding walk
walk-past file at zero e = refl
walk-past file at (suc n) e =
    ap₂ (λ (h : Handed) (r : List Handed). h ∷ r)
    (ap₂ (λ (s : Option ℕ) (part : List ℕ). record { stop = s; part = part }) (stop_past file at e) (part_past file at e))
    (ap (λ (a : ℕ). walk file a n) (next_past file at e) ∙ walk-past file at n e)

module _ (file : List ℕ) (c : Counted file) where
  abbrev N : ℕ
  N = (head_of file).N

  -- what stands at entry j
  here : (j : ℕ) → j < count_of file → ◌≡◌ {A = Handed} (record { stop = stop_at file (entry_start N j); part = part_at file (entry_start N j) }) (handed (stored_at N file (entry_start N j)))
  unfolding stored_at
  here j h = ap₂ (λ (s : Option ℕ) (part : List ℕ). record { stop = s; part = part }) (stop_here file (entry_start N j) (entry_stands file c j h)) (entry_part file c j h)

  -- from entry j on, with k entries left
  walk_from : (j k n : ℕ) → j + k ≡ count_of file → walk file (entry_start N j) (k + n) ≡ map handed (stored_from N file (entry_start N j) k) ++ replicate n past
  unfolding walk stored_from
  walk_from j zero n e =
      let last : j ≡ count_of file = omega arith in
      ap (walk file (entry_start N j)) (zero-add n) ∙ walk-past file (entry_start N j) n (ap (λ (i : ℕ). stands_at file (entry_start N i)) last ∙ none_behind file c)
  walk_from j (suc k) n e =
      let h : j < count_of file = omega arith in
      let next : next_at file (entry_start N j) ≡ entry_start N (j + 1) = next_entry file c j h in
      let behind : entry_start N (j + 1) ≡ entry_start N j + entry_length N = ap (entry_start N) (add-one j) ∙ next_start N j in
      ap (walk file (entry_start N j)) (suc-add k n)
      ∙ ap₂ (λ (x : Handed) (r : List Handed). x ∷ r) (here j h)
      (ap (λ (a : ℕ). walk file a (k + n)) next
      ∙ walk_from (j + 1) k n (omega arith)
      ∙ ap (λ (a : ℕ). map handed (stored_from N file a k) ++ replicate n past) behind)

pub walking : Walking
unfolding bundle_checks stored_of
walking file e n =
    let c = counted file (done_all (count_checks file) _ _ _ e).0 in
    ap (λ (a : ℕ). walk file a (count_of file + n)) (starts file e) ∙ walk_from file c 0 (count_of file) n (zero-add (count_of file))

-- ---- place by place

module _ (file : List ℕ) (c : Counted file) where
  places : (k : ℕ) → k ≤ count_of file → place_after file (entry_start (head_of file).N 0) k ≡ entry_start (head_of file).N k
  unfolding place_after
  places zero h = refl
  places (suc k) h = ap (next_at file) (places k (omega arith)) ∙ next_entry file c k (omega arith) ∙ ap (entry_start (head_of file).N) (add-one k)

  -- behind the last entry the place stays
  stays : (k : ℕ) → count_of file ≤ k → place_after file (entry_start (head_of file).N 0) k ≡ entry_start (head_of file).N (count_of file)
  unfolding place_after
  stays zero h = let e : 0 ≡ count_of file = omega arith in ap (entry_start (head_of file).N) e
  stays (suc k) h = go (ℕ_discrete (suc k) (count_of file)) (stays k)
    where
      go : Dec (suc k ≡ count_of file) → (count_of file ≤ k → place_after file (entry_start (head_of file).N 0) k ≡ entry_start (head_of file).N (count_of file)) → place_after file (entry_start (head_of file).N 0) (suc k) ≡ entry_start (head_of file).N (count_of file)
      go (yes e) r = places (suc k) (omega arith) ∙ ap (entry_start (head_of file).N) e
      go (no n) r = ap (next_at file) (r (omega arith)) ∙ next_past file (entry_start (head_of file).N (count_of file)) (none_behind file c)

pub stepping : Stepping
unfolding bundle_checks
stepping file e k =
    let N = (head_of file).N in
    let c = counted file (done_all (count_checks file) _ _ _ e).0 in
    let place = place_after file (start_of file) k in
    let begins : place ≡ place_after file (entry_start N 0) k = ap (λ (a : ℕ). place_after file a k) (starts file e) in (
      λ h.
          let at_entry : place ≡ entry_start N k = begins ∙ places file c k (omega (arith, h)) in
          (at_entry, ap (stands_at file) at_entry ∙ entry_stands file c k h, ap (stored_at N file) at_entry ∙ sym (entry_stored file k h)),
      λ h.
          let at-end : place ≡ entry_start N (count_of file) = begins ∙ stays file c k h in
          let none = ap (stands_at file) at-end ∙ none_behind file c in
          (none, next_past file place none),
    )
