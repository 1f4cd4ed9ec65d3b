-- The entries of a bundle by their places.
use mathlib.Core.Path.{◌≡◌, refl, ◌∙◌, ap}
use mathlib.Core.List.{List, []}
use Prim.Native.Nat.{ℕ, zero, suc, ◌+◌, ◌*◌, ◌<◌}
use native.Mathlib.Omega.{arith}
use native.Mathlib.Nat.{mul-zero, mul-suc}
use lib.ListN.{length, get_or, take, drop, length-map, get_or-map}
use Rattle.heads.specs.Heads.{head_of}
use Rattle.files.specs.Files.{numbers_from}
use Rattle.bundles.specs.Bundles.{Entry, stops_of, array_of, stop_length, entry_length, entry_start, count_of, stop_in, Stored, stored_at, stored_from, stored_of, entry_of, entries_of}
use Rattle.bundles.proofs.Lengths.{first_start}

abbrev none : Stored
none = record { stop = 0; part = [] }

pub stored_length : (N : ℕ) (file : List ℕ) (at k : ℕ) → length (stored_from N file at k) ≡ k
unfolding stored_from
stored_length N file at zero = refl
stored_length N file at (suc k) = ap suc (stored_length N file (at + entry_length N) k)

-- entry i of those from a place on
pub stored_at_lem : (N : ℕ) (file : List ℕ) (at k i : ℕ) → i < k → get_or (stored_from N file at k) i none ≡ stored_at N file (at + entry_length N * i)
unfolding stored_from
stored_at_lem N file at zero i h = absurd (omega arith)
stored_at_lem N file at (suc k) zero h = ap (stored_at N file) (omega (arith, mul-zero (entry_length N)))
stored_at_lem N file at (suc k) (suc i) h =
    let e : at + entry_length N + entry_length N * i ≡ at + entry_length N * suc i = omega (arith, mul-suc (entry_length N) i) in
    stored_at_lem N file (at + entry_length N) k i (omega arith) ∙ ap (stored_at N file) e

module _ (file : List ℕ) where
  abbrev N : ℕ
  N = (head_of file).N

  pub stored_count : length (stored_of file) ≡ count_of file
  unfolding stored_of
  stored_count = stored_length N file (entry_start N 0) (count_of file)

  pub entry_stored : (k : ℕ) → k < count_of file → get_or (stored_of file) k none ≡ stored_at N file (entry_start N k)
  unfolding stored_of entry_start
  entry_stored k h = stored_at_lem N file (entry_start N 0) (count_of file) k h ∙ ap (stored_at N file) (ap (λ (i : ℕ). i + entry_length N * k) (first_start N))

  pub entries_count : length (entries_of file) ≡ count_of file
  unfolding entries_of
  entries_count = length-map (stored_of file) entry_of ∙ stored_count

  pub stops_count : length (stops_of (entries_of file)) ≡ count_of file
  stops_count = length-map (entries_of file) (λ (e : Entry). e.stop) ∙ entries_count

  -- the stop and the array of entry k
  entry_is_lem : (k : ℕ) → k < count_of file → get_or (entries_of file) k (entry_of none) ≡ entry_of (stored_at N file (entry_start N k))
  unfolding entries_of
  entry_is_lem k h = get_or-map entry_of (stored_of file) k none ∙ ap entry_of (entry_stored k h)

  pub stop_is : (k : ℕ) → k < count_of file → get_or (stops_of (entries_of file)) k 0 ≡ stop_in file (entry_start N k)
  unfolding stored_at
  stop_is k h = get_or-map (λ (e : Entry). e.stop) (entries_of file) k (entry_of none) ∙ ap (λ (e : Entry). e.stop) (entry_is_lem k h)

  pub array-is : (k : ℕ) → k < count_of file → array_of (entries_of file) k ≡ numbers_from (take (4 * N) (drop (entry_start N k + stop_length) file))
  unfolding stored_at numbers_from
  array-is k h = ap (λ (e : Entry). e.array) (entry_is_lem k h)
