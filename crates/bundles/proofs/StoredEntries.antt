-- Entries as bytes: what is written is stored, and what is stored is written back.
use mathlib.Core.Path.{◌≡◌, refl, sym, ◌∙◌, ap, ap₂}
use mathlib.Core.List.{List, [], ◌∷◌, ◌++◌, map}
use Prim.Native.Nat.{ℕ, zero, suc, ◌+◌, ◌*◌, ◌≤◌, ◌<◌}
use native.Mathlib.Numerals.{add-one}
use native.Mathlib.Omega.{arith}
use native.Mathlib.Nat.{add-zero, zero-add, mul-suc}
use lib.IntN.{ℤ}
use lib.Dec.{lit<}
use lib.ListN.{length, get_or, take, drop, length-append, length-drop, take-append-drop}
use lib.Seq.{get_or-drop, drop-drop, take_at, drop_at, length-take-le}
use Rattle.packing.specs.Promises.{Bytes}
use Rattle.heads.specs.Heads.{bytes16, number16, unsigned_at}
use Rattle.files.specs.Files.{bytes_of}
use Rattle.heads.proofs.Numbers.{number_bytes, bytes_number}
use Rattle.files.proofs.Lists.{Fitting, bytes_length, numbers_of_bytes, bytes_of_numbers}
use Rattle.bundles.specs.Bundles.{stop_length, Entry, entry_length, entry_bytes, entries_bytes, stop_in, Stored, stored_at, stored_from, entry_of}
use Rattle.bundles.proofs.Lengths.{entry_length_lem}

-- ---- what is stored from a place on is stored at the front of the rest

front_stored : (N : ℕ) (file : List ℕ) (at : ℕ) → stored_at N file at ≡ stored_at N (drop at file) 0
unfolding stored_at stop_in unsigned_at
front_stored N file at =
    let high : get_or file at 0 ≡ get_or (drop at file) 0 0 = sym (get_or-drop at file 0 0 ∙ ap (λ (i : ℕ). get_or file i 0) (add-zero at)) in
    let low : get_or file (suc at) 0 ≡ get_or (drop at file) 1 0 = sym (get_or-drop at file 1 0 ∙ ap (λ (i : ℕ). get_or file i 0) (add-one at)) in
    ap₂ (λ (s : ℕ) (rest : List ℕ). record { stop = s; part = take (4 * N) rest }) (ap₂ number16 high low) (sym (drop-drop stop_length at file))

pub front_entries : (N : ℕ) (file : List ℕ) (at k : ℕ) → stored_from N file at k ≡ stored_from N (drop at file) 0 k
unfolding stored_from
front_entries N file at zero = refl
front_entries N file at (suc k) =
    ap₂ (λ (e : Stored) (r : List Stored). e ∷ r) (front_stored N file at)
    (front_entries N file (at + entry_length N) k
    ∙ sym (front_entries N (drop at file) (0 + entry_length N) k ∙ ap (λ (l : List ℕ). stored_from N l 0 k) (drop-drop (0 + entry_length N) at file ∙ ap (λ (i : ℕ). drop (at + i) file) (zero-add (entry_length N)))))

-- ---- entries that are written

-- a stop of 16 bits, and 2N numbers of 16 bits
pub record FittingEntry (N : ℕ) (e : Entry) : Type 0 where
  pub stop_small : e.stop < 65536
  pub full : length e.array ≡ 2 * N
  pub fitting : Fitting e.array

abbrev pub FittingEntries : ℕ → List Entry → Type 0
FittingEntries N [] = Unit {0}
FittingEntries N (e ∷ es) = FittingEntry N e × FittingEntries N es

abbrev pub stored_as : Entry → Stored
stored_as e = record { stop = e.stop; part = bytes_of e.array }

pub entry_bytes_length : (N : ℕ) (e : Entry) → length e.array ≡ 2 * N → length (entry_bytes e) ≡ entry_length N
unfolding entry_bytes bytes16
entry_bytes_length N e h = omega (arith, bytes_length e.array, h, entry_length_lem N)

pub entries_bytes_length : (N : ℕ) (es : List Entry) → FittingEntries N es → length (entries_bytes es) ≡ entry_length N * length es
unfolding entries_bytes
entries_bytes_length N [] f = omega arith
entries_bytes_length N (e ∷ es) f =
    length-append (entry_bytes e) (entries_bytes es) ∙ omega (arith, entry_bytes_length N e f.0.full, entries_bytes_length N es f.1, mul-suc (entry_length N) (length es))

first-written : (N : ℕ) (e : Entry) (rest : List ℕ) → FittingEntry N e → stored_at N (entry_bytes e ++ rest) 0 ≡ stored_as e
unfolding stored_at stop_in unsigned_at entry_bytes bytes16
first-written N e rest f =
    ap₂ (λ (s : ℕ) (part : List ℕ). record { stop = s; part = part }) (number_bytes e.stop) (take_at (bytes_of e.array) rest (4 * N) (omega (arith, bytes_length e.array, f.full)))

pub written_entries : (N : ℕ) (es : List Entry) → FittingEntries N es → stored_from N (entries_bytes es) 0 (length es) ≡ map stored_as es
unfolding stored_from entries_bytes
written_entries N [] f = refl
written_entries N (e ∷ es) f =
    let long : length (entry_bytes e) ≡ 0 + entry_length N = omega (arith, entry_bytes_length N e f.0.full) in
    ap₂ (λ (x : Stored) (r : List Stored). x ∷ r) (first-written N e (entries_bytes es) f.0)
    (front_entries N (entry_bytes e ++ entries_bytes es) (0 + entry_length N) (length es)
    ∙ ap (λ (l : List ℕ). stored_from N l 0 (length es)) (drop_at (entry_bytes e) (entries_bytes es) (0 + entry_length N) long)
    ∙ written_entries N es f.1)

-- they are read back
pub entries_again : (N : ℕ) (es : List Entry) → FittingEntries N es → map entry_of (map stored_as es) ≡ es
entries_again N [] f = refl
entries_again N (e ∷ es) f = ap₂ (λ (x : List ℤ) (r : List Entry). record { stop = e.stop; array = x } ∷ r) (numbers_of_bytes e.array f.0.fitting) (entries_again N es f.1)

-- ---- entries that are read

two_more : (n : ℕ) → 2 + n ≡ suc (suc n)
two_more n = omega arith

module _ (N : ℕ) where
  -- the first entry's bytes
  first_read : (l : List ℕ) → Bytes l → entry_length N ≤ length l → entry_bytes (entry_of (stored_at N l 0)) ≡ take (entry_length N) l
  unfolding stored_at stop_in unsigned_at entry_bytes entry_length
  first_read [] b h = absurd (omega arith)
  first_read (x ∷ []) b h = absurd (omega arith)
  first_read (x ∷ y ∷ l) b h =
      let small : Bytes (take (4 * N) l) = bytes_taken (4 * N) l (λ i. b (suc (suc i))) in
      let long : length (take (4 * N) l) ≡ 4 * N = length-take-le (4 * N) l (omega arith) in
      ap₂ ◌++◌ (bytes_number x y (b 1)) (bytes_of_numbers (take (4 * N) l) small (omega (arith, long))) ∙ sym (ap (λ (n : ℕ). take n (x ∷ y ∷ l)) (two_more (4 * N)))
    where
      bytes_taken : (n : ℕ) (l : List ℕ) → Bytes l → Bytes (take n l)
      bytes_taken zero l b i = lit< tt
      bytes_taken (suc n) [] b i = lit< tt
      bytes_taken (suc n) (x ∷ l) b zero = b 0
      bytes_taken (suc n) (x ∷ l) b (suc i) = bytes_taken n l (λ j. b (suc j)) i

  pub read_entries : (k : ℕ) (l : List ℕ) → Bytes l → length l ≡ entry_length N * k → entries_bytes (map entry_of (stored_from N l 0 k)) ≡ l
  unfolding stored_from entries_bytes
  read_entries zero [] b e = refl
  read_entries zero (x ∷ l) b e = absurd (omega arith)
  read_entries (suc k) l b e =
      let plain : 0 + entry_length N ≡ entry_length N = zero-add (entry_length N) in
      let rest : length (drop (0 + entry_length N) l) ≡ entry_length N * k = length-drop (0 + entry_length N) l ∙ omega (arith, e, mul-suc (entry_length N) k) in
      ap₂ ◌++◌ (first_read l b (omega (arith, e, mul-suc (entry_length N) k)) ∙ ap (λ (n : ℕ). take n l) (sym plain))
      (ap (λ (x : List Stored). entries_bytes (map entry_of x)) (front_entries N l (0 + entry_length N) k) ∙ read_entries k (drop (0 + entry_length N) l) (λ i. rw get_or-drop (b (0 + entry_length N + i))) rest)
      ∙ take-append-drop (0 + entry_length N) l
