-- Bundles (document 02, wish 2): "Kind 4 has the usual 16-byte head, a 16-bit count, then that many entries: a 16-bit stop number and a sealed array of 4N bytes."
use Rattle.std.specs.Prelude.{List, [], ◌∷◌, ◌++◌, map, ℕ, zero, suc, ◌+◌, ◌*◌, ℤ, length, get_or, take, drop}
use Rattle.parameters.specs.Sets.{ParameterSet}
use Rattle.heads.specs.Kinds.{bundle_kind}
use Rattle.heads.specs.Heads.{head_length, bytes16, unsigned_at, head_of, head_bytes}
use Rattle.files.specs.Files.{numbers_from, bytes_of}

-- The bytes that a count takes, and a stop.
abbrev pub count_length : ℕ
count_length = 2

abbrev pub stop_length : ℕ
stop_length = 2

-- "A file is at most 65,536 bytes."
abbrev pub longest_bundle : ℕ
longest_bundle = 65536

-- An entry: a stop, and a sealed array as its numbers. A bundle is a parameter set and a list of entries.
pub record Entry : Type 0 where
  pub stop : ℕ
  pub array : List ℤ

abbrev pub entry_is : ℕ → List ℤ → Entry
entry_is s x = record { stop = s; array = x }

abbrev pub stops_of : List Entry → List ℕ
stops_of es = map (λ (e : Entry). e.stop) es

-- The array of entry k.
abbrev pub array_of : List Entry → ℕ → List ℤ
array_of es k = (get_or es k (entry_is 0 [])).array

-- The numbers of all arrays, one after another.
unfoldable pub numbers_of : List Entry → List ℤ
numbers_of [] = []
numbers_of (e ∷ es) = e.array ++ numbers_of es

-- The bytes of an entry, and where entry k stands: a bundle of k entries ends there.
unfoldable pub entry_length : ℕ → ℕ
entry_length N = stop_length + 4 * N

unfoldable pub entry_start : ℕ → ℕ → ℕ
entry_start N k = head_length + count_length + entry_length N * k

-- A bundle as bytes.
abbrev pub stop_bytes : ℕ → List ℕ
stop_bytes s = bytes16 s

unfoldable pub entry_bytes : Entry → List ℕ
entry_bytes e = stop_bytes e.stop ++ bytes_of e.array

unfoldable pub entries_bytes : List Entry → List ℕ
entries_bytes [] = []
entries_bytes (e ∷ es) = entry_bytes e ++ entries_bytes es

unfoldable pub bundle_of : ParameterSet → List Entry → List ℕ
bundle_of p es = head_bytes bundle_kind p ++ (bytes16 (length es) ++ entries_bytes es)

-- The other way: the count, and what is stored from a byte on: a stop, and "the part of the bundle that is its sealed array".
unfoldable pub count_of : List ℕ → ℕ
count_of file = unsigned_at file head_length

unfoldable pub stop_in : List ℕ → ℕ → ℕ
stop_in file at = unsigned_at file at

pub record Stored : Type 0 where
  pub stop : ℕ
  pub part : List ℕ

unfoldable pub stored_at : ℕ → List ℕ → ℕ → Stored
stored_at N file at = record { stop = stop_in file at; part = take (4 * N) (drop (at + stop_length) file) }

-- the k entries from a byte on
unfoldable pub stored_from : ℕ → List ℕ → (at k : ℕ) → List Stored
stored_from N file at zero = []
stored_from N file at (suc k) = stored_at N file at ∷ stored_from N file (at + entry_length N) k

unfoldable pub stored_of : List ℕ → List Stored
stored_of file = stored_from (head_of file).N file (entry_start (head_of file).N 0) (count_of file)

-- The entries that are stored.
abbrev pub entry_of : Stored → Entry
entry_of e = entry_is e.stop (numbers_from e.part)

unfoldable pub entries_of : List ℕ → List Entry
entries_of file = map entry_of (stored_of file)
