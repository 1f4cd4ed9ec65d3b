-- What is promised of the calls one after another: of any readers and entries that their contracts allow.
use Rattle.std.specs.Prelude.{None, Some}
use Rattle.std.specs.Prelude.{◌≡◌, List, [], ℕ, suc, ◌≤◌, ◌<◌, get_or}
use Rattle.std.specs.Borrow.{Bor}
use Rattle.refusals.specs.Outcomes.{refused, outcome, Passes}
use Rattle.parameters.specs.Sets.{made}
use Rattle.bundles.specs.Bundles.{count_of, Stored, stored_of}
use Rattle.bundles.specs.Calls.{bundle_checks, making_reader}
use Rattle.bundles.specs.Steps.{stop_at, part_at, next_at, start_of}
use Rattle.bundle_reader.specs.declared.Reader.{Reader}
use Rattle.bundle_reader.specs.declared.Entry.{Entry}

-- The contracts: of the reader that `make_reader` makes of some bytes, of the one that `next` makes of a reader, and of the entry that `current` hands out.
abbrev pub MadeOf : Bor (List ℕ) → Reader → Type 0
MadeOf bytes r = (r.bytes ≡ bytes) × (r.at ≡ start_of bytes.now) × (made r.made ≡ making_reader bytes.now)

abbrev pub NextOf : Reader → Reader → Type 0
NextOf reader r = (r.bytes ≡ reader.bytes) × (r.at ≡ next_at reader.bytes.now reader.at) × (r.made ≡ reader.made)

abbrev pub CurrentOf : Reader → Entry → Type 0
CurrentOf reader e = (e.stop ≡ stop_at reader.bytes.now reader.at) × (e.array.now ≡ part_at reader.bytes.now reader.at)

-- A walk over some bytes: the reader that is made of them, again and again the next one, and the entry at each.
pub record WalkOver (bytes : Bor (List ℕ)) : Type 0 where
  pub reader : ℕ → Reader
  pub entry : ℕ → Entry
  pub first : MadeOf bytes (reader 0)
  pub then : (k : ℕ) → NextOf (reader k) (reader (suc k))
  pub handed : (k : ℕ) → CurrentOf (reader k) (entry k)

-- "hands out for each the stop and the part of the bundle that is its sealed array"; "a step past the last entry says so"
abbrev pub HandsOut : Stored → Entry → Type 0
HandsOut s e = (e.stop ≡ Some s.stop) × (e.array.now ≡ s.part)

abbrev pub SaysPast : Entry → Type 0
SaysPast e = (e.stop ≡ None) × (e.array.now ≡ [])

-- Over every bundle that is accepted, the k-th entry of a walk is the k-th of the bundle, and every later one says that no entry is left. (The default of `get_or` is never reached.)
abbrev pub WalksTheEntries : Type 0
WalksTheEntries =
    (bytes : Bor (List ℕ)) → Passes (bundle_checks bytes.now) → (w : WalkOver bytes) (k : ℕ)
    → (k < count_of bytes.now → HandsOut (get_or (stored_of bytes.now) k (record { stop = 0; part = [] })) (w.entry k)) × (count_of bytes.now ≤ k → SaysPast (w.entry k))

-- Over bytes that are refused every entry says so.
abbrev pub RefusedHasNoEntry : Type 0
RefusedHasNoEntry =
    (bytes : Bor (List ℕ)) (n : ℕ) → outcome (bundle_checks bytes.now) (tt {0}) ≡ refused n → (w : WalkOver bytes) (k : ℕ) → SaysPast (w.entry k)
