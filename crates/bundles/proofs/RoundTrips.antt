-- Reading a bundle and writing one undo each other.
use mathlib.Core.Path.{◌≡◌, refl, sym, ◌∙◌, ap, ap₂, subst}
use mathlib.Core.List.{List, [], ◌∷◌, ◌++◌, map}
use Prim.Native.Nat.{ℕ, zero, suc, ◌+◌, ◌*◌, ◌≤◌, ◌<◌}
use native.Mathlib.Omega.{arith}
use native.Mathlib.Nat.{mul-suc}
use lib.Dec.{T, eqb, eqb→eq, lit<}
use lib.IntN.{ℤ}
use lib.ListN.{length, take, drop, length-drop, take-append-drop, get_or, get_or-eq_default}
use lib.Seq.{get_or-drop, drop-drop, length-take-le}
use mir.Facts.{and_yes}
use native.Mathlib.Decide.{dec_lt}
use Rattle.integers.proofs.Tests.{equal_2}
use Rattle.refusals.specs.Outcomes.{done, outcome, Passes}
use Rattle.refusals.proofs.Checks.{holds_passed, none_left, done_holds, done_parts, done_all, passed_all, done_with, same_first}
use Rattle.parameters.specs.Sets.{ParameterSet, parameter_checks}
use Rattle.parameters.proofs.AcceptedParameters.{accepted_parameters}
use Rattle.packing.specs.Messages.{listed}
use Rattle.packing.specs.Promises.{Bytes}
use Rattle.heads.specs.Kinds.{arrays_of, bundle_kind}
use Rattle.heads.specs.Heads.{head_length, bytes16, unsigned_at, head_of, head_bytes}
use Rattle.heads.proofs.Numbers.{number_bytes, number_lt}
use Rattle.heads.proofs.PartsFit.{PartsFit, parts_fit}
use Rattle.head_reading.specs.Calls.{head_checks}
use Rattle.head_reading.proofs.HeadChecks.{head_passed}
use Rattle.files.specs.Files.{bytes_of}
use Rattle.files.proofs.Lists.{numbers_length}
use Rattle.files.proofs.RoundTrips.{bytes_of_list}
use Rattle.files.proofs.HeadTrips.{written_head, headed_length, written_head_passed, bytes_append, headed_bytes, firsts, unsigned_bytes, read_head}
use Rattle.bundles.specs.Bundles.{count_length, stop_length, longest_bundle, Entry, stops_of, numbers_of, entry_length, entry_start, entry_bytes, entries_bytes, bundle_of, count_of, Stored, stored_at, stored_from, stored_of, entry_of, entries_of, stop_in}
use Rattle.bundles.specs.Calls.{right_length, entries_checks, bundle_head_checks, count_checks, reading_parameters, reading_count, bundle_checks, right_outputs, output_checks, reading_checks, reading_stops, reading_numbers, entries_given, right_given, writing_checks, writing_bundle}
use Rattle.bundles.specs.Promises.{Stops16, ReadingUndoesWriting, WritingUndoesReading, ReaderRefusesAlike, WrittenBytes}
use Rattle.bundles.proofs.Lengths.{first_start, start_is, entry_length_lem, entries_long, Right, right, is_right}
use Rattle.bundles.proofs.Entries.{entries_count, stops_count, stop_is}
use Rattle.bundles.proofs.Counted.{Counted, counted}
use Rattle.bundles.proofs.EntryChecks.{entries_parts}
use Rattle.bundles.proofs.StoredEntries.{FittingEntries, stored_as, front_entries, entries_bytes_length, written_entries, entries_again, read_entries}
use Rattle.bundles.proofs.GivenEntries.{Full, given_stops, given_count, given_full, given_numbers, fitting_entries}
use Rattle.bundles.proofs.FullEntries.{full-written}

-- ---- a bundle that is written

module _ (p : ParameterSet) (es : List Entry) (parts : PartsFit p) (fits : FittingEntries p.N es) where
  abbrev file : List ℕ
  file = bundle_of p es

  abbrev rest : List ℕ
  rest = bytes16 (length es) ++ entries_bytes es

  pub bundle_head : head_of file ≡ p
  unfolding bundle_of
  bundle_head = written_head bundle_kind p rest parts

  pub bundle_count : count_of file ≡ length es
  unfolding count_of unsigned_at bundle_of head_bytes bytes16
  bundle_count = number_bytes (length es)

  pub bundle_length : length file ≡ entry_start p.N (length es)
  unfolding bundle_of entry_start bytes16
  bundle_length = headed_length bundle_kind p rest ∙ omega (arith, entries_bytes_length p.N es fits)

  behind : drop 18 file ≡ entries_bytes es
  unfolding bundle_of head_bytes bytes16
  behind = refl

  pub bundle_stored : stored_of file ≡ map stored_as es
  unfolding stored_of
  bundle_stored =
      ap₂ (λ (q : ParameterSet) (k : ℕ). stored_from q.N file (entry_start q.N 0) k) bundle_head bundle_count
      ∙ ap (λ (at : ℕ). stored_from p.N file at (length es)) (first_start p.N)
      ∙ front_entries p.N file 18 (length es)
      ∙ ap (λ (l : List ℕ). stored_from p.N l 0 (length es)) behind
      ∙ written_entries p.N es fits

  pub bundle_entries : entries_of file ≡ es
  unfolding entries_of
  bundle_entries = ap (map entry_of) bundle_stored ∙ entries_again p.N es fits

  -- reading it, check by check
  module _ (accepted : Passes (parameter_checks p)) (short : entry_start p.N (length es) ≤ longest_bundle) where
    head_passes : Passes (head_checks bundle_kind file)
    unfolding bundle_of arrays_of
    head_passes = written_head_passed bundle_kind p rest tt

    right_here : T (right_length (head_of file).N (count_of file) (length file))
    right_here = is_right _ _ _ (record { is = bundle_length ∙ ap₂ entry_start (sym (ap (λ (q : ParameterSet). q.N) bundle_head)) (sym bundle_count); short = subst (λ (n : ℕ). n ≤ longest_bundle) (sym bundle_length) short })

    pub count_passes : Passes (count_checks file)
    unfolding count_checks
    count_passes =
        passed_all (bundle_head_checks file) _ _ (passed_all (head_checks bundle_kind file) _ _ head_passes ∙ subst (λ (q : ParameterSet). Passes (parameter_checks q)) (sym bundle_head) accepted)
        ∙ holds_passed 7 (right_length (head_of file).N (count_of file) (length file)) _ _ right_here
        ∙ none_left _

    entries_pass : Passes (entries_checks p es) → Passes (entries_checks (head_of file) (entries_of file))
    entries_pass e = ap₂ (λ (q : ParameterSet) (l : List Entry). outcome (entries_checks q l) (tt {0})) bundle_head bundle_entries ∙ e

    pub bundle_passes : Passes (entries_checks p es) → Passes (bundle_checks file)
    unfolding bundle_checks
    bundle_passes e = passed_all (count_checks file) _ _ count_passes ∙ entries_pass e

    reading_passes : Passes (entries_checks p es) → (stops numbers : ℕ) → stops ≡ length es → numbers ≡ 2 * p.N * length es → Passes (reading_checks file stops numbers)
    unfolding reading_checks
    reading_passes e stops numbers s n =
        passed_all (count_checks file) _ _ count_passes
        ∙ holds_passed 7 (right_outputs (head_of file).N (count_of file) stops numbers) _ _
        (equal_2 (s ∙ sym bundle_count) (n ∙ ap₂ (λ (q : ParameterSet) (k : ℕ). 2 * q.N * k) (sym bundle_head) (sym bundle_count)))
        ∙ entries_pass e

-- ---- what writing has passed

pub record Written (p : ParameterSet) (stops : List ℕ) (numbers : List ℤ) (room : ℕ) : Type 0 where
  pub accepted : Passes (parameter_checks p)
  pub numbers_are : length numbers ≡ 2 * p.N * length stops
  pub right_length_lem : Right p.N (length stops) room
  pub entries : Passes (entries_checks p (entries_given p.N stops numbers))

pub writing_passed : (p : ParameterSet) (stops : List ℕ) (numbers : List ℤ) (room : ℕ) → Passes (writing_checks p stops numbers room) → Written p stops numbers room
unfolding writing_checks
writing_passed p stops numbers room e =
    let k = done_all (parameter_checks p) _ _ _ e in
    let k7 = done_holds 7 (right_given p.N (length stops) (length numbers) room) _ _ _ k.1 in
    let l = and_yes (right_length p.N (length stops) room) (eqb (length numbers) (2 * p.N * length stops)) k7.0 in
    record { accepted = k.0; numbers_are = eqb→eq _ _ l.1; right_length_lem = right p.N (length stops) room l.0; entries = k7.1 }

-- the entries that are handed over fit, where nothing is refused
pub written_fits : (p : ParameterSet) (stops : List ℕ) (numbers : List ℤ) (room : ℕ) → Stops16 stops → Written p stops numbers room → FittingEntries p.N (entries_given p.N stops numbers)
written_fits p stops numbers room small w =
    let es = entries_given p.N stops numbers in
    fitting_entries p es (accepted_parameters p w.accepted) (subst Stops16 (sym (given_stops p.N stops numbers)) small) (given_full p.N stops numbers w.numbers_are) (entries_parts p es w.entries).1

pub reading_undoes_writing : ReadingUndoesWriting
unfolding writing_bundle reading_parameters reading_count reading_stops reading_numbers
reading_undoes_writing p stops numbers room written small e =
    let es = entries_given p.N stops numbers in
    let d = done_parts (writing_checks p stops numbers room) (bundle_of p es) written e in
    let w = writing_passed p stops numbers room d.0 in
    let parts = parts_fit p w.accepted in
    let fits = written_fits p stops numbers room small w in
    let count = given_count p.N stops numbers in
    let short : entry_start p.N (length es) ≤ longest_bundle = subst (λ (n : ℕ). n ≤ longest_bundle) (w.right_length_lem.is ∙ ap (entry_start p.N) (sym count)) w.right_length_lem.short in
    let counts = count_passes p es parts fits w.accepted short in
    let reads = reading_passes p es parts fits w.accepted short w.entries (length stops) (length numbers) (sym count) (w.numbers_are ∙ ap (λ (k : ℕ). 2 * p.N * k) (sym count)) in
    let head = bundle_head p es parts fits in
    let entries = bundle_entries p es parts fits in
    subst
    (λ (f : List ℕ). (outcome (count_checks f) (head_of f) ≡ done p) × (outcome (count_checks f) (count_of f) ≡ done (length stops)) × (outcome (reading_checks f (length stops) (length numbers)) (stops_of (entries_of f)) ≡ done stops) × (outcome (reading_checks f (length stops) (length numbers)) (numbers_of (entries_of f)) ≡ done numbers) × Passes (bundle_checks f))
    d.1 (
      done_with _ _ counts ∙ ap done head,
      done_with _ _ counts ∙ ap done (bundle_count p es parts fits ∙ count),
      done_with _ _ reads ∙ ap done (ap (λ (l : List Entry). stops_of l) entries ∙ given_stops p.N stops numbers),
      done_with _ _ reads ∙ ap done (ap numbers_of entries ∙ given_numbers p.N stops numbers w.numbers_are),
      bundle_passes p es parts fits w.accepted short w.entries,
    )

-- ---- what is written are bytes

entries_are_bytes : (N : ℕ) (es : List Entry) → FittingEntries N es → Bytes (entries_bytes es)
unfolding entries_bytes entry_bytes bytes16
entries_are_bytes N [] f = λ i. lit< tt
entries_are_bytes N (e ∷ es) f =
    bytes_append (bytes16 e.stop) (bytes_of e.array ++ entries_bytes es) (omega (arith, f.0.stop_small)) (joined (bytes_of e.array) (entries_bytes es) (bytes_of_list e.array f.0.fitting) (entries_are_bytes N es f.1))
  where
    joined : (l m : List ℕ) → Bytes l → Bytes m → Bytes (l ++ m)
    joined [] m b c i = c i
    joined (x ∷ l) m b c zero = b 0
    joined (x ∷ l) m b c (suc i) = joined l m (λ j. b (suc j)) c i

bundle_are_bytes : (p : ParameterSet) (es : List Entry) → PartsFit p → FittingEntries p.N es → length es < 65536 → Bytes (bundle_of p es)
unfolding bundle_of bytes16
bundle_are_bytes p es parts fits few =
    headed_bytes bundle_kind p (bytes16 (length es) ++ entries_bytes es) (lit< tt) parts (bytes_append (bytes16 (length es)) (entries_bytes es) (omega (arith, few)) (entries_are_bytes p.N es fits))

pub written_bytes : WrittenBytes
unfolding writing_bundle
written_bytes p stops numbers room written small e =
    let es = entries_given p.N stops numbers in
    let d = done_parts (writing_checks p stops numbers room) (bundle_of p es) written e in
    let w = writing_passed p stops numbers room d.0 in
    let fits = written_fits p stops numbers room small w in
    let few : length es < 65536 = omega (arith, given_count p.N stops numbers, w.right_length_lem.is, w.right_length_lem.short, entries_long p.N (length stops)) in
    subst Bytes d.1 (bundle_are_bytes p es (parts_fit p w.accepted) fits few)

-- ---- a bundle that is read

-- each array of the entries from a place on has 2N numbers, where they end within the file
stored_full : (N : ℕ) (file : List ℕ) (at k : ℕ) → at + entry_length N * k ≤ length file → Full N (map entry_of (stored_from N file at k))
unfolding stored_from stored_at
stored_full N file at zero h = tt
stored_full N file at (suc k) h =
    let part = take (4 * N) (drop (at + stop_length) file) in
    let long : length part ≡ 4 * N = length-take-le (4 * N) (drop (at + stop_length) file) (omega (arith, length-drop (at + stop_length) file, h, entry_length_lem N, mul-suc (entry_length N) k)) in
    (numbers_length part ∙ omega (arith, long), stored_full N file (at + entry_length N) k (omega (arith, h, mul-suc (entry_length N) k)))

pub read_full : (file : List ℕ) → Counted file → Full (head_of file).N (entries_of file)
unfolding entries_of stored_of entry_start
read_full file c =
    let N = (head_of file).N in
    stored_full N file (entry_start N 0) (count_of file) (omega (arith, c.right_length_lem.is, first_start N))

module _ (file : List ℕ) (bytes : Bytes file) (c : Counted file) where
  abbrev N' : ℕ
  N' = (head_of file).N

  read_count : bytes16 (count_of file) ≡ take count_length (drop head_length file)
  unfolding count_of listed
  read_count =
      unsigned_bytes file bytes head_length
      ∙ ap₂ (λ (x y : ℕ). x ∷ y ∷ []) (sym (get_or-drop head_length file 0 0)) (sym (get_or-drop head_length file 1 0))
      ∙ sym (firsts count_length (drop head_length file) (omega (arith, length-drop head_length file, c.right_length_lem.is, entries_long N' (count_of file))))

  read_rest : entries_bytes (entries_of file) ≡ drop (head_length + count_length) file
  unfolding entries_of stored_of
  read_rest =
      ap (λ (at : ℕ). entries_bytes (map entry_of (stored_from N' file at (count_of file)))) (first_start N')
      ∙ ap (λ (es : List Stored). entries_bytes (map entry_of es)) (front_entries N' file 18 (count_of file))
      ∙ read_entries N' (count_of file) (drop 18 file) (λ i. rw get_or-drop (bytes (18 + i))) rest_length
    where
      rest_length : length (drop 18 file) ≡ entry_length N' * count_of file
      rest_length = length-drop 18 file ∙ omega (arith, c.right_length_lem.is, start_is N' (count_of file))

  pub read_bundle : bundle_of (head_of file) (entries_of file) ≡ file
  unfolding bundle_of
  read_bundle =
      ap₂ ◌++◌ (read_head file bytes bundle_kind (head_passed bundle_kind file c.at_head))
      (ap₂ ◌++◌ (ap bytes16 (entries_count file) ∙ read_count) (read_rest ∙ sym (drop-drop count_length head_length file)) ∙ take-append-drop count_length (drop head_length file))
      ∙ take-append-drop head_length file

-- the stops that are read have 16 bits
read_stops_small : (file : List ℕ) → Bytes file → Stops16 (stops_of (entries_of file))
unfolding stop_in unsigned_at
read_stops_small file bytes k = go (dec_lt k (count_of file))
  where
    go : Dec (k < count_of file) → get_or (stops_of (entries_of file)) k 0 < 65536
    go (yes h) = subst (λ (n : ℕ). n < 65536) (sym (stop_is file k h)) (number_lt (bytes (entry_start (head_of file).N k)) (bytes (suc (entry_start (head_of file).N k))))
    go (no h) = subst (λ (n : ℕ). n < 65536) (sym (get_or-eq_default (stops_of (entries_of file)) 0 (omega (arith, h, stops_count file)))) (lit< tt)

pub writing_undoes_reading : WritingUndoesReading
unfolding reading_parameters reading_stops reading_numbers reading_checks
writing_undoes_reading file room room' stops numbers bytes e f =
    let s = done_parts (reading_checks file room room') (stops_of (entries_of file)) stops e in
    let n = done_parts (reading_checks file room room') (numbers_of (entries_of file)) numbers f in
    let k = done_all (count_checks file) _ _ _ s.0 in
    let c = counted file k.0 in
    let p = head_of file in
    let es = entries_of file in
    let entries = (done_holds 7 (right_outputs p.N (count_of file) room room') (entries_checks p es) _ _ k.1).1 in
    let right-file : Right p.N (length es) (length file) = record { is = c.right_length_lem.is ∙ ap (entry_start p.N) (sym (entries_count file)); short = c.right_length_lem.short } in (
      done_with (count_checks file) p k.0,
      subst Stops16 s.1 (read_stops_small file bytes),
      subst (λ (x : List ℕ). writing_bundle p x numbers (length file) ≡ done file) s.1
          (subst (λ (x : List ℤ). writing_bundle p (stops_of es) x (length file) ≡ done file) n.1
          (full-written p es (read_full file c) (length file) c.accepted right-file entries ∙ ap done (read_bundle file bytes c))),
    )

pub reader_refuses_alike : ReaderRefusesAlike
unfolding bundle_checks reading_checks
reader_refuses_alike file = same_first (count_checks file) (entries_checks (head_of file) (entries_of file)) (output_checks file (count_of file) (2 * (head_of file).N * count_of file)) tt tt (λ _. sym (holds_passed 7 (right_outputs (head_of file).N (count_of file) (count_of file) (2 * (head_of file).N * count_of file)) _ _ (equal_2 {a = count_of file} {b = 2 * (head_of file).N * count_of file} refl refl)))
