-- `write_file` meets its contract: the head, the count, then the entries.
use mathlib.Core.Path.{◌≡◌, refl, sym, ◌∙◌, ap, ap₂}
use mathlib.Core.List.{List, [], ◌∷◌, ◌++◌, append_assoc}
use Prim.Native.Nat.{ℕ, ◌+◌, ◌-◌, ◌*◌, ◌≤◌}
use native.Mathlib.Omega.{arith}
use lib.ListN.{length, take, drop, length-append, length-drop}
use lib.Seq.{sets, sets-eq, length-sets, take_at, drop_at, drop-drop}
use Rattle.parameters.specs.Sets.{set_of}
use Rattle.heads.specs.Kinds.{arrays_of, bundle_kind}
use Rattle.heads.specs.Heads.{head_length, bytes16, head_bytes}
use Rattle.head_writing.proofs.WritingChecks.{head_written}
use Rattle.files.proofs.Lists.{rest_taken, put_behind}
use Rattle.bundles.specs.Bundles.{bundle_of}
use Rattle.bundles.proofs.Lengths.{start_is, entries_long}
use Rattle.bundles.proofs.GivenEntries.{given_count}
use Rattle.bundle_writing.proofs.writing.write_file.Goals as goal
use Rattle.bundle_writing.proofs.writing.write_file.Goals.{After-write_head}

-- two bytes stored behind a head
stored_behind : (head old : List ℕ) (high low : ℕ) → length head ≡ 16 → 18 ≤ length old → sets (head ++ drop 16 old) 16 (high ∷ low ∷ []) ≡ (head ++ (high ∷ low ∷ [])) ++ drop 18 old
stored_behind head old high low h l =
    let X = head ++ drop 16 old in
    let front : take 16 X ≡ head = take_at head (drop 16 old) 16 h in
    let behind : drop 18 X ≡ drop 18 old = sym (drop-drop 2 16 X) ∙ ap (drop 2) (drop_at head (drop 16 old) 16 h) ∙ drop-drop 2 16 old in
    let eq : sets X 16 (high ∷ low ∷ []) ≡ (take 16 X ++ (high ∷ low ∷ [])) ++ drop 18 X = sets-eq (high ∷ low ∷ []) X 16 (omega (arith, length-append head (drop 16 old), length-drop 16 old)) in
    eq ∙ ap₂ (λ (x y : List ℕ). (x ++ (high ∷ low ∷ [])) ++ y) front behind

-- the file is as long as its entries need
long : (w : After-write_head) → 18 + 2 * length w.args.stops.now ≤ length w.args.file.now
long w = omega (arith, w.requires.file_len.0, entries_long w.args.p.parameters.n (length w.args.stops.now))

abbrev head : After-write_head → List ℕ
head w = head_bytes bundle_kind (set_of w.args.p.parameters)

headed : (w : After-write_head) → w.write_head.new.file ≡ head w ++ drop head_length w.args.file.now
unfolding arrays_of
headed w = head_written bundle_kind (set_of w.args.p.parameters) w.args.file.now tt w.args.p.passes (omega (arith, long w)) w.write_head.ensures

headed_length : (w : After-write_head) → length w.write_head.new.file ≡ length w.args.file.now
unfolding head_bytes bytes16
headed_length w = ap (λ (l : List ℕ). length l) (headed w) ∙ length-append (head w) (drop head_length w.args.file.now) ∙ omega (arith, length-drop head_length w.args.file.now, long w)

counted_length : (w : After-write_head) {file : List ℕ} → file ≡ sets w.write_head.new.file 16 (bytes16 (length w.args.stops.now)) → length file ≡ length w.args.file.now
counted_length w e = ap (λ (l : List ℕ). length l) e ∙ length-sets w.write_head.new.file 16 (bytes16 (length w.args.stops.now)) ∙ headed_length w

pub write_count-requires : goal.write_count-requires
write_count-requires c =
    let w = (goal.at.write_count-requires c).After-write_head in
    (omega (arith, long w, c.requires.file_len.1), omega (arith, headed_length w, long w))

pub slice_bounds-write_entries-count : goal.slice_bounds-write_entries-count
slice_bounds-write_entries-count c =
    let w = (goal.at.slice_bounds-write_entries-count c).After-write_head in
    omega (arith, counted_length w c.write_count.ensures, long w)

pub slice_bounds-write_entries-start : goal.slice_bounds-write_entries-start
slice_bounds-write_entries-start c =
    let w = (goal.at.slice_bounds-write_entries-start c).After-write_head in
    omega (arith, counted_length w c.write_count.ensures, long w)

pub write_entries-requires : goal.write_entries-requires
write_entries-requires c =
    let w = (goal.at.write_entries-requires c).After-write_head in
    let file = c.write_count.new.file in
    let rest : length (take (length file - 18) (drop 18 file)) ≡ length c.args.file.now - 18 =
    ap (λ (l : List ℕ). length l) (rest_taken 18 file) ∙ length-drop 18 file ∙ omega (arith, counted_length w c.write_count.ensures) in
    record {
      numbers_len = (c.requires.numbers_len, rest ∙ omega (arith, c.requires.file_len.0, start_is c.args.p.parameters.n (length c.args.stops.now)));
      out_len_bound = (omega (arith, rest, c.requires.file_len.1), c.requires.file_len.2);
    }

pub returns : goal.returns
unfolding bundle_of head_bytes bytes16
returns c =
    let w = (goal.at.returns c).After-write_head in
    let counted : c.write_count.new.file ≡ (head w ++ bytes16 (length c.args.stops.now)) ++ drop 18 c.args.file.now =
    c.write_count.ensures ∙ ap (λ (l : List ℕ). sets l 16 (bytes16 (length c.args.stops.now))) (headed w) ∙ stored_behind (head w) c.args.file.now _ _ refl (omega (arith, long w)) in
    put_behind 18 (head w ++ bytes16 (length c.args.stops.now)) (drop 18 c.args.file.now) c.write_count.new.file c.write_entries.new.out refl counted
    ∙ append_assoc (head w) (bytes16 (length c.args.stops.now)) _
    ∙ ap₂ (λ (n : ℕ) (l : List ℕ). head w ++ (bytes16 n ++ l)) (sym (given_count c.args.p.parameters.n c.args.stops.now c.args.numbers.now)) c.write_entries.ensures
