-- `write_entries` meets its contract. The loop's invariant: the entries before entry k are written one after another.
use mathlib.Core.Path.{◌≡◌, sym, ◌∙◌, ap, ap₂, subst}
use mathlib.Core.List.{List, [], ◌++◌}
use Prim.Native.Nat.{ℕ, ◌+◌, ◌-◌, ◌*◌, ◌≤◌, ◌<◌}
use native.Mathlib.Omega.{arith}
use native.Mathlib.Nat.{mul-zero, mul-suc, mul-le-mul_left}
use lib.IntN.{ℤ}
use lib.ListN.{length, get_or, take, drop, length-append, length-drop}
use lib.Seq.{length-take-le, take_all}
use Rattle.bundles.specs.Bundles.{Entry, entry_is, entry_length, entry_bytes, entries_bytes}
use Rattle.bundles.specs.Calls.{entries_given}
use Rattle.bundles.proofs.Lengths.{entry_length_lem}
use Rattle.bundles.proofs.GivenEntries.{Full, given_count, given_full, given_entry}
use Rattle.bundles.proofs.Blocks.{put_next, put_all, bytes_next, bytes_before_lem}
use Rattle.bundle_writing.proofs.SmallParts.{part_small}
use Rattle.bundle_writing.proofs.writing.write_entries.Goals as goal

pub loop-k-init : goal.loop-k-init
unfolding entries_bytes
loop-k-init c = sym (ap (λ (i : ℕ). drop i c.args.out.now) (mul-zero (entry_length c.args.n)))

pub write_entry-requires : goal.write_entry-requires
unfolding entries_bytes
write_entry-requires c =
    let n : ℕ = c.args.n in
    let k : ℕ = c.loop-k.k in
    let long : ℕ = c.entry_length-entry_bytes.result in
    let long_is : long ≡ entry_length n = c.entry_length-entry_bytes.ensures in
    let array : List ℤ = take (2 * n * k + 2 * n - 2 * n * k) (drop (2 * n * k) c.args.numbers.now) in
    let within : k < length c.args.stops.now = c.loop-k-test.true in
    let array_ends : 2 * n * k + 2 * n ≤ length c.args.numbers.now = omega (arith, c.requires.numbers_len.0, mul-suc (2 * n) k, mul-le-mul_left (2 * n) within) in
    let array_long : length array ≡ 2 * n = let e : 2 * n * k + 2 * n - 2 * n * k ≡ 2 * n = omega arith in
    length-take-le _ (drop (2 * n * k) c.args.numbers.now) (omega (arith, length-drop (2 * n * k) c.args.numbers.now, array_ends)) ∙ e in
    let room : List ℕ = take (long * k + long - long * k) (drop (long * k) c.loop-k.out) in
    let at_is : long * k ≡ entry_length n * k = ap (λ (w : ℕ). w * k) long_is in
    let entry_ends : long * k + long ≤ length c.args.out.now = omega (arith, at_is, long_is, c.requires.numbers_len.1, mul-suc (entry_length n) k, mul-le-mul_left (entry_length n) within) in
    let es : List Entry = entries_given n c.args.stops.now c.args.numbers.now in
    let within_entries : k < length es = subst (λ (m : ℕ). k < m) (sym (given_count n c.args.stops.now c.args.numbers.now)) within in
    let full : Full n es = given_full n c.args.stops.now c.args.numbers.now c.requires.numbers_len.0 in
    let long_so_far : length (entries_bytes (take k es)) ≡ entry_length n * k = bytes_before_lem n es k full (omega (arith, within_entries)) in
    let same_length : length c.loop-k.out ≡ length c.args.out.now = ap (λ (x : List ℕ). length x) c.loop-k.invariant
    ∙ length-append (entries_bytes (take k es)) (drop (entry_length n * k) c.args.out.now)
    ∙ omega (arith, long_so_far, length-drop (entry_length n * k) c.args.out.now, entry_ends, at_is) in
    let room_long : length room ≡ long = let e : long * k + long - long * k ≡ long = omega arith in
    length-take-le _ (drop (long * k) c.loop-k.out) (omega (arith, length-drop (long * k) c.loop-k.out, same_length, entry_ends)) ∙ e in
    (room_long ∙ omega (arith, long_is, entry_length_lem n, array_long), part_small (2 * n * k + 2 * n - 2 * n * k) (2 * n * k) c.args.numbers.now c.requires.out_len_bound.1)

pub loop-k-preserved : goal.loop-k-preserved
unfolding entries_bytes
loop-k-preserved c =
    let k : ℕ = c.loop-k.k in
    let within : k < length c.args.stops.now = c.loop-k-test.true in
    let n : ℕ = c.args.n in
    let es : List Entry = entries_given n c.args.stops.now c.args.numbers.now in
    let long : ℕ = c.entry_length-entry_bytes.result in
    let within_entries : k < length es = subst (λ (m : ℕ). k < m) (sym (given_count n c.args.stops.now c.args.numbers.now)) within in
    let long_is : long ≡ entry_length n = c.entry_length-entry_bytes.ensures in
    let at_is : long * k ≡ entry_length n * k = ap (λ (w : ℕ). w * k) long_is in
    let full : Full n es = given_full n c.args.stops.now c.args.numbers.now c.requires.numbers_len.0 in
    let long_so_far : length (entries_bytes (take k es)) ≡ entry_length n * k = bytes_before_lem n es k full (omega (arith, within_entries)) in
    let array : List ℤ = take (2 * n * k + 2 * n - 2 * n * k) (drop (2 * n * k) c.args.numbers.now) in
    let array-is : array ≡ take (2 * n) (drop (2 * n * k) c.args.numbers.now) = let e : 2 * n * k + 2 * n - 2 * n * k ≡ 2 * n = omega arith in ap (λ (m : ℕ). take m (drop (2 * n * k) c.args.numbers.now)) e in
    let put : take (long * k) c.loop-k.out ++ (c.write_entry.new.out ++ drop (long * k + long - long * k) (drop (long * k) c.loop-k.out)) ≡ entries_bytes (take (k + 1) es) ++ drop (entry_length n * (k + 1)) c.args.out.now = let entry : c.write_entry.new.out ≡ entry_bytes (get_or es k (entry_is 0 [])) =
    c.write_entry.ensures ∙ ap (λ (x : List ℤ). entry_bytes (entry_is (get_or c.args.stops.now k 0) x)) array-is ∙ ap entry_bytes (sym (given_entry n c.args.stops.now c.args.numbers.now k within)) in
    let width : long * k + long - long * k ≡ entry_length n = omega (arith, long_is) in
    ap₂ (λ (a : ℕ) (x : List ℕ). take a c.loop-k.out ++ (x ++ drop (long * k + long - long * k) (drop a c.loop-k.out))) at_is entry
    ∙ put_next (entry_length n) k _ c.args.out.now (entries_bytes (take k es)) c.loop-k.out (entry_bytes (get_or es k (entry_is 0 []))) c.loop-k.invariant long_so_far width
    ∙ ap (λ (x : List ℕ). x ++ drop (entry_length n * (k + 1)) c.args.out.now) (sym (bytes_next es k within_entries)) in
    put

pub returns : goal.returns
unfolding entries_bytes
returns c =
    let all-written : c.loop-k.out ≡ entries_bytes (entries_given c.args.n c.args.stops.now c.args.numbers.now) = let es = entries_given c.args.n c.args.stops.now c.args.numbers.now in
    let last : c.loop-k.k ≡ length c.args.stops.now = omega (arith, c.loop-k-test.false) in
    put_all (entry_length c.args.n) c.loop-k.k c.args.out.now (entries_bytes (take c.loop-k.k es)) c.loop-k.out c.loop-k.invariant (c.requires.numbers_len.1 ∙ ap (λ (m : ℕ). entry_length c.args.n * m) (sym last))
    ∙ ap entries_bytes (take_all c.loop-k.k es (omega (arith, last, given_count c.args.n c.args.stops.now c.args.numbers.now))) in
    all-written
