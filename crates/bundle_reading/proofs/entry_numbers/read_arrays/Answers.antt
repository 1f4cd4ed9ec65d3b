-- `read_arrays` meets its contract. The loop's invariant: the arrays of the entries before entry k, which stands at the place, are read one after another.
use mathlib.Core.Path.{◌≡◌, sym, ◌∙◌, ap, ap₂, subst}
use mathlib.Core.List.{List, ◌++◌}
use Prim.Native.Nat.{ℕ, ◌+◌, ◌-◌, ◌*◌, ◌≤◌, ◌<◌}
use native.Mathlib.Omega.{arith}
use native.Mathlib.Nat.{mul-suc, mul-zero, mul-le-mul_left}
use lib.IntN.{ℤ}
use lib.ListN.{length, take, drop, length-append, length-drop}
use lib.Seq.{length-take-le, take_all}
use Rattle.heads.specs.Heads.{head_of}
use Rattle.files.specs.Files.{numbers_from}
use Rattle.bundles.specs.Bundles.{array_of, numbers_of, entry_start, count_of, entries_of}
use Rattle.bundles.specs.Steps.{part_at, next_at}
use Rattle.bundles.proofs.Lengths.{first_start}
use Rattle.bundles.proofs.Entries.{entries_count}
use Rattle.bundles.proofs.Counted.{Counted, counted, part_long, array_of_part, next_entry}
use Rattle.bundles.proofs.Blocks.{put_next, put_all, numbers_next, numbers_before}
use Rattle.bundles.proofs.RoundTrips.{read_full}
use Rattle.stored_numbers.proofs.Lengths.{numbers_read}
use Rattle.bundle_reading.proofs.entry_numbers.read_arrays.Goals as goal

pub loop-k-init : goal.loop-k-init
unfolding numbers_of
loop-k-init c = let N = (head_of c.args.file.now).N in
    (sym (first_start N), sym (ap (λ (i : ℕ). drop i c.args.numbers.now) (mul-zero (2 * N))))

pub loop-k-preserved : goal.loop-k-preserved
unfolding numbers_of
loop-k-preserved c =
    let file : List ℕ = c.args.file.now in
    let k : ℕ = c.loop-k.k in
    let whole : Counted file = counted file c.requires.0 in
    let within : k < count_of file = omega (arith, c.loop-k-test.true, c.entry_count-k-end.ensures.0) in
    let N : ℕ = (head_of file).N in
    let from : ℕ = 2 * c.coefficient_count.result * k in
    let width : ℕ = from + 2 * c.coefficient_count.result - from in
    let N_read : c.coefficient_count.result ≡ N = c.coefficient_count.ensures.0 in
    let from_is : 2 * c.coefficient_count.result * k ≡ 2 * N * k = ap (λ (n : ℕ). 2 * n * k) N_read in
    let long_so_far : length (numbers_of (take k (entries_of file))) ≡ 2 * N * k = numbers_before N (entries_of file) k (read_full file whole) (subst (λ (m : ℕ). k ≤ m) (sym (entries_count file)) (omega arith)) in
    let width_is : width ≡ 2 * N = omega (arith, N_read) in
    let ends : 2 * N * k + 2 * N ≤ length c.args.numbers.now = omega (arith, c.requires.1, mul-suc (2 * N) k, mul-le-mul_left (2 * N) within) in
    let same_length : length c.loop-k.numbers ≡ length c.args.numbers.now = ap (λ (x : List ℤ). length x) c.loop-k.invariant.1
    ∙ length-append (numbers_of (take k (entries_of file))) (drop (2 * N * k) c.args.numbers.now)
    ∙ omega (arith, long_so_far, length-drop (2 * N * k) c.args.numbers.now, ends) in
    let lent : length (take width (drop from c.loop-k.numbers)) ≡ 2 * N = length-take-le width (drop from c.loop-k.numbers) (omega (arith, length-drop from c.loop-k.numbers, same_length, from_is, ends, width_is)) ∙ width_is in
    let read : c.read_numbers.new.numbers ≡ array_of (entries_of file) k = let part : c.array_at.result.now ≡ part_at file (entry_start N k) = c.array_at.ensures ∙ ap (part_at file) c.loop-k.invariant.0 in
    let long : length c.array_at.result.now ≡ 4 * N = ap (λ (x : List ℕ). length x) part ∙ part_long file whole k within in
    numbers_read c.array_at.result.now (take width (drop from c.loop-k.numbers)) c.read_numbers.ensures (omega (arith, long, lent))
    ∙ ap numbers_from part
    ∙ sym (array_of_part file whole k within) in
    let put : take from c.loop-k.numbers ++ (c.read_numbers.new.numbers ++ drop width (drop from c.loop-k.numbers)) ≡ numbers_of (take (k + 1) (entries_of file)) ++ drop (2 * N * (k + 1)) c.args.numbers.now = let es = entries_of file in
    ap₂ (λ (a : ℕ) (x : List ℤ). take a c.loop-k.numbers ++ (x ++ drop width (drop a c.loop-k.numbers))) from_is read
    ∙ put_next (2 * N) k width c.args.numbers.now (numbers_of (take k es)) c.loop-k.numbers (array_of es k) c.loop-k.invariant.1 long_so_far width_is
    ∙ ap (λ (x : List ℤ). x ++ drop (2 * N * (k + 1)) c.args.numbers.now) (sym (numbers_next es k (subst (λ (m : ℕ). k < m) (sym (entries_count file)) within))) in (
      c.next_at-at.ensures ∙ ap (next_at file) c.loop-k.invariant.0 ∙ next_entry file whole k within,
      put,
    )

pub returns : goal.returns
unfolding numbers_of
returns c =
    let all_read : c.loop-k.numbers ≡ numbers_of (entries_of c.args.file.now) = let es = entries_of c.args.file.now in
    let N = (head_of c.args.file.now).N in
    let last : c.loop-k.k ≡ count_of c.args.file.now = omega (arith, c.loop-k-test.false, c.entry_count-k-end.ensures.0) in
    put_all (2 * N) c.loop-k.k c.args.numbers.now (numbers_of (take c.loop-k.k es)) c.loop-k.numbers c.loop-k.invariant.1 (c.requires.1 ∙ ap (λ (m : ℕ). 2 * N * m) (sym last))
    ∙ ap numbers_of (take_all c.loop-k.k es (omega (arith, last, entries_count c.args.file.now))) in
    all_read
