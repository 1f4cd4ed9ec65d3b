-- `arrays_refusal_in` meets its contract. The loop's invariant: the checks that are left are those from entry k on, which stands at the place.
use mathlib.Core.Path.{◌≡◌, refl, sym, ◌∙◌, ap, ap₂, subst}
use mathlib.Core.List.{List, [], ◌∷◌}
use Prim.Native.Nat.{ℕ, ◌*◌, ◌<◌}
use native.Mathlib.Omega.{arith}
use lib.IntN.{ℤ}
use lib.ListN.{length}
use Rattle.refusals.proofs.Errors.{passed_on}
use Rattle.refusals.specs.Outcomes.{outcome}
use Rattle.refusals.specs.Numbers.{answered}
use Rattle.parameters.specs.Sets.{ParameterSet}
use Rattle.array_sets.specs.declared.ArraySet.TheVariants.{ReducedModuloQ}
use Rattle.array_sets.specs.Sets.{array_check}
use Rattle.array_sets.proofs.ArrayChecks.{own, own_check}
use Rattle.heads.specs.Heads.{head_of}
use Rattle.files.specs.Files.{numbers_from}
use Rattle.files.proofs.Lists.{numbers_length}
use Rattle.bundles.specs.Bundles.{array_of, count_of, entries_of}
use Rattle.bundles.specs.Steps.{part_at, next_at}
use Rattle.bundles.proofs.Lengths.{first_start}
use Rattle.bundles.proofs.Entries.{entries_count}
use Rattle.bundles.proofs.EntryChecks.{entry_passed, entry_refused, all_entries_passed}
use Rattle.bundles.proofs.Counted.{Counted, counted, part_long, array_of_part, next_entry}
use Rattle.bundle_checks.proofs.entry_arrays.arrays_refusal_in.Goals as goal

pub loop-k-init : goal.loop-k-init
loop-k-init c = (refl, sym (first_start (head_of c.args.file.now).N), refl)

pub array_refusal-requires : goal.array_refusal-requires
array_refusal-requires c =
    let file : List ℕ = c.args.file.now in
    let P : ParameterSet = head_of file in
    let k : ℕ = c.loop-k.k in
    let at_place : Counted file = counted file c.requires.1 in
    let within : k < count_of file = omega (arith, c.loop-k-test.true, c.entry_count-k-end.ensures.0) in
    let long : length (part_at file c.loop-k.at) ≡ 4 * P.N = ap (λ (at : ℕ). length (part_at file at)) c.loop-k.invariant.1 ∙ part_long file at_place k within in
    let room : length c.loop-k.x ≡ 2 * P.N = c.loop-k.invariant.0 ∙ c.requires.2 ∙ ap (λ (p : ParameterSet). 2 * p.N) c.requires.0 in
    omega (arith, long, room)

pub returns-in_err-array_refusal : goal.returns-in_err-array_refusal
returns-in_err-array_refusal c =
    let file : List ℕ = c.args.file.now in
    let P : ParameterSet = head_of file in
    let k : ℕ = c.loop-k.k in
    let within : k < count_of file = omega (arith, c.loop-k-test.true, c.entry_count-k-end.ensures.0) in
    let within_entries : k < length (entries_of file) = subst (λ (m : ℕ). k < m) (sym (entries_count file)) within in
    let at_place : Counted file = counted file c.requires.1 in
    let long : length (part_at file c.loop-k.at) ≡ 4 * P.N = ap (λ (at : ℕ). length (part_at file at)) c.loop-k.invariant.1 ∙ part_long file at_place k within in
    let checked : outcome (own P ReducedModuloQ (array_of (entries_of file) k) ∷ []) (tt {0}) ≡ answered c.array_refusal.result = let array = array_of (entries_of file) k in
    let is : array ≡ numbers_from (part_at file c.loop-k.at) = array_of_part file at_place k within ∙ ap (λ (at : ℕ). numbers_from (part_at file at)) (sym c.loop-k.invariant.1) in
    let full : length array ≡ 2 * P.N = ap (λ (x : List ℤ). length x) is ∙ numbers_length (part_at file c.loop-k.at) ∙ omega (arith, long) in
    sym (own_check P ReducedModuloQ array at_place.accepted full)
    ∙ ap₂ (λ (p : ParameterSet) (x : List ℤ). array_check p ReducedModuloQ x) (sym c.requires.0) is
    ∙ sym c.array_refusal.ensures in
    passed_on _ _ c.from_residual.ensures.1 ∙ sym (c.loop-k.invariant.2 ∙ entry_refused P (entries_of file) k _ within_entries (checked ∙ ap answered c.in_err-array_refusal.was))

pub loop-k-preserved : goal.loop-k-preserved
loop-k-preserved c =
    let file : List ℕ = c.args.file.now in
    let P : ParameterSet = head_of file in
    let k : ℕ = c.loop-k.k in
    let at_place : Counted file = counted file c.requires.1 in
    let within : k < count_of file = omega (arith, c.loop-k-test.true, c.entry_count-k-end.ensures.0) in
    let within_entries : k < length (entries_of file) = subst (λ (m : ℕ). k < m) (sym (entries_count file)) within in
    let long : length (part_at file c.loop-k.at) ≡ 4 * P.N = ap (λ (at : ℕ). length (part_at file at)) c.loop-k.invariant.1 ∙ part_long file at_place k within in
    let checked : outcome (own P ReducedModuloQ (array_of (entries_of file) k) ∷ []) (tt {0}) ≡ answered c.array_refusal.result = let array = array_of (entries_of file) k in
    let is : array ≡ numbers_from (part_at file c.loop-k.at) = array_of_part file at_place k within ∙ ap (λ (at : ℕ). numbers_from (part_at file at)) (sym c.loop-k.invariant.1) in
    let full : length array ≡ 2 * P.N = ap (λ (x : List ℤ). length x) is ∙ numbers_length (part_at file c.loop-k.at) ∙ omega (arith, long) in
    sym (own_check P ReducedModuloQ array at_place.accepted full)
    ∙ ap₂ (λ (p : ParameterSet) (x : List ℤ). array_check p ReducedModuloQ x) (sym c.requires.0) is
    ∙ sym c.array_refusal.ensures in (
      omega (arith, c.loop-k.invariant.0),
      c.next_at-at.ensures ∙ ap (next_at file) c.loop-k.invariant.1 ∙ next_entry file at_place k within,
      c.loop-k.invariant.2 ∙ entry_passed P (entries_of file) k within_entries (checked ∙ ap answered c.in_ok-array_refusal.was),
    )

pub returns : goal.returns
returns c = sym (c.loop-k.invariant.2 ∙ all_entries_passed (head_of c.args.file.now) (entries_of c.args.file.now) c.loop-k.k (omega (arith, entries_count c.args.file.now)))
