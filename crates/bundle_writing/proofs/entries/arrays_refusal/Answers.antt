-- `arrays_refusal` meets its contract. The loop's invariant: what is refused is what the checks from entry k on refuse.
use mathlib.Core.Path.{◌≡◌, sym, ◌∙◌, ap}
use mathlib.Core.List.{List, [], ◌∷◌}
use Prim.Native.Nat.{ℕ, ◌*◌, ◌<◌}
use native.Mathlib.Omega.{arith}
use native.Mathlib.Nat.{mul-suc, mul-le-mul_left}
use lib.IntN.{ℤ}
use lib.ListN.{length, drop, length-drop}
use lib.Seq.{length-take-le}
use Rattle.refusals.proofs.Errors.{passed_on}
use Rattle.refusals.specs.Outcomes.{outcome}
use Rattle.refusals.specs.Numbers.{answered}
use Rattle.parameters.specs.Sets.{set_of}
use Rattle.array_sets.specs.declared.ArraySet.TheVariants.{ReducedModuloQ}
use Rattle.array_sets.proofs.ArrayChecks.{own, own_check}
use Rattle.bundles.specs.Bundles.{Entry, array_of}
use Rattle.bundles.specs.Calls.{entries_given}
use Rattle.bundles.proofs.EntryChecks.{entry_passed, entry_refused, all_entries_passed}
use Rattle.bundles.proofs.GivenEntries.{given_count, given_array}
use Rattle.bundle_writing.proofs.entries.arrays_refusal.Goals as goal
use Rattle.bundle_writing.proofs.entries.arrays_refusal.Goals.{Start}

abbrev entries : (s : Start) → List Entry
entries s = entries_given s.args.p.parameters.n s.args.stops.now s.args.numbers.now

inside : (s : Start) → (k : ℕ) → k < length s.args.stops.now → k < length (entries s)
inside s k h = omega (arith, given_count s.args.p.parameters.n s.args.stops.now s.args.numbers.now)

full : (s : Start) → (k : ℕ) → k < length s.args.stops.now → length (array_of (entries s) k) ≡ 2 * s.args.p.parameters.n
full s k h =
    let w = 2 * s.args.p.parameters.n in
    ap (λ (x : List ℤ). length x) (given_array s.args.p.parameters.n s.args.stops.now s.args.numbers.now k h)
    ∙ length-take-le w (drop (w * k) s.args.numbers.now) (omega (arith, length-drop (w * k) s.args.numbers.now, s.requires, mul-suc w k, mul-le-mul_left w h))

pub returns-in_err-array_refusal : goal.returns-in_err-array_refusal
returns-in_err-array_refusal c =
    let checked : outcome (own (set_of c.args.p.parameters) ReducedModuloQ (array_of (entries (goal.at.returns-in_err-array_refusal c).Start) c.loop-k.k) ∷ []) (tt {0}) ≡ answered c.array_refusal.result = sym (own_check (set_of c.args.p.parameters) ReducedModuloQ (array_of (entries (goal.at.returns-in_err-array_refusal c).Start) c.loop-k.k) c.args.p.passes (full (goal.at.returns-in_err-array_refusal c).Start c.loop-k.k c.loop-k-test.true)) ∙ sym c.array_refusal.ensures in
    passed_on _ _ c.from_residual.ensures.1 ∙ sym (c.loop-k.invariant ∙ entry_refused (set_of c.args.p.parameters) (entries (goal.at.returns-in_err-array_refusal c).Start) c.loop-k.k _ (inside (goal.at.returns-in_err-array_refusal c).Start c.loop-k.k c.loop-k-test.true) (checked ∙ ap answered c.in_err-array_refusal.was))

pub loop-k-preserved : goal.loop-k-preserved
loop-k-preserved c =
    let checked : outcome (own (set_of c.args.p.parameters) ReducedModuloQ (array_of (entries (goal.at.loop-k-preserved c).Start) c.loop-k.k) ∷ []) (tt {0}) ≡ answered c.array_refusal.result = sym (own_check (set_of c.args.p.parameters) ReducedModuloQ (array_of (entries (goal.at.loop-k-preserved c).Start) c.loop-k.k) c.args.p.passes (full (goal.at.loop-k-preserved c).Start c.loop-k.k c.loop-k-test.true)) ∙ sym c.array_refusal.ensures in
    let h = c.loop-k-test.true in
    c.loop-k.invariant ∙ entry_passed (set_of c.args.p.parameters) (entries (goal.at.loop-k-preserved c).Start) c.loop-k.k (inside (goal.at.loop-k-preserved c).Start c.loop-k.k h) (checked ∙ ap answered c.in_ok-array_refusal.was)

pub returns : goal.returns
returns c = sym (c.loop-k.invariant ∙ all_entries_passed (set_of c.args.p.parameters) (entries (goal.at.returns c).Start) c.loop-k.k (omega (arith, given_count c.args.p.parameters.n c.args.stops.now c.args.numbers.now)))
