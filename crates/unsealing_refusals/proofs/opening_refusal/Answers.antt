-- `opening_refusal` meets its contract: each test is the definition's, in its order.
use mathlib.Core.Path.{◌≡◌}
use mathlib.Core.Bool.{Bool, ◌&&◌}
use mathlib.Core.List.{[], ◌∷◌}
use Prim.Native.Nat.{◌*◌}
use lib.Dec.{T, eqb}
use lib.ListN.{length}
use Rattle.refusals.proofs.Errors.{passed_on}
use Rattle.integers.proofs.Tests.{are_equal_4}
use Rattle.parameters.specs.Sets.{ParameterSet, set_of}
use Rattle.arrays.specs.Arrays.{full}
use Rattle.array_sets.specs.declared.ArraySet.TheVariants.{F, ReducedModulo2, ReducedModuloQ}
use Rattle.array_sets.proofs.ArrayChecks.{own, and_lengths, and_array, stops, stops_before_7}
use Rattle.packing.specs.Messages.{message_bytes}
use Rattle.etru.specs.Calls.{opening_checks}
use Rattle.unsealing_refusals.proofs.opening_refusal.Goals as goal
use Rattle.unsealing_refusals.proofs.opening_refusal.Goals.{Start}

abbrev P : Start → ParameterSet
P s = set_of s.args.p

abbrev lengths : Start → Bool
lengths s = eqb s.args.room (message_bytes (P s).N) && (full (P s).N (length s.args.f.now) && (full (P s).N (length s.args.f2.now) && full (P s).N (length s.args.e.now)))

asked : (s : Start) → T (lengths s) → (s.args.room ≡ message_bytes (P s).N) × (length s.args.f.now ≡ 2 * (P s).N) × (length s.args.f2.now ≡ 2 * (P s).N) × (length s.args.e.now ≡ 2 * (P s).N)
asked s t = are_equal_4 _ _ _ _ _ _ _ _ t

pub returns-in_err-check : goal.returns-in_err-check
unfolding opening_checks
returns-in_err-check c =
    let s = (goal.at.returns-in_err-check c).Start in
    let p = P s in
    let t = lengths s in
    stops_before_7 p t (own p F c.args.f.now ∷ own p ReducedModulo2 c.args.f2.now ∷ own p ReducedModuloQ c.args.e.now ∷ []) (passed_on _ _ c.from_residual.ensures.1) c.in_err-check.ensures

pub returns-in_err-when : goal.returns-in_err-when
unfolding opening_checks
returns-in_err-when c =
    let s = (goal.at.returns-in_err-when c).Start in
    let p = P s in
    let t = lengths s in
    stops p t [] (own p F c.args.f.now ∷ own p ReducedModulo2 c.args.f2.now ∷ own p ReducedModuloQ c.args.e.now ∷ []) (passed_on _ _ c.from_residual-in_err-when.ensures.1) (and_lengths p t c.full_with_message.ensures c.in_ok-check.ensures c.in_err-when.ensures)

pub returns-in_err-check_array : goal.returns-in_err-check_array
unfolding opening_checks
returns-in_err-check_array c =
    let s = (goal.at.returns-in_err-check_array c).Start in
    let p = P s in
    let t = lengths s in
    let o_7 = and_lengths p t c.full_with_message.ensures c.in_ok-check.ensures c.in_ok-when.ensures in
    stops p t (own p F c.args.f.now ∷ []) (own p ReducedModulo2 c.args.f2.now ∷ own p ReducedModuloQ c.args.e.now ∷ []) (passed_on _ _ c.from_residual-in_err-check_array.ensures.1) (and_array p t F c.args.f.now (λ h. (asked s h).1) [] o_7 c.in_err-check_array.ensures)

pub returns-in_err-check_array-2 : goal.returns-in_err-check_array-2
unfolding opening_checks
returns-in_err-check_array-2 c =
    let s = (goal.at.returns-in_err-check_array-2 c).Start in
    let p = P s in
    let t = lengths s in
    let o_7 = and_lengths p t c.full_with_message.ensures c.in_ok-check.ensures c.in_ok-when.ensures in
    let o_0 = and_array p t F c.args.f.now (λ h. (asked s h).1) [] o_7 c.in_ok-check_array.ensures in
    stops p t (own p F c.args.f.now ∷ own p ReducedModulo2 c.args.f2.now ∷ []) (own p ReducedModuloQ c.args.e.now ∷ []) (passed_on _ _ c.from_residual-in_err-check_array-2.ensures.1) (and_array p t ReducedModulo2 c.args.f2.now (λ h. (asked s h).2) (own p F c.args.f.now ∷ []) o_0 c.in_err-check_array-2.ensures)

pub returns : goal.returns
unfolding opening_checks
returns c =
    let s = (goal.at.returns c).Start in
    let p = P s in
    let t = lengths s in
    let o_7 = and_lengths p t c.full_with_message.ensures c.in_ok-check.ensures c.in_ok-when.ensures in
    let o_0 = and_array p t F c.args.f.now (λ h. (asked s h).1) [] o_7 c.in_ok-check_array.ensures in
    let o_1 = and_array p t ReducedModulo2 c.args.f2.now (λ h. (asked s h).2) (own p F c.args.f.now ∷ []) o_0 c.in_ok-check_array-2.ensures in
    and_array p t ReducedModuloQ c.args.e.now (λ h. (asked s h).3) (own p F c.args.f.now ∷ own p ReducedModulo2 c.args.f2.now ∷ []) o_1 c.check_array-3.ensures
