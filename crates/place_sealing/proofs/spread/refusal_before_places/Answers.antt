-- `refusal_before_places` meets its contract: each test is the definition's, in its order.
use mathlib.Core.Path.{◌≡◌}
use mathlib.Core.Bool.{Bool, ◌&&◌}
use mathlib.Core.List.{[], ◌∷◌}
use Prim.Native.Nat.{◌*◌}
use lib.Dec.{T, eqb}
use lib.ListN.{length}
use Rattle.refusals.proofs.Errors.{passed_on}
use Rattle.integers.proofs.Tests.{are_equal_4}
use Rattle.parameters.specs.Sets.{ParameterSet, set_of}
use Rattle.arrays.specs.Arrays.{full}
use Rattle.array_sets.specs.declared.ArraySet.TheVariants.{ReducedModuloQ}
use Rattle.array_sets.proofs.ArrayChecks.{own, and_lengths, and_array, stops, stops_before_7}
use Rattle.packing.specs.Messages.{message_bytes}
use Rattle.place_sealing.proofs.spread.refusal_before_places.Goals as goal
use Rattle.place_sealing.proofs.spread.refusal_before_places.Goals.{Start}

abbrev P : Start → ParameterSet
P s = set_of s.args.p

abbrev lengths : Start → Bool
lengths s = eqb s.args.message (message_bytes (P s).N) && (eqb s.args.records (P s).s && (full (P s).N (length s.args.h.now) && full (P s).N s.args.room))

h_long : (s : Start) → T (lengths s) → length s.args.h.now ≡ 2 * (P s).N
h_long s t = (are_equal_4 s.args.message (message_bytes (P s).N) s.args.records (P s).s (length s.args.h.now) (2 * (P s).N) s.args.room (2 * (P s).N) t).2

pub returns-in_err-check : goal.returns-in_err-check
returns-in_err-check c =
    let s = (goal.at.returns-in_err-check c).Start in
    stops_before_7 (P s) (lengths s) (own (P s) ReducedModuloQ s.args.h.now ∷ []) (passed_on _ _ c.from_residual.ensures.1) c.in_err-check.ensures

pub returns-in_err-when : goal.returns-in_err-when
returns-in_err-when c =
    let s = (goal.at.returns-in_err-when c).Start in
    stops (P s) (lengths s) [] (own (P s) ReducedModuloQ s.args.h.now ∷ []) (passed_on _ _ c.from_residual-in_err-when.ensures.1)
    (and_lengths (P s) (lengths s) c.has_lengths.ensures c.in_ok-check.ensures c.in_err-when.ensures)

pub returns : goal.returns
returns c =
    let s = (goal.at.returns c).Start in
    and_array (P s) (lengths s) ReducedModuloQ c.args.h.now (h_long s) [] (and_lengths (P s) (lengths s) c.has_lengths.ensures c.in_ok-check.ensures c.in_ok-when.ensures) c.check_array.ensures
