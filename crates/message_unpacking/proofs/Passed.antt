-- What the checks of unpacking leave, where all are passed, and when unpacking refuses nothing.
use mathlib.Core.Path.{◌≡◌, ◌∙◌}
use mathlib.Core.Bool.{◌&&◌}
use mathlib.Core.List.{List}
use Prim.Native.Nat.{ℕ, ◌*◌, ◌≤◌}
use lib.Dec.{T, eqb}
use lib.IntN.{ℤ}
use lib.ListN.{length}
use Rattle.integers.proofs.Tests.{equal_2, are_equal_2}
use Rattle.refusals.specs.Outcomes.{done, Passes}
use Rattle.refusals.proofs.Checks.{passed, holds_passed, none_left, done_passed, done_holds}
use Rattle.parameters.specs.Sets.{outside}
use Rattle.parameters.proofs.Ranges.{in_range_lem, not_outside}
use Rattle.polynomials.specs.Polynomials.{coefficient, reduced2}
use Rattle.packing.specs.Messages.{message_bytes, unpacked}
use Rattle.message_unpacking.specs.Calls.{unpacking_checks, unpacking}

pub unpacking_passed : (N : ℕ) (m : List ℤ) (room : ℕ) → Passes (unpacking_checks N m room) → (N ≤ 1024) × (length m ≡ 2 * N) × (room ≡ message_bytes N)
unfolding unpacking_checks
unpacking_passed N m room e =
    let k1 = done_passed 1 (outside 3 1024 N) _ _ _ e in
    let k7 = done_holds 7 (eqb room (message_bytes N) && eqb (length m) (2 * N)) _ _ _ k1.1 in
    let l = are_equal_2 room (message_bytes N) (length m) (2 * N) k7.0 in
    (in_range_lem 3 1024 N k1.0, l.1, l.0)

pub unpacks : (N : ℕ) (m : List ℤ) (room : ℕ) → 3 ≤ N → N ≤ 1024 → length m ≡ 2 * N → room ≡ message_bytes N → T (reduced2 N (coefficient m)) → unpacking N m room ≡ done (unpacked N (coefficient m))
unfolding unpacking unpacking_checks
unpacks N m room low high long e r =
    passed 1 _ _ (not_outside 3 1024 N low high)
    ∙ holds_passed 7 (eqb room (message_bytes N) && eqb (length m) (2 * N)) _ _ (equal_2 e long)
    ∙ holds_passed 11 (reduced2 N (coefficient m)) _ _ r
    ∙ none_left _
