-- What the checks of packing leave, where all are passed.
use mathlib.Core.Path.{◌≡◌}
use mathlib.Core.Bool.{◌&&◌}
use mathlib.Core.List.{List}
use Prim.Native.Nat.{ℕ, ◌*◌, ◌≤◌}
use lib.Dec.{eqb}
use lib.ListN.{length}
use Rattle.integers.proofs.Tests.{are_equal_2}
use Rattle.refusals.specs.Outcomes.{Passes}
use Rattle.refusals.proofs.Checks.{done_passed, done_holds}
use Rattle.parameters.specs.Sets.{outside}
use Rattle.parameters.proofs.Ranges.{in_range_lem}
use Rattle.packing.specs.Messages.{message_bytes}
use Rattle.message_packing.specs.Calls.{packing_checks}

pub packing_passed : (N : ℕ) (message : List ℕ) (room : ℕ) → Passes (packing_checks N message room) → (N ≤ 1024) × (length message ≡ message_bytes N) × (room ≡ 2 * N)
unfolding packing_checks
packing_passed N message room e =
    let k1 = done_passed 1 (outside 3 1024 N) _ _ _ e in
    let k7 = done_holds 7 (eqb (length message) (message_bytes N) && eqb room (2 * N)) _ _ _ k1.1 in
    let l = are_equal_2 (length message) (message_bytes N) room (2 * N) k7.0 in
    (in_range_lem 3 1024 N k1.0, l.0, l.1)
