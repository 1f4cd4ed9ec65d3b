-- The room for the longest message has room for each.
use mathlib.Core.Path.{◌≡◌, ◌∙◌, ap}
use mathlib.Core.List.{List}
use Prim.Native.Nat.{ℕ, ◌≤◌}
use native.Mathlib.Omega.{arith}
use lib.ListN.{length, take, replicate}
use lib.Seq.{length-take-le}
use Rattle.packing.specs.Messages.{message_bytes}

-- k bytes of it are lent, for a message of N
pub record Lent (N k : ℕ) (room : List ℕ) : Type 0 where
  pub enough : k ≤ length room
  pub long : length (take k room) ≡ k
  pub for_message : length (take k room) ≡ message_bytes N

pub lent_room : {N k : ℕ} {room : List ℕ} → N ≤ 1024 → k ≡ message_bytes N → room ≡ replicate 256 0 → Lent N k room
lent_room {N} {k} {room} small is zeros =
    let enough : k ≤ length room = omega (arith, ap length zeros) in
    let long = length-take-le k room enough in
    record { enough = enough; long = long; for_message = long ∙ is }
