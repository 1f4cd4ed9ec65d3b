-- What is promised of short messages and their 2N bits, for every N; each is proved in proofs/ReadingBack.antt.
use Rattle.std.specs.Prelude.{◌≡◌, false, not, List, ℕ, ◌+◌, ◌*◌, ◌≤◌, ◌<◌, T, length}
use Rattle.packing.specs.Messages.{message_bytes, bit_of, spare_bit_set}
use Rattle.packing.specs.Promises.{Bytes}
use Rattle.short_messages.specs.ShortMessages.{longest_short, padded, not_short, short_of}

-- "A short message is n whole bytes with 8n + 1 at most 2N"
pub record Short (N : ℕ) (short : List ℕ) : Type 0 where
  pub bytes : Bytes short
  pub fits : 8 * length short + 1 ≤ 2 * N

-- "the largest output": where N is not 0, the short messages are those of so many bytes at most.
abbrev pub LongestIsLargest : Type 0
LongestIsLargest = (N n : ℕ) → 1 ≤ N → ((8 * n + 1 ≤ 2 * N → n ≤ longest_short N) × (n ≤ longest_short N → 8 * n + 1 ≤ 2 * N))

-- "after its bits comes one 1 bit, then zeros up to 2N": each of the 2N bits.
pub record PaddedBits (N : ℕ) (short : List ℕ) : Type 0 where
  pub own : (k : ℕ) → k < 8 * length short → bit_of (padded N short) k ≡ bit_of short k
  pub one : bit_of (padded N short) (8 * length short) ≡ 1
  pub zeros : (k : ℕ) → 8 * length short < k → k < 2 * N → bit_of (padded N short) k ≡ 0

abbrev pub PaddedBitsHold : Type 0
PaddedBitsHold = (N : ℕ) (short : List ℕ) → Short N short → PaddedBits N short

-- They are a message: N/4 bytes, rounded up, with the spare bits zero.
abbrev pub PaddedWhole : Type 0
PaddedWhole = (N : ℕ) (short : List ℕ) → 8 * length short + 1 ≤ 2 * N → (length (padded N short) ≡ message_bytes N) × Bytes (padded N short) × T (not (spare_bit_set N (padded N short)))

-- The bits of a short message read back to it.
abbrev pub PaddedReads : Type 0
PaddedReads = (N : ℕ) (short : List ℕ) → Short N short → (not_short N (padded N short) ≡ false) × (short_of N (padded N short) ≡ short)

-- The 2N bits of different short messages differ.
abbrev pub PaddedDistinct : Type 0
PaddedDistinct =
    (N : ℕ) (short short' : List ℕ) → Short N short → Short N short' → ((k : ℕ) → k < 2 * N → bit_of (padded N short) k ≡ bit_of (padded N short') k) → short ≡ short'

-- Every 2N bits that are a short message come from just one.
pub record JustOne (N : ℕ) (message : List ℕ) : Type 0 where
  pub short : Short N (short_of N message)
  pub pads : padded N (short_of N message) ≡ message
  pub only : (other : List ℕ) → Short N other → padded N other ≡ message → other ≡ short_of N message

abbrev pub ReadFromJustOne : Type 0
ReadFromJustOne = (N : ℕ) (message : List ℕ) → length message ≡ message_bytes N → Bytes message → T (not (spare_bit_set N message)) → not_short N message ≡ false → JustOne N message
