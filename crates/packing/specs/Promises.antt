-- What is promised of messages and polynomials, each proved in proofs/RoundTrips.antt.
use Rattle.std.specs.Prelude.{◌≡◌, not, List, ℕ, ◌<◌, T, length, get_or}
use Rattle.polynomials.specs.Polynomials.{Polynomial, reduced2}
use Rattle.packing.specs.Messages.{message_bytes, packed, unpacked, spare_bit_set}

-- Each number of a list is a byte.
abbrev pub Bytes : List ℕ → Type 0
Bytes l = (i : ℕ) → get_or l i 0 < 256

-- For every N, what is packed unpacks to the same bytes, and is reduced modulo 2.
abbrev pub PackedUnpacks : Type 0
PackedUnpacks = (N : ℕ) (message : List ℕ) → Bytes message → length message ≡ message_bytes N → T (not (spare_bit_set N message)) → unpacked N (packed message) ≡ message

abbrev pub PackedReduced : Type 0
PackedReduced = (N : ℕ) (message : List ℕ) → T (reduced2 N (packed message))

-- For every N, what is unpacked packs to the same polynomial, in bytes with no spare bit set.
abbrev pub UnpackedPacks : Type 0
UnpackedPacks = (N : ℕ) (m : Polynomial) → T (reduced2 N m) → (i : ℕ) → i < N → packed (unpacked N m) i ≡ m i

abbrev pub UnpackedBytes : Type 0
UnpackedBytes = (N : ℕ) (m : Polynomial) → Bytes (unpacked N m)

abbrev pub UnpackedSpare : Type 0
UnpackedSpare = (N : ℕ) (m : Polynomial) → T (not (spare_bit_set N (unpacked N m)))
