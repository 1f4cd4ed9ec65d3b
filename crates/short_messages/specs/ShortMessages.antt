-- Short messages (document 02, wish 4): their lengths, their 2N bits, and which 2N bits are those of one.
use Rattle.std.specs.Prelude.{None, Option, Some}
use Rattle.std.specs.Prelude.{Bool, true, not, cond, List, [], ℕ, zero, suc, ◌+◌, ◌-◌, ◌*◌, ◌/◌, ◌%◌, eqb, ltb, length, take}
use Rattle.packing.specs.Messages.{message_bytes, bit_of, byte, listed}

-- "A short message is n whole bytes with 8n + 1 at most 2N": of another length it is too long.
abbrev pub too_long : ℕ → ℕ → Bool
too_long N n = ltb (2 * N) (8 * n + 1)

-- "the largest output, (2N − 1)/8 bytes rounded down"
abbrev pub longest_short : ℕ → ℕ
longest_short N = (2 * N - 1) / 8

-- "after its bits comes one 1 bit, then zeros up to 2N": first what comes from bit `start` on, then all of it, each by its bit k.
unfoldable pub one_then_zeros : (start k : ℕ) → ℕ
one_then_zeros start k = cond (eqb k start) 1 0

unfoldable pub padded_bit : List ℕ → ℕ → ℕ
padded_bit short k = cond (ltb k (8 * length short)) (bit_of short k) (one_then_zeros (8 * length short) k)

-- The message of these bits.
unfoldable pub padded : ℕ → List ℕ → List ℕ
padded N short = listed (message_bytes N) (byte (padded_bit short))

-- The other way: the position of the last 1 among the first n bits, or that there is none.
unfoldable pub last_one : ℕ → (ℕ → ℕ) → Option ℕ
last_one zero bit = None
last_one (suc k) bit = cond (eqb (bit k) 1) (Some k) (last_one k bit)

-- "if there is no 1 bit or the last one stands at a bit position, counted from 0, that is not a multiple of 8"
abbrev pub ends_no_short : Option ℕ → Bool
ends_no_short (Some k) = not (eqb (k % 8) 0)
ends_no_short None = true

unfoldable pub not_short : ℕ → List ℕ → Bool
not_short N message = ends_no_short (last_one (2 * N) (bit_of message))

-- The short message: the bytes before it.
abbrev pub bytes_before : Option ℕ → List ℕ → List ℕ
bytes_before (Some k) message = take (k / 8) message
bytes_before None message = []

unfoldable pub short_of : ℕ → List ℕ → List ℕ
short_of N message = bytes_before (last_one (2 * N) (bit_of message)) message
