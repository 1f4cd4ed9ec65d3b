-- What is promised of packing and unpacking, each proved in proofs/RoundTrips.antt: on accepted input they undo each other.
use Rattle.std.specs.Prelude.{◌≡◌, List, ℕ, ◌*◌, ℤ}
use Rattle.refusals.specs.Outcomes.{done}
use Rattle.packing.specs.Messages.{message_bytes}
use Rattle.packing.specs.Promises.{Bytes}
use Rattle.message_packing.specs.Calls.{packing}
use Rattle.message_unpacking.specs.Calls.{unpacking}

abbrev pub UnpackingUndoesPacking : Type 0
UnpackingUndoesPacking = (N : ℕ) (message : List ℕ) (m : List ℤ) → Bytes message → packing N message (2 * N) ≡ done m → unpacking N m (message_bytes N) ≡ done message

abbrev pub PackingUndoesUnpacking : Type 0
PackingUndoesUnpacking = (N : ℕ) (m : List ℤ) (message : List ℕ) → unpacking N m (message_bytes N) ≡ done message → packing N message (2 * N) ≡ done m
