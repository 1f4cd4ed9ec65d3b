-- The bytes that are filled lie within the buffer.
use Rattle.std.proofs.Common.{◌≤◌, length}
use Rattle.etru_open.proofs.read_input.Given as goal

abbrev pub invariant-loop : goal.invariant-loop
invariant-loop l = l.at ≤ length l.buffer
