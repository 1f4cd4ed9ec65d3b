-- `write_into` meets its contract. The loop's invariant: the bytes of the numbers passed are stored from the first byte on.
use mathlib.Core.Path.{◌≡◌}
use lib.ListN.{take}
use lib.Seq.{sets}
use Rattle.files.specs.Files.{bytes_of}
use Rattle.stored_numbers.proofs.writing.write_into.Given as goal

abbrev pub invariant-loop-i : goal.invariant-loop-i
invariant-loop-i l = l.bytes ≡ sets l.initial.bytes 0 (bytes_of (take l.i l.numbers))
