-- `write_digits` meets its contract. The loop's invariant: the digits of the bytes passed are stored from place 2 on.
use Rattle.std.proofs.Common.{◌≡◌, take}
use lib.Seq.{sets}
use Rattle.lines.specs.Lines.{hex}
use Rattle.lines.proofs.write_digits.Given as goal

abbrev pub invariant-loop-i : goal.invariant-loop-i
invariant-loop-i l = l.line ≡ sets l.initial.line 2 (hex (take l.i l.message))
