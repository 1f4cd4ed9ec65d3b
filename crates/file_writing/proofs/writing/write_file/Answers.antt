-- `write_file` meets its contract: the head, then the arrays.
use mathlib.Core.Path.{refl, ◌∙◌, ap}
use mathlib.Core.List.{◌++◌}
use Prim.Native.Nat.{◌-◌}
use native.Mathlib.Omega.{arith}
use lib.ListN.{length, take, drop, length-drop}
use Rattle.heads.specs.Kinds.{number_of_kind}
use Rattle.heads.proofs.ArraysOfKinds.{kind_known}
use Rattle.parameters.specs.Sets.{set_of}
use Rattle.heads.specs.Heads.{head_length, bytes16, head_bytes}
use Rattle.files.specs.Files.{file_of}
use Rattle.head_writing.proofs.WritingChecks.{head_written}
use Rattle.files.proofs.Lists.{rest_taken, put_behind}
use Rattle.stored_numbers.proofs.Lengths.{numbers_written}
use Rattle.file_writing.proofs.writing.write_file.Goals as goal

pub returns : goal.returns
unfolding file_of head_bytes bytes16
returns c = let head = head_bytes (number_of_kind c.args.kind) (set_of c.args.p.parameters) in
    let file = c.write_head.new.file in
    put_behind head_length head (drop head_length c.args.file.now) file c.write_numbers.new.bytes refl (head_written (number_of_kind c.args.kind) (set_of c.args.p.parameters) c.args.file.now (rw (kind_known c.args.kind) tt) c.args.p.passes (omega (arith, c.requires.0)) (rw c.number.ensures at c.write_head.ensures))
    ∙ ap (head ++◌) (numbers_written c.args.numbers.now (take (length file - head_length) (drop head_length file)) c.write_numbers.ensures (ap length (rest_taken head_length file) ∙ length-drop head_length file ∙ omega (arith, c.requires.0)) c.requires.1)
