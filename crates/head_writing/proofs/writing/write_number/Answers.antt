-- `write_number` meets its contract: the two bytes are copied to byte k.
use Rattle.std.proofs.Common.{◌≡◌, ◌∙◌, arith}
use Rattle.heads.specs.Heads.{bytes16}
use Rattle.heads.proofs.Copied.{copied}
use Rattle.heads.proofs.Numbers.{machine_bytes}
use Rattle.head_writing.proofs.writing.write_number.Goals as goal

pub returns : goal.returns
unfolding bytes16
returns c =
    let two : c.copy_from_slice.new.self ≡ bytes16 c.args.n = c.copy_from_slice.ensures.after ∙ c.to_be_bytes.ensures ∙ machine_bytes c.requires.0 in
    rw two (copied c.args.k _ c.args.file.now (bytes16 c.args.n) (omega arith) (omega arith))
