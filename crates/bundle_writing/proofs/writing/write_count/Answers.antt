-- `write_count` meets its contract: the two bytes are copied behind the head.
use mathlib.Core.Path.{◌≡◌, refl, ◌∙◌}
use native.Mathlib.Omega.{arith}
use Rattle.heads.specs.Heads.{head_length, bytes16}
use Rattle.heads.proofs.Copied.{copied}
use Rattle.heads.proofs.Numbers.{machine_bytes}
use Rattle.bundle_writing.proofs.writing.write_count.Goals as goal

pub returns : goal.returns
unfolding bytes16
returns c =
    let two : c.copy_from_slice.new.self ≡ bytes16 c.args.count = c.copy_from_slice.ensures.after ∙ c.to_be_bytes.ensures ∙ machine_bytes c.requires.0 in
    rw two (copied head_length 2 c.args.file.now (bytes16 c.args.count) (omega arith) refl)
