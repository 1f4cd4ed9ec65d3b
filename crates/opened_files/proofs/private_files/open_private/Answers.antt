-- `open_private` meets its contract.
use mathlib.Core.Path.{◌≡◌}
use borrow.Author.Rules.{rules}
use lib.IntN.{pos}
use lib.ListN.{length, take, replicate}
use lib.Seq.{length-take-le}
use Rattle.parameters.specs.Sets.{set_of}
use Rattle.opened_arrays.proofs.Answers.{gives_as}
use Rattle.opened_files.proofs.InputParts.{first_head, input_parted}
use Rattle.opened_files.proofs.private_files.open_private.Goals as goal

pub open_private_in-requires : goal.open_private_in-requires
open_private_in-requires c =
    let all : length (take 8192 (replicate 8192 (pos 0))) ≡ 8192 = length-take-le 8192 (replicate 8192 (pos 0)) (search rules) in
    let e = c.first_end-end in
    (first_head c.args.input.now (set_of c.args.p) e.result c.requires e.ensures, all)

pub returns : goal.returns
returns c = gives_as (input_parted c.args.input.now (set_of c.args.p) c.first_end-end.result c.requires c.first_end-end.ensures) c.open_private_in.ensures
