-- `write_mark` meets its contract: the stores are a run from byte 0 on.
use Rattle.std.proofs.Common.{◌≡◌, ◌∙◌, refl, ap, ℕ, List, [], ◌∷◌, ◌++◌, drop, set, arith}
use Rattle.std.proofs.lemmas.List.Edits.{sets}
use Rattle.heads.specs.Heads.{version, bytes16}
use Rattle.heads.specs.Kinds.{number_of_kind}
use Rattle.heads.proofs.ArraysOfKinds.{number_small}
use Rattle.heads.proofs.Copied.{copied}
use Rattle.head_writing.proofs.writing.write_mark.Goals as goal

pub overflow_cast-file : goal.overflow_cast-file
overflow_cast-file c = omega (arith, c.number.ensures, number_small c.args.kind)

pub returns : goal.returns
unfolding bytes16
returns c =
    let file : List ℕ = c.args.file.now in
    let letters : c.copy_from_slice.new.self ++ drop 3 file ≡ sets file 0 (69 ∷ 73 ∷ 90 ∷ []) = rw c.copy_from_slice.ensures.after (copied 0 3 file (69 ∷ 73 ∷ 90 ∷ []) (omega arith) refl) in
    rw c.number.ensures (ap (λ (l : List ℕ). set l 5 (number_of_kind c.args.kind)) (c.write_number.ensures ∙ ap (λ (l : List ℕ). sets l 3 (bytes16 version)) letters))
