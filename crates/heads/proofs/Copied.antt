-- Bytes that are copied into a part of a file: a run of stores.
use Rattle.std.proofs.Common.{◌≡◌, sym, ◌∙◌, ap, ℕ, ◌+◌, ◌≤◌, List, ◌++◌, length, take, drop, append_assoc, arith}
use Rattle.std.proofs.lemmas.List.{drop-drop}
use Rattle.std.proofs.lemmas.List.Edits.{sets, sets-eq}
use borrow.Rule.Slice.PartMut.{put_mid}

-- the part is the n bytes from byte k on
pub copied : (k n : ℕ) (file bytes : List ℕ) → k + n ≤ length file → length bytes ≡ n → put_mid k n file bytes ≡ sets file k bytes
copied k n file bytes h e =
    ap (λ (rest : List ℕ). take k file ++ (bytes ++ rest)) (drop-drop n k file ∙ ap (λ (i : ℕ). drop (k + i) file) (sym e))
    ∙ sym (sets-eq bytes file k (omega (arith, e)) ∙ append_assoc (take k file) bytes _)
