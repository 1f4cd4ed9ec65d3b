-- `head_parameters` meets its contract.
use mathlib.Core.Path.{◌≡◌, ◌∙◌, ap}
use Prim.Native.Nat.{ℕ}
use lib.IntN.{ℤ}
use Rattle.parameters.specs.Sets.{set, parameters}
use Rattle.heads.specs.Heads.{head_of}
use Rattle.heads.proofs.Handed.{read_32}
use Rattle.head_reading.proofs.reading.head_parameters.Goals as goal

same_set_lem : {n n' s s' t t' : ℕ} {c c' d d' : ℤ} → n ≡ n' → c ≡ c' → d ≡ d' → s ≡ s' → t ≡ t' → set n c d s t ≡ set n' c' d' s' t'
same_set_lem e f g h k = cc

pub returns : goal.returns
unfolding head_of
returns c = let n = c.unsigned_at-n.ensures in
    let c' = c.signed_at-c.ensures in
    let d = c.signed_at-d.ensures in
    let s = c.unsigned_at-s.ensures in
    let t = c.unsigned_at-t.ensures in
    c.new.ensures ∙ ap parameters (same_set_lem n.0 (read_32 _ c'.1 ∙ c'.0) (read_32 _ d.1 ∙ d.0) s.0 t.0)
