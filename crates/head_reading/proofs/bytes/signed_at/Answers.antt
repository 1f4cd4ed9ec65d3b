-- `signed_at` meets its contract.
use mathlib.Core.Path.{sym, ◌∙◌, ap, subst}
use Prim.Native.Nat.{ℕ, ◌≤◌}
use native.Mathlib.Numerals.{add-one}
use lib.IntN.{ℤ, nat_abs}
use lib.ListN.{get_or}
use Rattle.heads.specs.Heads.{number16, signed16, unsigned_at, signed_at}
use Rattle.heads.proofs.Handed.{read_32}
use Rattle.head_reading.proofs.bytes.signed_at.Goals as goal

pub returns : goal.returns
unfolding signed_at unsigned_at
returns c = let file = c.args.file.now in
    let k = c.args.k in
    let e = read_32 c.signed.result c.signed.ensures.1 in
    (e ∙ c.signed.ensures.0 ∙ ap (λ (i : ℕ). signed16 (number16 (get_or file k 0) (get_or file i 0))) (add-one k), subst (λ (z : ℤ). nat_abs z ≤ 32768) (sym e) c.signed.ensures.1)
