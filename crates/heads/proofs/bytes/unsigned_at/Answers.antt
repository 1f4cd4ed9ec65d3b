-- `unsigned_at` meets its contract.
use Rattle.std.proofs.Common.{◌≡◌, sym, ap₂, ◌+◌, ◌*◌, ◌≤◌, ℕ, suc, List, length, arith, get_or, lit<, add-one}
use lib.ListN.{get_or-eq_default}
use Rattle.heads.specs.Heads.{number16, unsigned_at}
use Rattle.heads.proofs.bytes.unsigned_at.Goals as goal

past_end : (l : List ℕ) (k : ℕ) → length l ≤ k → unsigned_at l k ≡ 0
unfolding unsigned_at number16
past_end l k h = ap₂ (λ (high low : ℕ). 256 * high + low) (get_or-eq_default l 0 h) (get_or-eq_default l 0 (omega arith))

pub returns-then-file-k : goal.returns-then-file-k
returns-then-file-k c = (sym (past_end c.args.file.now c.args.k c.if-file-k.true), lit< tt)

pub returns : goal.returns
unfolding unsigned_at number16
returns c =
    let low : c.byte_at.result ≡ get_or c.args.file.now (suc c.args.k) 0 = rw (← add-one) c.byte_at.ensures in
    (omega (arith, low), omega arith)
