-- `store_remainder` meets its contract.
use mathlib.Core.Path.{sym, ◌∙◌, ap, ap₂}
use Prim.Native.Nat.{◌+◌, ◌*◌}
use borrow.Author.Rules.{rules}
use lib.ListN.{set}
use mir.Syntax.{w32, w64}
use Rattle.refusals.specs.Outcomes.{written}
use Rattle.eisenstein.specs.Values.{ℤ[ω], 𝟘}
use Rattle.eisenstein.proofs.Pairs.{pair_read}
use Rattle.remainders.specs.Calls.{reduce_q}
use Rattle.remainders.proofs.Limits.{no_coefficient, has-coefficient}
use Rattle.remainders.proofs.store_remainder.Goals as goal

pub returns-then-out-i : goal.returns-then-out-i
returns-then-out-i c = sym (no_coefficient c.args.i _ c.args.out.now c.if-out-i.true)

pub returns : goal.returns
returns c = let s = c.before.before.before.before.before.before in
    let r = c.remainder_q-r in
    let i = s.args.i in
    let out = s.args.out.now in
    ap (λ (v : ℤ[ω]). set (set out (2 * i) v.a) (2 * i + 1) v.b)
    (pair_read {w = w32} {a = r.result.a} {b = r.result.b} (search rules) (search rules)
    ∙ r.ensures
    ∙ ap₂ (λ (q x : ℤ[ω]). written (reduce_q q x) 𝟘) (pair_read s.ranges.c s.ranges.d) (pair_read {w = w64} {a = s.args.v.a} {b = s.args.v.b} (search rules) (search rules)))
    ∙ sym (has-coefficient i _ out c.if-out-i.false)
