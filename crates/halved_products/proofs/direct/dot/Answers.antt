-- `dot` meets its contract. The loop's invariant: the sums so far, and a bound on them by the count of terms.
use mathlib.Core.Path.{◌≡◌, sym, ◌∙◌, ap, ap₂}
use Prim.Native.Nat.{ℕ, suc, ◌+◌, ◌-◌, ◌*◌, ◌^◌, ◌<◌}
use native.Mathlib.Omega.{arith}
use mir.Syntax.{w64}
use mir.Val.{to_z}
use Rattle.integers.proofs.Machine.{sum_read, sum_size}
use Rattle.eisenstein.specs.Values.{value, ◌+ω◌, ◌*ω◌}
use Rattle.polynomials.specs.Polynomials.{coefficient, sum}
use Rattle.halved_products.proofs.direct.dot.Invariants.{terms}
use Rattle.halved_products.proofs.direct.dot.Goals as goal

pub loop-j-init : goal.loop-j-init
unfolding sum
loop-j-init c =
    let e : 0 ≡ c.args.from - c.args.from = omega arith in
    (ap (λ (k : ℕ). sum k (terms c.args.x.now c.args.y.now c.args.from c.args.base)) e, omega arith, omega arith)

pub loop-j-preserved : goal.loop-j-preserved
unfolding sum ◌+ω◌
loop-j-preserved c =
    let r = c.product-p in
    let v = c.loop-j.invariant in
    let n : ℕ = c.loop-j.j - c.args.from in
    let few : n * 2 ^ 49 + 2 ^ 49 < 2 ^ 63 = omega arith in
    let e : c.loop-j.j + 1 - c.args.from ≡ suc n = omega arith in
    let at : c.args.from + n ≡ c.loop-j.j = omega arith in (
      ap₂ value (sum_read w64 n (2 ^ 49) (to_z w64 c.loop-j.a-bits) r.result.a v.1 r.ensures.1 few) (sum_read w64 n (2 ^ 49) (to_z w64 c.loop-j.b-bits) r.result.b v.2 r.ensures.2 few)
          ∙ ap₂ ◌+ω◌ v.0 (r.ensures.0 ∙ ap (λ (k : ℕ). coefficient c.args.x.now k *ω coefficient c.args.y.now (c.args.base - k)) (sym at))
          ∙ ap (λ (k : ℕ). sum k (terms c.args.x.now c.args.y.now c.args.from c.args.base)) (sym e),
      sum_size w64 n (2 ^ 49) (to_z w64 c.loop-j.a-bits) r.result.a v.1 r.ensures.1 few (c.loop-j.j + 1 - c.args.from) e,
      sum_size w64 n (2 ^ 49) (to_z w64 c.loop-j.b-bits) r.result.b v.2 r.ensures.2 few (c.loop-j.j + 1 - c.args.from) e,
    )
