-- `count_unit` meets its contract. The loop's invariant: how many of the coefficients so far are the unit.
use mathlib.Core.Path.{◌≡◌, sym, ◌∙◌, ap, subst}
use Prim.Native.Nat.{ℕ, ◌+◌}
use native.Mathlib.Omega.{arith}
use native.Mathlib.Nat.{mod-eq_of_lt}
use borrow.Author.Rules.{rules}
use mir.Syntax.{w32}
use Rattle.eisenstein.specs.Values.{ℤ[ω], unit, same}
use Rattle.eisenstein.proofs.Pairs.{pair_read}
use Rattle.polynomials.specs.Polynomials.{coefficient, count, unit_count}
use Rattle.arrays.proofs.Scans.{Counted, counted_none, counted_more}
use Rattle.set_tests.proofs.scans.count_unit.Goals as goal
use Rattle.set_tests.proofs.scans.count_unit.Invariants.{handed, test}

pub loop-i-init : goal.loop-i-init
loop-i-init c = counted_none (test c.args.x.now c.unit-u.result.a c.unit-u.result.b)

pub loop-i-preserved : goal.loop-i-preserved
loop-i-preserved c =
    let t = test c.args.x.now c.unit-u.result.a c.unit-u.result.b in
    subst (λ (k : ℕ). Counted t (c.loop-i.i + 1) (c.loop-i.found + k)) (sym c.from-found.ensures) (counted_more t c.loop-i.invariant c.equal_at.ensures)

pub returns : goal.returns
unfolding unit_count
returns c =
    let u = c.unit-u.result in
    -- the pair that is looked for is unit k
    let is_unit : handed u.a u.b ≡ unit c.args.k = pair_read {w = w32} (search rules) (search rules) ∙ c.unit-u.ensures ∙ ap unit (mod-eq_of_lt {n = c.args.k} {m = 6} c.requires.2) in
    c.loop-i.invariant.is
    ∙ ap (λ (k : ℕ). count k (test c.args.x.now u.a u.b)) (omega arith)
    ∙ ap (λ (y : ℤ[ω]). count c.args.n (λ i. same (coefficient c.args.x.now i) y)) is_unit
