-- `sealed_at` meets its contract.
use mathlib.Core.Path.{◌≡◌, ◌∙◌, ap, ap₂}
use mathlib.Core.List.{List, [], ◌∷◌}
use Prim.Native.Nat.{◌^◌}
use native.Mathlib.Nat.{le_trans}
use borrow.Author.Rules.{rules}
use lib.Dec.{lit≤}
use lib.IntN.{ℤ}
use lib.Signed.{nat_abs-le}
use mir.Syntax.{w32, w64}
use mir.Val.{SFits, to_z, of_z}
use mir.Facts.{to_z-of_z}
use Rattle.integers.proofs.Ring.{Expr, var, ◌⊕◌, eval}
use Rattle.integers.proofs.Machine.{Leaf, given, meanings, exact, size}
use Rattle.refusals.specs.Outcomes.{written}
use Rattle.eisenstein.specs.Values.{ℤ[ω], value, 𝟘, ◌+ω◌}
use Rattle.eisenstein.specs.Reduction.{mod_q}
use Rattle.eisenstein.proofs.Limits.{not_beyond}
use Rattle.remainders.specs.Calls.{reduce_q}
use Rattle.remainders.proofs.Limits.{remainder_is}
use Rattle.eisenstein.proofs.Pairs.{pair_read}
use Rattle.parameters.specs.Sets.{set_of}
use Rattle.parameters.proofs.AcceptedParameters.{accepted_parameters, modulus_nonzero}
use Rattle.polynomials.specs.Polynomials.{coefficient}
use Rattle.sealing.proofs.sealed.sealed_at.Goals as goal

-- a number of 32 bits, read as one of 64
abbrev widened : (r z : ℤ) → SFits w32 z → r ≡ to_z w32 (of_z w32 z) → Leaf
widened r z f e = record { code = r; meant = z; bound = 2 ^ 31; is = e ∙ to_z-of_z f; small = nat_abs-le z f.sfits }

abbrev twice : Expr
twice = var 0 ⊕ var 0

abbrev part : Expr
part = twice ⊕ var 1

pub returns : goal.returns
unfolding ◌+ω◌ coefficient
returns c =
    let modulus_read : let p = c.args.p.parameters in value (to_z w32 (of_z w32 p.c)) (to_z w32 (of_z w32 p.d)) ≡ (set_of p).q = pair_read {w = w32} (search rules) (search rules) in
    let a_fits : SFits w32 c.pair_of-m.result.a = search rules in
    let ρ_a : List Leaf = let p = c.at-pa in given p.result (2 ^ 31) p.ensures.1 ∷ widened c.from.result c.pair_of-m.result.a a_fits c.from.ensures ∷ [] in
    let b_fits : SFits w32 c.pair_of-m.result.b = search rules in
    let ρ_b : List Leaf = let p = c.at-pb in given p.result (2 ^ 31) p.ensures.1 ∷ widened c.from-2.result c.pair_of-m.result.b b_fits c.from-2.ensures ∷ [] in
    let sum : ℤ[ω] = value (eval (meanings ρ_a) part) (eval (meanings ρ_b) part) in
    let P = set_of c.args.p.parameters in
    let a = accepted_parameters P c.args.p.passes in
    let p = ap₂ value c.at-pa.ensures.0 c.at-pb.ensures.0 in
    c.remainder_q.ensures
    ∙ ap₂ (λ (q x : ℤ[ω]). written (reduce_q q x) 𝟘) modulus_read (ap₂ value (exact w64 ρ_a part tt) (exact w64 ρ_b part tt))
    ∙ remainder_is P.q sum a.q_small (modulus_nonzero P a) (not_beyond (2 ^ 40) sum (le_trans (size w64 ρ_a part tt) (lit≤ tt)) (le_trans (size w64 ρ_b part tt) (lit≤ tt)))
    ∙ ap (mod_q P.q) (ap₂ ◌+ω◌ (ap₂ ◌+ω◌ p p) c.pair_of-m.ensures)
