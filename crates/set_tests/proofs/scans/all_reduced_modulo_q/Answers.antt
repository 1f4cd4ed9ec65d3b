-- `all_reduced_modulo_q` meets its contract.
use mathlib.Core.Path.{refl, ◌∙◌, ap}
use mathlib.Core.Bool.{Bool}
use Prim.Native.Nat.{ℕ}
use mir.Syntax.{w32}
use mir.Val.{to_z, of_z}
use Rattle.std.proofs.Common.{arith, rules, tests}
use Rattle.std.proofs.lemmas.Iterator.{YieldsList-from_range}
use Rattle.std.proofs.lemmas.Iterator.Search.{all_from_yields_List}
use Rattle.eisenstein.specs.Values.{ℤ[ω], value, same}
use Rattle.eisenstein.specs.Reduction.{mod_q}
use Rattle.eisenstein.proofs.Pairs.{pair_read}
use Rattle.polynomials.specs.Polynomials.{coefficient, reduced_q}
use Rattle.arrays.proofs.Scans.{all_of_range}
use Rattle.set_tests.proofs.scans.all_reduced_modulo_q.Goals as goal

pub returns : goal.returns
unfolding reduced_q
returns c =
    let q : ℤ[ω] = value (to_z w32 (of_z w32 c.args.c)) (to_z w32 (of_z w32 c.args.d)) in
    let test : ℕ → Bool = λ i. same (mod_q q (coefficient c.args.x.now i)) (coefficient c.args.x.now i) in
    all_from_yields_List test _ _ c.all.result c.all.ensures.ran (YieldsList-from_range 0 c.args.n c.args.n refl (omega arith)) (λ x b q k. search (rules, tests))
    ∙ all_of_range test c.args.n
    ∙ ap (λ (q : ℤ[ω]). reduced_q c.args.n q (coefficient c.args.x.now)) (pair_read c.ranges.c c.ranges.d)
