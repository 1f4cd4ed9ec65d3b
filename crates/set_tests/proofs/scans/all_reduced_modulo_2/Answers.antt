-- `all_reduced_modulo_2` meets its contract.
use mathlib.Core.Path.{refl, ◌∙◌}
use mathlib.Core.Bool.{Bool}
use Prim.Native.Nat.{ℕ}
use Rattle.std.proofs.Common.{arith, rules, tests}
use Rattle.std.proofs.lemmas.Iterator.{YieldsList-from_range}
use Rattle.std.proofs.lemmas.Iterator.Search.{all_from_yields_List}
use Rattle.eisenstein.specs.Values.{same}
use Rattle.eisenstein.specs.Reduction.{mod2}
use Rattle.polynomials.specs.Polynomials.{coefficient, reduced2}
use Rattle.arrays.proofs.Scans.{all_of_range}
use Rattle.set_tests.proofs.scans.all_reduced_modulo_2.Goals as goal

pub returns : goal.returns
unfolding reduced2
returns c =
    let test : ℕ → Bool = λ i. same (mod2 (coefficient c.args.x.now i)) (coefficient c.args.x.now i) in
    all_from_yields_List test _ _ c.all.result c.all.ensures.ran (YieldsList-from_range 0 c.args.n c.args.n refl (omega arith)) (λ x b q k. search (rules, tests))
    ∙ all_of_range test c.args.n
