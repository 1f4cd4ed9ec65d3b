-- `is_one` meets its contract.
use mathlib.Core.Path.{refl, ◌∙◌}
use mathlib.Core.Bool.{Bool}
use Prim.Native.Nat.{ℕ}
use Rattle.std.proofs.Common.{arith, rules, tests}
use Rattle.std.proofs.lemmas.Iterator.{YieldsList-from_range}
use Rattle.std.proofs.lemmas.Iterator.Search.{all_from_yields_List}
use Rattle.eisenstein.specs.Values.{same}
use Rattle.polynomials.specs.Polynomials.{coefficient, one}
use Rattle.arrays.proofs.Scans.{all_of_range}
use Rattle.key_check.proofs.inverses.is_one.Goals as goal

pub returns : goal.returns
returns c =
    let test : ℕ → Bool = λ i. same (coefficient c.args.x.now i) (one i) in
    all_from_yields_List test _ _ c.all.result c.all.ensures.ran (YieldsList-from_range 0 c.args.n c.args.n refl (omega arith)) (λ x b q k. search (rules, tests))
    ∙ all_of_range test c.args.n
