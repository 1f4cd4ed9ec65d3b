-- `multiply_modulo_2` meets its contract.
use mathlib.Core.Path.{◌≡◌, refl, sym, ◌∙◌, ap₂}
use mathlib.Core.Bool.{Bool, ◌&&◌}
use mathlib.Core.List.{List}
use borrow.Author.Tests.{le-leb, lt-leb}
use lib.Dec.{leb}
use lib.IntN.{ℤ}
use lib.ListN.{length}
use Rattle.eisenstein.specs.Reduction.{mod2}
use Rattle.polynomials.specs.Polynomials.{coefficient, array, convolution}
use Rattle.arrays.specs.Arrays.{full}
use Rattle.unit_operands.proofs.Operands.{formed, not_formed}
use Rattle.class_products.specs.Lengths.{fit}
use Rattle.class_products.proofs.multiply_modulo_2.Goals as goal
use Rattle.class_products.proofs.multiply_modulo_2.Goals.{Start, then-n-gt1024-via-then-n-gt1024, then-n-gt1024-via-else-n-gt1024+then-not-three_full}

abbrev value_of : Start → List ℤ
value_of s = array s.args.n (λ i. mod2 (convolution s.args.n (coefficient s.args.x.now) (coefficient s.args.y.now) i))

-- the test of the three lengths
abbrev lengths : Start → Bool
lengths s =
    full s.args.n (length s.args.x.now)
    && (full s.args.n (length s.args.y.now) && full s.args.n (length s.args.out.now))

-- the whole test, after the tests that were made
together : (s : Start) {a b : Bool} → leb s.args.n 1024 ≡ a → lengths s ≡ b → fit s.args.n (length s.args.x.now) (length s.args.y.now) (length s.args.out.now) ≡ (a && b)
unfolding fit
together s e f = ap₂ ◌&&◌ e f

pub returns-then-n-gt1024 : goal.returns-then-n-gt1024
returns-then-n-gt1024 c =
    let s = (goal.at.returns-then-n-gt1024 c).Start in
    elim c.then-n-gt1024.branch [
      | then-n-gt1024-via-then-n-gt1024 w ↦ not_formed (value_of s) c.args.out.now (together s (lt-leb _ _ w.if-n-gt1024.true) refl) refl
      | then-n-gt1024-via-else-n-gt1024+then-not-three_full w ↦ not_formed (value_of s) c.args.out.now (together s (le-leb _ _ w.if-n-gt1024.false) (sym w.three_full.ensures ∙ w.if-not-three_full.true)) refl
    ]

pub returns : goal.returns
returns c = formed (value_of (goal.at.returns c).Start) c.args.out.now (together (goal.at.returns c).Start (le-leb _ _ c.if-n-gt1024.false) (sym c.three_full.ensures ∙ c.if-not-three_full.false)) c.multiply.ensures
