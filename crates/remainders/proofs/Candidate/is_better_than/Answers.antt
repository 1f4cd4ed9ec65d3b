-- `is_better_than` meets its contract: the norms decide, then the first parts, then the second.
use mathlib.Core.Path.{◌≡◌, sym, ◌∙◌, ap₂}
use native.Mathlib.Omega.{arith}
use borrow.Author.Rules.{rules}
use lib.IntN.{ℤ}
use lib.Signed.{lt_z, ◌≤ℤ◌}
use mir.Syntax.{w64}
use mir.Val.{to_z, of_z}
use mir.Facts.{to_z-of_z}
use Rattle.integers.proofs.Order.{≤ℤ_antisym}
use Rattle.integers.proofs.Machine.{lt_read, le_read}
use Rattle.eisenstein.specs.Values.{value, norm}
use Rattle.eisenstein.proofs.TieRule.{better-norm, worse_norm, better_a, worse_a, better_b}
use Rattle.remainders.proofs.Candidates.{norm_below, norm_not_above, differ_back}
use Rattle.remainders.proofs.Candidate.is_better_than.Goals as goal
use Rattle.remainders.proofs.Candidate.is_better_than.Goals.{Else-s-self}

abbrev back : ℤ → Type 0
back z = to_z w64 (of_z w64 z) ≡ z

-- the norms tie
tie_of : (c : Else-s-self) → norm (value c.args.self.a c.args.self.b) ≡ norm (value c.args.s.a c.args.s.b)
tie_of c =
    let m : back c.args.self.excess = to_z-of_z {w = w64} (search rules) in
    let n : back c.args.s.excess = to_z-of_z {w = w64} (search rules) in
    let l = norm_not_above (differ_back c.requires) (le_read m n c.if-self-s.false) in
    let k = norm_not_above c.requires (le_read n m c.if-s-self.false) in
    omega (arith, l, k)

pub returns-then-self-s : goal.returns-then-self-s
returns-then-self-s c =
    let m : back c.args.self.excess = to_z-of_z {w = w64} (search rules) in
    let n : back c.args.s.excess = to_z-of_z {w = w64} (search rules) in
    sym (better-norm _ _ (norm_below c.requires (lt_read m n c.if-self-s.true)))

pub returns-then-s-self : goal.returns-then-s-self
returns-then-s-self c =
    let m : back c.args.self.excess = to_z-of_z {w = w64} (search rules) in
    let n : back c.args.s.excess = to_z-of_z {w = w64} (search rules) in
    sym (worse_norm _ _ (norm_below (differ_back c.requires) (lt_read n m c.if-s-self.true)))

pub returns-then-s-self-2 : goal.returns-then-s-self-2
returns-then-s-self-2 c =
    let r : back c.args.self.a = to_z-of_z {w = w64} (search rules) in
    let s : back c.args.s.a = to_z-of_z {w = w64} (search rules) in
    sym (better_a _ _ (tie_of (goal.at.returns-then-s-self-2 c).Else-s-self) (lt_read s r c.if-s-self-2.true))

pub returns-then-self-s-2 : goal.returns-then-self-s-2
returns-then-self-s-2 c =
    let r : back c.args.self.a = to_z-of_z {w = w64} (search rules) in
    let s : back c.args.s.a = to_z-of_z {w = w64} (search rules) in
    sym (worse_a _ _ (tie_of (goal.at.returns-then-self-s-2 c).Else-s-self) (lt_read r s c.if-self-s-2.true))

pub returns : goal.returns
returns c =
    let ra : back c.args.self.a = to_z-of_z {w = w64} (search rules) in
    let sa : back c.args.s.a = to_z-of_z {w = w64} (search rules) in
    let rb : back c.args.self.b = to_z-of_z {w = w64} (search rules) in
    let sb : back c.args.s.b = to_z-of_z {w = w64} (search rules) in
    let p : c.args.self.a ≤ℤ c.args.s.a = le_read sa ra c.if-s-self-2.false in
    let q : c.args.s.a ≤ℤ c.args.self.a = le_read ra sa c.if-self-s-2.false in
    ap₂ lt_z sb rb ∙ sym (better_b (value c.args.self.a c.args.self.b) (value c.args.s.a c.args.s.b) (tie_of (goal.at.returns c).Else-s-self) (≤ℤ_antisym q p))
