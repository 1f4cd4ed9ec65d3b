-- `as_good` meets its contract.
use mathlib.Core.Path.{◌≡◌, refl, sym, ◌∙◌, ap₂, subst}
use mathlib.Core.Bool.{true, false}
use mathlib.Core.List.{List, [], ◌∷◌}
use Prim.Native.Nat.{◌≤◌, ◌^◌}
use borrow.Author.Tests.{le-ltb}
use lib.Dec.{T, leb→le}
use lib.IntN.{ℤ, pos, negsuc, nat_abs, ◌-ℤ◌, ◌+ℤ◌}
use lib.Signed.{lt_z, le_z}
use mir.Syntax.{w64}
use mir.Facts.{to_z-of_z}
use Rattle.integers.proofs.Ring.{Expr, var, ◌⊕◌, ◌⊝◌}
use Rattle.integers.proofs.Machine.{Leaf, given, reading, stored, exact}
use Rattle.own_remainders.specs.Neighbours.{lead}
use Rattle.own_remainders.proofs.as_good.Goals as goal
use Rattle.own_remainders.proofs.as_good.Goals.{After-lead-p}

abbrev ρ : After-lead-p → List Leaf
ρ c =
    given c.args.n (2 ^ 26) c.requires
    ∷ record {
      code = c.lead-p.result;
      meant = lead c.args.w.a c.args.w.b;
      bound = 1;
      is = c.lead-p.ensures.0;
      small = subst (λ (z : ℤ). nat_abs z ≤ 1) c.lead-p.ensures.0 c.lead-p.ensures.1;
    }
    ∷ []

abbrev n : Expr
n = var 0

abbrev p : Expr
p = var 1

-- a test of t, as the code has it, against an end of the range
tested : (c : After-lead-p) (f : Expr) (z : ℤ) → reading w64 f (stored w64 (ρ c) f) ≡ z → lt_z (reading w64 (var 0) c.args.t) (reading w64 f (stored w64 (ρ c) f)) ≡ lt_z c.args.t z
tested c f z e = ap₂ lt_z (to_z-of_z c.ranges.t) e

low : (c : After-lead-p) → reading w64 (p ⊝ n) (stored w64 (ρ c) (p ⊝ n)) ≡ lead c.args.w.a c.args.w.b -ℤ c.args.n
low c = exact w64 (ρ c) (p ⊝ n) tt

high : (c : After-lead-p) → reading w64 (n ⊕ p) (stored w64 (ρ c) (n ⊕ p)) ≡ c.args.n +ℤ lead c.args.w.a c.args.w.b
high c = exact w64 (ρ c) (n ⊕ p) tt

below : (a b : ℤ) → le_z a b ≡ true → lt_z b a ≡ false
below (pos a) (pos b) e = le-ltb b a (leb→le a b (subst T (sym e) tt))
below (pos a) (negsuc b) e = sym e
below (negsuc a) (pos b) e = refl
below (negsuc a) (negsuc b) e = le-ltb a b (leb→le b a (subst T (sym e) tt))

pub returns-then-p-n : goal.returns-then-p-n
returns-then-p-n c =
    let f = reading w64 (p ⊝ n) (stored w64 (ρ c.before) (p ⊝ n)) in
    let e : lt_z c.args.t (lead c.args.w.a c.args.w.b -ℤ c.args.n) ≡ false =
    sym (tested c.before (p ⊝ n) _ (low c.before)) ∙ below f (reading w64 (var 0) c.args.t) c.if-p-n.true in
    rw e (tested c.before (n ⊕ p) _ (high c.before))
