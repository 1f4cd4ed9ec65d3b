-- `Modulus::remainder` meets its contract: the best of the corners is `mod_q`, and it fits 32 bits.
use mathlib.Core.Path.{◌≡◌, sym, ◌∙◌, ap, ap₂, subst}
use Prim.Native.Nat.{◌≤◌}
use lib.Dec.{lit<}
use lib.IntN.{ℤ, nat_abs}
use mir.Syntax.{w32, w64}
use mir.Val.{to_z, of_z, SFits}
use Rattle.integers.proofs.Machine.{sfits_within, narrow_read, narrow_fits}
use Rattle.eisenstein.specs.Values.{ℤ[ω], value}
use Rattle.eisenstein.specs.Reduction.{mod_q, best}
use Rattle.eisenstein.proofs.Remainders.{mod_q_is_remainder, remainder_size}
use Rattle.remainders.proofs.Corners.{less10, less01, less11, best_corner_is}
use Rattle.remainders.proofs.Modulus.remainder.Goals as goal
use Rattle.remainders.proofs.Modulus.remainder.Goals.{After-best_corner-r}

abbrev q : After-best_corner-r → ℤ[ω]
q c = value c.args.self.c c.args.self.d

abbrev x : After-best_corner-r → ℤ[ω]
x c = value c.args.x.a c.args.x.b

abbrev r : After-best_corner-r → ℤ[ω]
r c = value c.best_corner-r.result.a c.best_corner-r.result.b

-- the best of the corners
r_is : (c : After-best_corner-r) → r c ≡ mod_q (q c) (x c)
r_is c =
    c.best_corner-r.ensures
    ∙ ap (λ (r : ℤ[ω]). best (best r (less10 (q c) r)) (best (less01 (q c) r) (less11 (q c) r))) c.first_corner.ensures.0
    ∙ best_corner_is (q c) (x c)

size : (c : After-best_corner-r) → (nat_abs (r c).a ≤ 5461) × (nat_abs (r c).b ≤ 5461)
size c =
    subst (λ (y : ℤ[ω]). (nat_abs y.a ≤ 5461) × (nat_abs y.b ≤ 5461)) (sym (r_is c))
    (remainder_size (q c) (x c) (mod_q (q c) (x c)) c.args.self.nonzero c.args.self.c_in_range c.args.self.d_in_range (mod_q_is_remainder (q c) (x c) c.args.self.nonzero))

-- a part of it, cast to 32 bits
narrow : (z : ℤ) → nat_abs z ≤ 5461 → SFits w32 (to_z w64 (of_z w64 z))
narrow z h = narrow_fits {w = w64} (sfits_within z h (lit< tt)) h (lit< tt)

narrowed : (z : ℤ) → nat_abs z ≤ 5461 → to_z w32 (of_z w32 (to_z w64 (of_z w64 z))) ≡ z
narrowed z h = narrow_read {w = w64} w32 (sfits_within z h (lit< tt)) h (lit< tt)

pub overflow_cast-result : goal.overflow_cast-result
overflow_cast-result c = narrow c.best_corner-r.result.a (size (goal.at.overflow_cast-result c).After-best_corner-r).0

pub overflow_cast-result-2 : goal.overflow_cast-result-2
overflow_cast-result-2 c = narrow c.best_corner-r.result.b (size (goal.at.overflow_cast-result-2 c).After-best_corner-r).1

pub returns : goal.returns
returns c = let r = (goal.at.returns c).After-best_corner-r in ap₂ value (narrowed _ (size r).0) (narrowed _ (size r).1) ∙ r_is r
