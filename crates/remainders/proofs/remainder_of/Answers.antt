-- `remainder_of` meets its contract: where nothing is refused the modulus and the value are within the limits.
use mathlib.Core.Path.{sym, ◌∙◌, subst}
use Prim.Native.Nat.{◌≤◌, ◌^◌}
use lib.IntN.{nat_abs}
use mir.Syntax.{w64}
use Rattle.eisenstein.specs.Values.{ℤ[ω], value}
use Rattle.eisenstein.proofs.Limits.{within}
use Rattle.eisenstein.proofs.Pairs.{pair_read, pair_cast}
use Rattle.remainders.proofs.Limits.{Reducible, reducible}
use Rattle.remainders.proofs.remainder_of.Goals as goal
use Rattle.remainders.proofs.remainder_of.Goals.{Start}

abbrev q : Start → ℤ[ω]
q c = value c.args.c c.args.d

abbrev x : Start → ℤ[ω]
x c = value c.args.a c.args.b

passed : (s : Start) → Reducible (q s) (x s)
passed s = reducible (q s) (x s) s.requires

pub new-requires : goal.new-requires
new-requires c =
    let e = pair_cast w64 tt c.ranges.c c.ranges.d in
    let (m, n) = within 4095 (q c) (passed c).q_small in (
      subst (λ (y : ℤ[ω]). nat_abs y.a ≤ 4095) (sym e) m,
      subst (λ (y : ℤ[ω]). nat_abs y.b ≤ 4095) (sym e) n,
      (λ z. (passed c).q_some (sym e ∙ z)),
    )

pub remainder-requires : goal.remainder-requires
remainder-requires c =
    let s = (goal.at.remainder-requires c).Start in
    let e = pair_read s.ranges.a s.ranges.b in
    let (k, l) = within (2 ^ 40) (x s) (passed s).x_small in (
      subst (λ (y : ℤ[ω]). nat_abs y.a ≤ 2 ^ 40) (sym e) k,
      subst (λ (y : ℤ[ω]). nat_abs y.b ≤ 2 ^ 40) (sym e) l,
    )
