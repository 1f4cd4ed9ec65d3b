-- `norm` meets its contract: parts of 16 bits have a norm of 32.
use mathlib.Core.Path.{◌≡◌, sym, ◌∙◌, ap, ap₂, subst}
use Prim.Native.Nat.{◌≤◌, ◌^◌}
use native.Mathlib.Omega.{arith}
use borrow.Author.Rules.{rules}
use lib.Dec.{T}
use lib.IntN.{ℤ, pos, nat_abs}
use lib.Signed.{non_neg, nat_abs-le}
use mir.Syntax.{w64}
use mir.Val.{to_z, of_z}
use mir.Facts.{to_z-of_z}
use Rattle.integers.proofs.Machine.{cast_read}
use Rattle.eisenstein.specs.Values.{ℤ[ω], value, norm}
use Rattle.eisenstein.proofs.Norms.{norm-bound}
use Rattle.eisenstein.proofs.norm.Goals as goal
use Rattle.eisenstein.proofs.norm.Goals.{After-wide_norm, Start}

abbrev x : Start → ℤ[ω]
x c = value c.args.a c.args.b

a_size : (c : Start) → nat_abs c.args.a ≤ 2 ^ 15
a_size c = nat_abs-le c.args.a c.ranges.a.sfits

b_size : (c : Start) → nat_abs c.args.b ≤ 2 ^ 15
b_size c = nat_abs-le c.args.b c.ranges.b.sfits

-- what the call returned, read back
result_is : (c : After-wide_norm) → to_z w64 (of_z w64 c.wide_norm.result) ≡ pos (norm (x c.before))
result_is c =
    to_z-of_z {w = w64} (search rules) ∙ c.wide_norm.ensures
    ∙ ap₂ (λ (u v : ℤ). pos (norm (value u v))) (cast_read w64 tt c.ranges.a) (cast_read w64 tt c.ranges.b)

pub overflow_cast-result : goal.overflow_cast-result
overflow_cast-result c = (
  subst (λ (z : ℤ). T (non_neg z)) (sym (result_is c)) tt,
  record { fits = omega (arith, ap nat_abs (result_is c), norm-bound (x c.before) (2 ^ 15) (a_size c.before) (b_size c.before)) },
)
