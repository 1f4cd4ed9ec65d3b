-- `own_remainder_q_at` meets its contract.
use mathlib.Core.Path.{◌≡◌, ◌∙◌, ap₂}
use mathlib.Core.Bool.{not, ◌&&◌}
use Prim.Native.Nat.{◌+◌, ◌*◌}
use borrow.Author.Rules.{rules}
use lib.IntN.{pos}
use lib.ListN.{get_or}
use mir.Syntax.{w32}
use mir.Val.{to_z, of_z}
use Rattle.eisenstein.specs.Values.{ℤ[ω], value, 𝟘, same}
use Rattle.eisenstein.specs.Reduction.{mod_q}
use Rattle.eisenstein.specs.Calls.{beyond}
use Rattle.eisenstein.proofs.Equality.{same_false}
use Rattle.eisenstein.proofs.Pairs.{pair_read}
use Rattle.polynomials.specs.Polynomials.{coefficient}
use Rattle.set_tests.proofs.scans.own_remainder_q_at.Goals as goal

pub returns : goal.returns
unfolding coefficient
returns c =
    let x_read : value (to_z w32 (of_z w32 (get_or c.args.x.now (2 * c.args.i) (pos 0)))) (to_z w32 (of_z w32 (get_or c.args.x.now (2 * c.args.i + 1) (pos 0)))) ≡ coefficient c.args.x.now c.args.i =
    pair_read {w = w32} (search rules) (search rules) in
    c.is_remainder.ensures
    ∙ ap₂ (λ (q x : ℤ[ω]). not (beyond 4095 q) && (not (same q 𝟘) && same (mod_q q x) x)) (pair_read c.ranges.c c.ranges.d) x_read
    ∙ rw (c.requires.2.in_range, same_false (value c.args.c c.args.d) 𝟘 c.requires.2.not_zero)
