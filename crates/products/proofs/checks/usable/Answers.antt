-- `usable` meets its contract.
use mathlib.Core.Path.{◌≡◌, sym, ◌∙◌, ap}
use mathlib.Core.Bool.{Bool, not, ◌&&◌}
use mir.Syntax.{w64}
use Rattle.eisenstein.specs.Values.{ℤ[ω], value, 𝟘, same}
use Rattle.eisenstein.specs.Calls.{beyond}
use Rattle.eisenstein.proofs.Pairs.{pair_read, pair_cast}
use Rattle.products.specs.Products.{usable}
use Rattle.products.proofs.checks.usable.Goals as goal
use Rattle.products.proofs.checks.usable.Goals.{After-modulus_out_of_range}

-- the whole test, once its first part is known
tested : (c : After-modulus_out_of_range) {t : Bool} → c.modulus_out_of_range.result ≡ t → usable (value c.args.c c.args.d) ≡ (not t && not (same (value c.args.c c.args.d) 𝟘))
unfolding usable
tested c e = ap (λ (t : Bool). not t && not (same (value c.args.c c.args.d) 𝟘)) (sym (c.modulus_out_of_range.ensures ∙ ap (beyond 4095) (pair_read c.ranges.c c.ranges.d)) ∙ e)

pub returns-then-not-modulus_out_of_range : goal.returns-then-not-modulus_out_of_range
returns-then-not-modulus_out_of_range c =
    ap not (c.is_zero.ensures ∙ ap (λ (z : ℤ[ω]). same z 𝟘) (pair_cast w64 tt c.ranges.c c.ranges.d))
    ∙ sym (tested (goal.at.returns-then-not-modulus_out_of_range c).After-modulus_out_of_range c.if-not-modulus_out_of_range.true)

pub returns-else-not-modulus_out_of_range : goal.returns-else-not-modulus_out_of_range
returns-else-not-modulus_out_of_range c = ap not c.if-not-modulus_out_of_range.false ∙ sym (tested (goal.at.returns-else-not-modulus_out_of_range c).After-modulus_out_of_range c.if-not-modulus_out_of_range.false)
