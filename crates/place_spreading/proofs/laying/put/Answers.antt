-- `put` meets its contract.
use mathlib.Core.Path.{sym, ◌∙◌, ap}
use mathlib.Core.Bool.{Bool, not}
use native.Mathlib.Omega.{arith}
use native.Mathlib.Nat.{mod-eq_of_lt}
use borrow.Author.Rules.{rules}
use mir.Syntax.{w32}
use Rattle.eisenstein.specs.Values.{unit}
use Rattle.eisenstein.proofs.Pairs.{pair_read}
use Rattle.polynomials.specs.Polynomials.{nonzero}
use Rattle.place_spreading.proofs.Records.{stored_one}
use Rattle.place_spreading.proofs.laying.put.Goals as goal

pub returns-then-free-clause-value : goal.returns-then-free-clause-value
unfolding nonzero
returns-then-free-clause-value c = c.if-free.true ∙ sym (ap (λ (t : Bool). not (not t)) (sym c.coefficient_is-free.ensures ∙ c.if-free.true))

pub returns-then-free-clause-i_after : goal.returns-then-free-clause-i_after
returns-then-free-clause-i_after c _ =
    stored_one c.args.x.now c.args.r.place _ _ c.requires.0 (pair_read {w = w32} {a = c.unit-u.result.a} {b = c.unit-u.result.b} (search rules) (search rules) ∙ c.unit-u.ensures ∙ ap unit (mod-eq_of_lt (omega (arith, c.requires.1))))

pub returns-else-free-clause-value : goal.returns-else-free-clause-value
unfolding nonzero
returns-else-free-clause-value c = c.if-free.false ∙ sym (ap (λ (t : Bool). not (not t)) (sym c.coefficient_is-free.ensures ∙ c.if-free.false))
