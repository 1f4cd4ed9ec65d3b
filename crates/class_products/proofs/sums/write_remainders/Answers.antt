-- `write_remainders` meets its contract. The loop's invariant: the values so far are written.
use mathlib.Core.Path.{◌≡◌, refl, sym, ◌∙◌, ap}
use mathlib.Core.List.{List, map}
use Prim.Native.Nat.{ℕ, ◌+◌, ◌*◌, ◌<◌}
use native.Mathlib.Omega.{arith}
use borrow.Author.Rules.{rules}
use lib.IntN.{pos}
use lib.ListN.{length, get_or, get_or-map}
use mir.Syntax.{w32}
use Rattle.eisenstein.specs.Values.{ℤ[ω], 𝟘}
use Rattle.eisenstein.specs.declared.Pair.{Pair}
use Rattle.eisenstein.proofs.Pairs.{pair_read}
use Rattle.arrays.proofs.Changing.{stored_next, stored_all}
use Rattle.classes.specs.Classes.{remainders, remainder_of}
use Rattle.classes.specs.Pairs.{value_of}
use Rattle.class_products.proofs.sums.write_remainders.Goals as goal

-- the value of a class, read from those of all four
read : (values : List Pair) (k : ℕ) → map value_of values ≡ remainders → value_of (get_or values k (record { a = pos 0; b = pos 0 })) ≡ remainder_of k
unfolding remainder_of
read values k e = sym (get_or-map value_of values k (record { a = pos 0; b = pos 0 })) ∙ ap (λ (l : List ℤ[ω]). get_or l k 𝟘) e

pub loop-i-preserved : goal.loop-i-preserved
loop-i-preserved c =
    let inside : 2 * c.loop-i.i + 1 < length c.loop-i.out = omega (arith, c.loop-i.invariant.long, c.requires) in
    let r = c.remainders-values in
    let k : ℕ = c.from.result in
    stored_next c.loop-i.invariant refl inside (pair_read {w = w32} {a = (get_or r.result k (record { a = pos 0; b = pos 0 })).a} {b = (get_or r.result k (record { a = pos 0; b = pos 0 })).b} (search rules) (search rules) ∙ read r.result k r.ensures ∙ ap remainder_of c.from.ensures)

pub returns : goal.returns
returns c = stored_all c.args.n c.loop-i.invariant c.requires.2 (omega arith)
