-- `multiply_units_modulo_q` meets its contract: the product, and then each of its coefficients modulo q.
use mathlib.Core.Path.{◌≡◌, sym, ◌∙◌, ap, ap₂}
use mathlib.Core.Bool.{Bool, true, ◌&&◌}
use Prim.Native.Nat.{ℕ, ◌≤◌}
use mathlib.Core.List.{List}
use borrow.Author.Rules.{rules}
use lib.IntN.{ℤ}
use lib.ListN.{length}
use Rattle.eisenstein.specs.Values.{ℤ[ω], value, 𝟘}
use Rattle.eisenstein.specs.Reduction.{mod_q}
use Rattle.eisenstein.proofs.Pairs.{pair_read}
use Rattle.polynomials.specs.Polynomials.{Polynomial, coefficient, array, convolution}
use Rattle.polynomials.proofs.Arrays.{array_length, array_same, coefficient-array}
use Rattle.unit_operands.specs.Operands.{multipliable}
use Rattle.unit_operands.proofs.Operands.{operands_of, was_formed, formed}
use Rattle.products.specs.Products.{usable}
use Rattle.arrays.specs.Conditions.{Modulus}
use Rattle.remainders.specs.Calls.{reduce_q}
use Rattle.refusals.specs.Outcomes.{written}
use Rattle.products.proofs.Operands.{modulus_of, remainder_of_lem}
use Rattle.products.proofs.multiply_units_modulo_q.Goals as goal
use Rattle.products.proofs.multiply_units_modulo_q.Goals.{After-usable, Else-not-multiply_units, Else-not-usable, Start}

abbrev q : Start → ℤ[ω]
q s = value s.args.c s.args.d

abbrev product : Start → Polynomial
product s = convolution s.args.n (coefficient s.args.x.now) (coefficient s.args.y.now)

abbrev value_of : Start → List ℤ
value_of s = array s.args.n (λ i. mod_q (q s) (product s i))

abbrev multiplied : Start → Bool
multiplied s = multipliable s.args.n s.args.x.now s.args.y.now (length s.args.out.now)

-- what the test of q gave
tested : (c : After-usable) → usable (q c.before) ≡ c.usable.result
tested c = sym (c.usable.ensures ∙ ap usable (pair_read c.ranges.c c.ranges.d))

q_usable : (c : Else-not-usable) → usable (q c.before.before) ≡ true
q_usable c = tested c.before ∙ c.if-not-usable.false

-- the product's coefficients, as they are read again
reduced : (n : ℕ) (q : ℤ[ω]) (x : Polynomial) (l : List ℤ) → l ≡ array n x → array n (λ i. mod_q q (coefficient l i)) ≡ array n (λ i. mod_q q (x i))
reduced n q x l e = array_same n (λ i p. ap (mod_q q) (ap (λ (m : List ℤ). coefficient m i) e ∙ coefficient-array n x i p))

passed : (c : Else-not-multiply_units) → multiplied c.before.before.before.before.before.before ≡ true
passed c = sym c.multiply_units.ensures.0 ∙ c.if-not-multiply_units.false

N_small : (c : Else-not-multiply_units) → c.args.n ≤ 1024
N_small c = (operands_of c.args.n c.args.x.now c.args.y.now c.args.out.now (passed c)).N_small

formed-product : (c : Else-not-multiply_units) → c.multiply_units.new.out ≡ array c.args.n (product c.before.before.before.before.before.before)
formed-product c = (was_formed _ _ (passed c) c.multiply_units.ensures).1

pub reduce_all-requires-clause-room : goal.reduce_all-requires-clause-room
reduce_all-requires-clause-room c = (N_small (goal.at.reduce_all-requires-clause-room c).Else-not-multiply_units, ap length (formed-product (goal.at.reduce_all-requires-clause-room c).Else-not-multiply_units) ∙ array_length c.args.n (product (goal.at.reduce_all-requires-clause-room c).Start))

pub returns : goal.returns
returns c =
    let m : Modulus (q (goal.at.returns c).Start) = modulus_of (q (goal.at.returns c).Start) (q_usable (goal.at.returns c).Else-not-usable) in
    formed (value_of (goal.at.returns c).Start) c.args.out.now (ap₂ ◌&&◌ (passed (goal.at.returns c).Else-not-multiply_units) (q_usable (goal.at.returns c).Else-not-usable))
    (c.reduce_all.ensures (mod_q (q (goal.at.returns c).Start)) (λ a b r f g e.
    let s : value r.a r.b ≡ written (reduce_q (value c.args.c c.args.d) (value a b)) 𝟘 = search rules in
    s ∙ remainder_of_lem _ _ m f g)
    ∙ reduced c.args.n (q (goal.at.returns c).Start) (product (goal.at.returns c).Start) _ (formed-product (goal.at.returns c).Else-not-multiply_units))
