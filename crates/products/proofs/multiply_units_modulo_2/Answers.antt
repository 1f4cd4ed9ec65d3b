-- `multiply_units_modulo_2` meets its contract: the product, and then each of its coefficients modulo 2.
use mathlib.Core.Path.{◌≡◌, sym, ◌∙◌, ap}
use mathlib.Core.Bool.{Bool, true}
use Prim.Native.Nat.{ℕ, ◌≤◌}
use mathlib.Core.List.{List}
use lib.IntN.{ℤ}
use lib.ListN.{length}
use Rattle.eisenstein.specs.Reduction.{mod2}
use Rattle.polynomials.specs.Polynomials.{Polynomial, coefficient, array, convolution}
use Rattle.polynomials.proofs.Arrays.{array_length, array_same, coefficient-array}
use Rattle.unit_operands.specs.Operands.{multipliable}
use Rattle.unit_operands.proofs.Operands.{operands_of, was_formed, formed}
use Rattle.products.proofs.multiply_units_modulo_2.Goals as goal
use Rattle.products.proofs.multiply_units_modulo_2.Goals.{Else-not-multiply_units, Start}

abbrev product : Start → Polynomial
product s = convolution s.args.n (coefficient s.args.x.now) (coefficient s.args.y.now)

abbrev value_of : Start → List ℤ
value_of s = array s.args.n (λ i. mod2 (product s i))

-- the product's coefficients, as they are read again
reduced : (n : ℕ) (x : Polynomial) (l : List ℤ) → l ≡ array n x → array n (λ i. mod2 (coefficient l i)) ≡ array n (λ i. mod2 (x i))
reduced n x l e = array_same n (λ i p. ap mod2 (ap (λ (m : List ℤ). coefficient m i) e ∙ coefficient-array n x i p))

-- the operands pass, or they do not
abbrev can : Start → Bool
can s = multipliable s.args.n s.args.x.now s.args.y.now (length s.args.out.now)

passed : (c : Else-not-multiply_units) → can c.before.before.before.before ≡ true
passed c = sym c.multiply_units.ensures.0 ∙ c.if-not-multiply_units.false

N_small : (c : Else-not-multiply_units) → c.args.n ≤ 1024
N_small c = (operands_of c.args.n c.args.x.now c.args.y.now c.args.out.now (passed c)).N_small

formed-product : (c : Else-not-multiply_units) → c.multiply_units.new.out ≡ array c.args.n (product c.before.before.before.before)
formed-product c = (was_formed _ _ (passed c) c.multiply_units.ensures).1

pub reduce_all-requires-clause-room : goal.reduce_all-requires-clause-room
reduce_all-requires-clause-room c = (N_small (goal.at.reduce_all-requires-clause-room c).Else-not-multiply_units, ap length (formed-product (goal.at.reduce_all-requires-clause-room c).Else-not-multiply_units) ∙ array_length c.args.n (product (goal.at.reduce_all-requires-clause-room c).Start))

pub returns : goal.returns
returns c = formed (value_of (goal.at.returns c).Start) c.args.out.now (passed (goal.at.returns c).Else-not-multiply_units) (c.reduce_all.ensures mod2 (λ a b r p q e. e) ∙ reduced c.args.n (product (goal.at.returns c).Start) _ (formed-product (goal.at.returns c).Else-not-multiply_units))
