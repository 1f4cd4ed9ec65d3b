-- `units_only` meets its contract.
use mathlib.Core.Path.{◌≡◌, refl, sym, ◌∙◌, ap}
use mathlib.Core.Bool.{Bool, true, false, ◌&&◌}
use Prim.Native.Nat.{ℕ, ◌*◌, ◌^◌, ◌<◌}
use lib.Dec.{leb, eqb}
use lib.ListN.{length}
use Rattle.polynomials.specs.Polynomials.{coefficient, count, nonzero, units_only, zeros_and_units}
use Rattle.arrays.specs.Arrays.{full, units_array}
use Rattle.set_tests.proofs.Sized.{sized}
use Rattle.set_tests.proofs.units_only.Goals as goal
use Rattle.set_tests.proofs.units_only.Goals.{Start}

abbrev counted : Start → ℕ
counted s = count s.args.n (λ i. nonzero (coefficient s.args.x.now i))

-- the test of the count after the others, and where the definition has it
count_last : (l f u c : Bool) → ((l && (f && u)) && c) ≡ (l && (f && (c && u)))
count_last false f u c = refl
count_last true false u c = refl
count_last true true true true = refl
count_last true true true false = refl
count_last true true false true = refl
count_last true true false false = refl

together : (s : Start) {b : Bool} → units_array s.args.n s.args.x.now ≡ b → (b && eqb (counted s) s.args.t) ≡ (leb s.args.n 1024 && (full s.args.n (length s.args.x.now) && units_only s.args.n s.args.t (coefficient s.args.x.now)))
unfolding units_array units_only
together s e = sym (ap (λ (b : Bool). b && eqb (counted s) s.args.t) e) ∙ count_last (leb s.args.n 1024) (full s.args.n (length s.args.x.now)) (zeros_and_units s.args.n (coefficient s.args.x.now)) (eqb (counted s) s.args.t)

-- what the count asks of N and of the length
array_of : (s : Start) → units_array s.args.n s.args.x.now ≡ true → (s.args.n < 2 ^ 32) × (length s.args.x.now ≡ 2 * s.args.n)
unfolding units_array
array_of s e = sized s.args.n s.args.x.now (zeros_and_units s.args.n (coefficient s.args.x.now)) e

pub count_nonzero-requires : goal.count_nonzero-requires
count_nonzero-requires c = array_of (goal.at.count_nonzero-requires c).Start (sym c.zeros_and_units.ensures ∙ c.if-zeros_and_units.true)

pub returns-then-zeros_and_units : goal.returns-then-zeros_and_units
returns-then-zeros_and_units c = ap (λ (k : ℕ). eqb k c.args.t) c.count_nonzero.ensures ∙ together (goal.at.returns-then-zeros_and_units c).Start (sym c.zeros_and_units.ensures ∙ c.if-zeros_and_units.true)

pub returns-else-zeros_and_units : goal.returns-else-zeros_and_units
returns-else-zeros_and_units c = c.if-zeros_and_units.false ∙ together (goal.at.returns-else-zeros_and_units c).Start (sym c.zeros_and_units.ensures ∙ c.if-zeros_and_units.false)
