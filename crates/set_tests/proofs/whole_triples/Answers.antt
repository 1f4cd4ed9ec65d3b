-- `whole_triples` meets its contract.
use mathlib.Core.Path.{◌≡◌, refl, sym, ◌∙◌, ap}
use mathlib.Core.Bool.{Bool, true, false, ◌&&◌}
use lib.Dec.{leb}
use lib.ListN.{length}
use Rattle.polynomials.specs.Polynomials.{coefficient, units_only, equally_many, whole_triples}
use Rattle.arrays.specs.Arrays.{full}
use Rattle.set_tests.proofs.whole_triples.Goals as goal
use Rattle.set_tests.proofs.whole_triples.Goals.{Start}

-- the tests of N and of the length, before a test of the coefficients
abbrev asked : Start → Bool → Bool
asked s t = leb s.args.n 1024 && (full s.args.n (length s.args.x.now) && t)

abbrev units : Start → Bool
units s = units_only s.args.n s.args.s (coefficient s.args.x.now)

-- the test of the counts
abbrev rest : Start → Bool
rest s = equally_many s.args.n (coefficient s.args.x.now) 0 2 4 && equally_many s.args.n (coefficient s.args.x.now) 1 3 5

counts_last : (l f u z : Bool) → ((l && (f && u)) && z) ≡ (l && (f && (u && z)))
counts_last false f u z = refl
counts_last true false u z = refl
counts_last true true u z = refl

together : (s : Start) {b : Bool} → asked s (units s) ≡ b → (b && rest s) ≡ asked s (whole_triples s.args.n s.args.s (coefficient s.args.x.now))
unfolding whole_triples
together s e = sym (ap (λ (b : Bool). b && rest s) e) ∙ counts_last (leb s.args.n 1024) (full s.args.n (length s.args.x.now)) (units s) (rest s)

pub returns-then-units_only : goal.returns-then-units_only
returns-then-units_only c = c.in_triples.ensures ∙ together (goal.at.returns-then-units_only c).Start (sym c.units_only.ensures ∙ c.if-units_only.true)

pub returns-else-units_only : goal.returns-else-units_only
returns-else-units_only c = c.if-units_only.false ∙ together (goal.at.returns-else-units_only c).Start (sym c.units_only.ensures ∙ c.if-units_only.false)
