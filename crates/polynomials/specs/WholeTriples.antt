-- What document 02's wish 3 promises of the set of g and φ, for every N and s; each is proved in proofs/WholeTriples.antt.
use Rattle.std.specs.Prelude.{◌≡◌, Bool, false, ◌&&◌, ℕ, T}
use Rattle.eisenstein.specs.Values.{𝟘, same}
use Rattle.polynomials.specs.Polynomials.{Polynomial, sum, units_only, unit_count, whole_triples}

-- "g and φ must hold equally many of units 0, 2 and 4, and equally many of units 1, 3 and 5": so does each member, and what does is one.
pub record Whole (N s : ℕ) (x : Polynomial) : Type 0 where
  pub units : T (units_only N s x)
  pub even : (unit_count N x 0 ≡ unit_count N x 2) × (unit_count N x 2 ≡ unit_count N x 4)
  pub odd : (unit_count N x 1 ≡ unit_count N x 3) × (unit_count N x 3 ≡ unit_count N x 5)

abbrev pub MembersAreWhole : Type 0
MembersAreWhole = (N s : ℕ) (x : Polynomial) → T (whole_triples N s x) → Whole N s x

abbrev pub WholeAreMembers : Type 0
WholeAreMembers = (N s : ℕ) (x : Polynomial) → Whole N s x → T (whole_triples N s x)

-- "The sum is still zero"
abbrev pub SumStillZero : Type 0
SumStillZero = (N s : ℕ) (x : Polynomial) → T (whole_triples N s x) → sum N x ≡ 𝟘

-- Document 01's set of g and φ: "exactly s nonzero coefficients, each a unit, whose sum is zero"
unfoldable pub units_of_sum_zero : ℕ → ℕ → Polynomial → Bool
units_of_sum_zero N s x = units_only N s x && same (sum N x) 𝟘

-- "the narrower set": each of its members is one of document 01's,
abbrev pub Narrower : Type 0
Narrower = (N s : ℕ) (x : Polynomial) → T (whole_triples N s x) → T (units_of_sum_zero N s x)

-- and no g "with three coefficients 1 and three −1" is among them, while document 01's set has them all.
abbrev pub ThreeAndThreeRefused : Type 0
ThreeAndThreeRefused = (N : ℕ) (x : Polynomial) → T (units_only N 6 x) → unit_count N x 0 ≡ 3 → unit_count N x 3 ≡ 3 → T (units_of_sum_zero N 6 x) × (whole_triples N 6 x ≡ false)
