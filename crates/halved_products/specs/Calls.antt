-- What the calls of products by halving give.
use Rattle.std.specs.Prelude.{◌≡◌, Bool, true, false, cond, List, ◌++◌, ℕ, ◌*◌, ◌<◌, leb, ℤ}
use Rattle.refusals.specs.Outcomes.{Outcome, done, refused, outcome}
use Rattle.parameters.specs.Sets.{ParameterSet, parameter_checks}
use Rattle.polynomials.specs.Polynomials.{coefficient}
use Rattle.halving.specs.Products.{product}
use Rattle.convolution_refusals.specs.Checks.{convolving_checks}

-- A call that answers whether it could, and has left the 2N coefficients of the product at the start of an output that held `old` if so, and `old` if not. All that stands behind the product is room, and is left free.
abbrev pub Multiplies : Bool → ℕ → (x y : List ℤ) → Bool → (old new : List ℤ) → Type 0
Multiplies can N x y r old new =
    (r ≡ can) × (can ≡ false → new ≡ old) × (can ≡ true → (i : ℕ) → i < 2 * N → coefficient new i ≡ product (coefficient x) (coefficient y) i)

-- Convolution modulo q as far as direct sums go: its refusals for every N, and whether N is at most 16, so that the result is formed.
unfoldable pub beginning : ParameterSet → (x y : List ℤ) → ℕ → Outcome Bool
beginning p x y room = outcome (parameter_checks p ++ convolving_checks p.N p.q x y room) (leb p.N 16)

-- What an output holds then, that held `old` before: the value where it is formed, and `old` otherwise.
abbrev pub left : {A : Type 0} → Outcome Bool → A → A → A
left (done formed) value old = cond formed value old
left (refused n) value old = old

-- A call that has answered so, and left `new` in an output that held `old`, has begun so.
abbrev pub Begins : {A : Type 0} → Outcome Bool → A → Outcome Bool → (old new : A) → Type 0
Begins o value r old new = (r ≡ o) × (new ≡ left o value old)
