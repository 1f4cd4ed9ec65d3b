-- The refusals of convolution modulo q after those of its parameter set, in document 01's order. The output is known by its length, `room`.
use Rattle.std.specs.Prelude.{not, ◌&&◌, List, [], ◌∷◌, ℕ, ℤ, length}
use Rattle.refusals.specs.Outcomes.{Check, ◌if◌}
use Rattle.eisenstein.specs.Values.{ℤ[ω]}
use Rattle.polynomials.specs.Polynomials.{coefficient, reduced_q}
use Rattle.arrays.specs.Arrays.{full}

-- "Every operation below on a parameter set begins so, then 7." "Convolution modulo q: 12."
unfoldable pub convolving_checks : ℕ → ℤ[ω] → (x y : List ℤ) → ℕ → List Check
convolving_checks N q x y room =
    7 if not (full N (length x) && (full N (length y) && full N room))
    ∷ 12 if not (reduced_q N q (coefficient x) && reduced_q N q (coefficient y))
    ∷ []
