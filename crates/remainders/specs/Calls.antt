-- The outcome of the call on one value modulo q (document 01, 'Where each number is checked'), and an array in which a value is stored.
use Rattle.std.specs.Prelude.{cond, List, [], ◌∷◌, ℕ, ◌+◌, ◌*◌, ◌/◌, ◌^◌, leb, ℤ, length, set}
use Rattle.refusals.specs.Outcomes.{Check, Outcome, outcome, ◌if◌}
use Rattle.eisenstein.specs.Values.{ℤ[ω], 𝟘, same}
use Rattle.eisenstein.specs.Reduction.{mod_q}
use Rattle.eisenstein.specs.Calls.{beyond}

-- "One value modulo q: 2, 21, 22."
abbrev pub reduction_checks : ℤ[ω] → ℤ[ω] → List Check
reduction_checks q x = 2 if beyond 4095 q ∷ 21 if same q 𝟘 ∷ 22 if beyond (2 ^ 40) x ∷ []

unfoldable pub reduce_q : ℤ[ω] → ℤ[ω] → Outcome ℤ[ω]
reduce_q q x = outcome (reduction_checks q x) (mod_q q x)

-- An array whose coefficient i is v now. Where it has no such coefficient it stays as it is.
unfoldable pub with_coefficient : ℕ → ℤ[ω] → List ℤ → List ℤ
with_coefficient i v l = cond (leb (length l / 2) i) l (set (set l (2 * i) v.a) (2 * i + 1) v.b)
