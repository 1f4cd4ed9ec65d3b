-- The limits of a value, and the outcome of the call modulo 2 (document 01, 'Where each number is checked').
use Rattle.std.specs.Prelude.{Err, Ok, Result}
use Rattle.refusals.specs.declared.Refusal.{Refusal}
use Rattle.eisenstein.specs.declared.Pair.{Pair}
use Rattle.std.specs.Prelude.{Bool, ◌||◌, [], ◌∷◌, ℕ, ◌^◌, ltb, nat_abs}
use Rattle.refusals.specs.Outcomes.{Outcome, done, refused, outcome, ◌if◌}
use Rattle.refusals.specs.Numbers.{number_of}
use Rattle.eisenstein.specs.Values.{ℤ[ω], value}
use Rattle.eisenstein.specs.Reduction.{mod2}

-- a part is below −m or above m
unfoldable pub beyond : ℕ → ℤ[ω] → Bool
beyond m x = ltb m (nat_abs x.a) || ltb m (nat_abs x.b)

-- "Modulo 2: 22."
unfoldable pub reduce2 : ℤ[ω] → Outcome ℤ[ω]
reduce2 x = outcome (22 if beyond (2 ^ 40) x ∷ []) (mod2 x)

-- The answer of either call, as an outcome.
abbrev pub answered : Result Pair Refusal → Outcome ℤ[ω]
answered (Ok r) = done (value r.a r.b)
answered (Err r) = refused (number_of r)
