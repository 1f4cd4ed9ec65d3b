-- What is asked of a modulus, and of a function that reduces by it.
use Rattle.std.specs.Prelude.{◌≡◌, Bool, not, ◌&&◌, ◌^◌, ◌≤◌, ℤ, nat_abs}
use Rattle.eisenstein.specs.Values.{ℤ[ω], value, 𝟘, same}
use Rattle.eisenstein.specs.declared.Pair.{Pair}
use Rattle.eisenstein.specs.Calls.{beyond}

-- A modulus that refusals 2 and 21 do not refuse.
unfoldable pub usable : ℤ[ω] → Bool
usable q = not (beyond 4095 q) && not (same q 𝟘)

-- A function of two numbers that gives m of the value with these parts, where they are at most 2^40. `post` says what it can return.
abbrev pub Computes : (ℤ → ℤ → Pair → Type 0) → (ℤ[ω] → ℤ[ω]) → Type 0
Computes post m = (a b : ℤ) (r : Pair) → nat_abs a ≤ 2 ^ 40 → nat_abs b ≤ 2 ^ 40 → post a b r → value r.a r.b ≡ m (value a b)
