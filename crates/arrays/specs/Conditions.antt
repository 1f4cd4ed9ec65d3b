-- What steps modulo q count on, once a call has asked it. Only contracts of those steps speak of it.
use Rattle.std.specs.Prelude.{◌≡◌, false, ◌≢◌}
use Rattle.eisenstein.specs.Values.{ℤ[ω], 𝟘}
use Rattle.eisenstein.specs.Calls.{beyond}

-- a modulus in range and not zero
pub record Modulus (q : ℤ[ω]) : Type 0 where
  pub in_range : beyond 4095 q ≡ false
  pub not_zero : q ≢ 𝟘
