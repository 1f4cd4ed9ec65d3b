-- What the search for the best corner counts on. Only contracts of its steps speak of it.
use Rattle.std.specs.Prelude.{◌≡◌, ℤ, pos, ◌+ℤ◌}
use Rattle.eisenstein.specs.Values.{ℤ[ω], norm}

-- the norms of r and s differ as m and n do
pub record Differ (r : ℤ[ω]) (m : ℤ) (s : ℤ[ω]) (n : ℤ) : Type 0 where
  pub sums : pos (norm r) +ℤ n ≡ pos (norm s) +ℤ m
