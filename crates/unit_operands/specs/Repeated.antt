-- An array that stands twice, place by place. Only contracts of the steps that lay it out and that use it speak of it.
use Rattle.std.specs.Prelude.{◌≡◌, List, ℕ, ◌+◌, ◌*◌, ◌<◌, ℤ, pos, length, get_or}

-- `twice` is y, and y again after it
pub record Twice (y twice : List ℤ) : Type 0 where
  pub long : length twice ≡ 2 * length y
  pub first : (k : ℕ) → k < length y → get_or twice k (pos 0) ≡ get_or y k (pos 0)
  pub second : (k : ℕ) → k < length y → get_or twice (length y + k) (pos 0) ≡ get_or y k (pos 0)
