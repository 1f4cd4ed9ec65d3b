-- What is asked of the operands of a product modulo 2. An output is known by its length, `room`.
use Rattle.std.specs.Prelude.{Bool, ◌&&◌, ℕ, leb}
use Rattle.arrays.specs.Arrays.{full}

-- N at most 1,024, and three full arrays, of any numbers.
unfoldable pub fit : ℕ → (x y room : ℕ) → Bool
fit N x y room = leb N 1024 && (full N x && (full N y && full N room))
