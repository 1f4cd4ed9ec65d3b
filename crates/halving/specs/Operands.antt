-- What is asked of the operands of a product by halving, and of the room for it.
use Rattle.std.specs.Prelude.{Bool, ◌&&◌, List, ℕ, ◌*◌, leb, ℤ, length}
use Rattle.arrays.specs.Arrays.{full, all_small}

-- Two arrays of N coefficients, N from 2 to 1,024, and room of 17N/2 numbers or more, at most 65,536.
unfoldable pub lengths_fit : (N x y room : ℕ) → Bool
lengths_fit N x y room = leb 2 N && (leb N 1024 && (full N x && (full N y && (leb room 65536 && leb (17 * N) (2 * room)))))

-- Operands that are multiplied by halving: their numbers are at most 5,461 in size. The output is known by its length, `room`.
unfoldable pub fit_for_halving : ℕ → (x y : List ℤ) → ℕ → Bool
fit_for_halving N x y room = lengths_fit N (length x) (length y) room && (all_small x && all_small y)
