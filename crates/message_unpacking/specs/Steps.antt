-- A step of unpacking. Only contracts of the steps speak of it.
use Rattle.std.specs.Prelude.{ℕ, ◌+◌, ◌*◌}

-- four bits from bit k on, as a number
abbrev pub four_bits : (ℕ → ℕ) → ℕ → ℕ
four_bits b k = 8 * b k + 4 * b (k + 1) + 2 * b (k + 2) + b (k + 3)
