-- How long a file can be: at most four arrays, of at most 1,024 coefficients where N is accepted.
use mathlib.Core.Path.{subst}
use Prim.Native.Nat.{ℕ, ◌+◌, ◌*◌, ◌≤◌, ◌<◌}
use native.Mathlib.Omega.{arith}
use native.Mathlib.Nat.{mul-le-mul, mul-le-mul_left, mul-suc}
use lib.ListN.{length}
use Rattle.heads.specs.Kinds.{arrays_of}
use Rattle.files.specs.Files.{file_numbers}
use Rattle.heads.proofs.ArraysOfKinds.{at_most_four}

pub four_arrays : (n k b : ℕ) → n ≤ b → k ≤ 4 → 4 * n * k ≤ 4 * b * 4
four_arrays n k b h l = mul-le-mul {n₁ = 4 * n} {n₂ = 4 * b} (omega arith) l

pub numbers_few : (kind n : ℕ) → n ≤ 1024 → file_numbers kind n ≤ 8192
unfolding file_numbers
numbers_few kind n h = omega (arith, four_arrays n (length (arrays_of kind)) 1024 h (at_most_four kind))

-- array k ends within the numbers
pub end_of_array : (kind n k : ℕ) → k < length (arrays_of kind) → 2 * n * k + 2 * n ≤ file_numbers kind n
unfolding file_numbers
end_of_array kind n k h = subst (λ (m : ℕ). m ≤ 2 * n * length (arrays_of kind)) (mul-suc (2 * n) k) (mul-le-mul_left (2 * n) h)
