-- `file_numbers` meets its contract.
use mathlib.Core.Path.{sym, ap, subst}
use Prim.Native.Nat.{ℕ, ◌*◌, ◌^◌, ◌≤◌}
use native.Mathlib.Omega.{arith}
use Rattle.files.specs.Files.{file_numbers}
use Rattle.heads.proofs.ArraysOfKinds.{at_most_four}
use Rattle.files.proofs.Bounds.{four_arrays}
use Rattle.files.proofs.file_numbers.Goals as goal
use Rattle.files.proofs.file_numbers.Goals.{After-array_count-count}

few : (c : After-array_count-count) → 4 * c.args.n * c.array_count-count.result ≤ 4 * 2 ^ 32 * 4
few c =
    four_arrays c.args.n c.array_count-count.result (2 ^ 32) (omega arith) (subst (λ (k : ℕ). k ≤ 4) (sym c.array_count-count.ensures) (at_most_four c.args.kind))

pub overflow_mul-result-2 : goal.overflow_mul-result-2
unfolding file_numbers
overflow_mul-result-2 c = omega (arith, few c)

pub returns : goal.returns
unfolding file_numbers
returns c = ap (λ (k : ℕ). 2 * c.args.n * k) c.array_count-count.ensures
