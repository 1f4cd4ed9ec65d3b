-- `file_bytes` meets its contract.
use mathlib.Core.Path.{sym, ap, subst}
use Prim.Native.Nat.{ℕ, ◌+◌, ◌*◌, ◌^◌, ◌≤◌}
use native.Mathlib.Omega.{arith}
use Rattle.heads.specs.Heads.{head_length}
use Rattle.files.specs.Files.{file_bytes}
use Rattle.heads.proofs.ArraysOfKinds.{at_most_four}
use Rattle.files.proofs.Bounds.{four_arrays}
use Rattle.files.proofs.file_bytes.Goals as goal
use Rattle.files.proofs.file_bytes.Goals.{After-array_count-count}

few : (c : After-array_count-count) → 4 * c.args.n * c.array_count-count.result ≤ 4 * 2 ^ 32 * 4
few c =
    four_arrays c.args.n c.array_count-count.result (2 ^ 32) (omega arith) (subst (λ (k : ℕ). k ≤ 4) (sym c.array_count-count.ensures) (at_most_four c.args.kind))

pub overflow_mul-result-2 : goal.overflow_mul-result-2
unfolding file_bytes
overflow_mul-result-2 c = omega (arith, few c)

pub overflow_add-result : goal.overflow_add-result
unfolding file_bytes
overflow_add-result c = omega (arith, few c)

pub returns : goal.returns
unfolding file_bytes
returns c = ap (λ (k : ℕ). head_length + 4 * c.args.n * k) c.array_count-count.ensures
