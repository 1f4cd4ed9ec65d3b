-- `add_part` meets its contract: the block's front has the sums of the runs.
use Prim.Native.Nat.{ℕ, ◌+◌}
use native.Mathlib.Omega.{arith}
use lib.IntN.{ℤ}
use lib.ListN.{length}
use Rattle.unit_products.specs.Rotations.{six_at}
use Rattle.unit_products.proofs.RotatedSums.{six_below}
use Rattle.unit_products.proofs.Blocks.{front_long, front_at, front_within, block_long, added_same}
use Rattle.unit_products.proofs.rotations.add_part.Goals as goal
use Rattle.unit_products.proofs.rotations.add_part.Goals.{Start}

-- the sums of the six runs
abbrev six : Start → ℕ → ℤ
six s k = six_at s.args.twice.now s.args.starts.now (s.args.from + k)

pub add_run-requires : goal.add_run-requires
add_run-requires c =
    let s = (goal.at.add_run-requires c).Start in
    let n : ℕ = length c.args.sums.now in (
      omega (arith, front_long n c.args.block.now c.sum_runs.new.block (six s) c.requires.six_fit.1 c.sum_runs.ensures),
      c.requires.all_within.0,
      front_within n c.args.block.now c.sum_runs.new.block (six s) c.requires.six_fit.1 c.sum_runs.ensures 32766 (λ k. six_below n c.args.twice.now c.requires.all_within.1 c.args.starts.now (c.args.from + k)),
    )

pub returns : goal.returns
returns c =
    let s = (goal.at.returns c).Start in
    let n : ℕ = length c.args.sums.now in (
      block_long n c.args.block.now c.sum_runs.new.block (six s) c.requires.six_fit.1 c.sum_runs.ensures,
      added_same (front_at n c.args.block.now c.sum_runs.new.block (six s) c.requires.six_fit.1 c.sum_runs.ensures) c.add_run.ensures,
    )
