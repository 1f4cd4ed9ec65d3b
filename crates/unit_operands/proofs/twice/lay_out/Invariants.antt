-- `lay_out` meets its contract. The loop's invariant: the numbers so far stand twice.
use mathlib.Core.Path.{◌≡◌}
use mathlib.Core.List.{List}
use Prim.Native.Nat.{ℕ, ◌+◌, ◌*◌, ◌<◌}
use lib.IntN.{ℤ, pos}
use lib.ListN.{length, get_or}
use Rattle.unit_operands.proofs.twice.lay_out.Given as goal

-- the first k numbers of y stand twice
pub record So (y t : List ℤ) (k : ℕ) : Type 0 where
  pub long : length t ≡ 2 * length y
  pub first : (i : ℕ) → i < k → get_or t i (pos 0) ≡ get_or y i (pos 0)
  pub second : (i : ℕ) → i < k → get_or t (length y + i) (pos 0) ≡ get_or y i (pos 0)

abbrev pub invariant-loop-k : goal.invariant-loop-k
invariant-loop-k l = So l.y l.twice l.k
