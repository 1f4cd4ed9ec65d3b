-- `unit` meets its contract: one test over the six entries of the table.
use mathlib.Core.Bool.{Bool}
use mathlib.Core.List.{[], ◌∷◌}
use Prim.Native.Nat.{ℕ, ◌%◌}
use native.Mathlib.Omega.{arith}
use lib.Dec.{T}
use lib.IntN.{ℤ, pos, negsuc}
use lib.ListN.{get_or}
use Rattle.integers.proofs.Tests.{every, every_at}
use Rattle.eisenstein.specs.Values.{value, unit, same, same_ℤ}
use Rattle.eisenstein.specs.declared.Pair.{Pair}
use Rattle.eisenstein.proofs.Equality.{same_yes}
use Rattle.eisenstein.proofs.unit.Goals as goal

abbrev pair : ℤ → ℤ → Pair
pair a b = record { a = a; b = b }

abbrev entry : ℕ → Pair
entry k =
    get_or
    (pair (pos 1) (pos 0) ∷ pair (pos 1) (pos 1) ∷ pair (pos 0) (pos 1) ∷ pair (negsuc 0) (pos 0) ∷ pair (negsuc 0) (negsuc 0) ∷ pair (pos 0) (negsuc 0) ∷ [])
    k
    (pair (pos 0) (pos 0))

right : ℕ → Bool
right k = same (value (entry k).a (entry k).b) (unit k)

all_entries : T (every right 6)
unfolding right same same_ℤ unit
all_entries = tt

pub returns : goal.returns
unfolding right
returns c = same_yes _ (unit (c.args.number % 6)) (every_at right 6 all_entries (c.args.number % 6) (omega arith))
