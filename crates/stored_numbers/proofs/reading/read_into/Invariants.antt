-- `read_into` meets its contract. The loop's invariant: the numbers that are read are right.
use mathlib.Core.List.{List}
use Prim.Native.Nat.{ℕ}
use lib.IntN.{ℤ, pos}
use lib.ListN.{get_or}
use Rattle.arrays.proofs.Changing.{Changed}
use Rattle.files.specs.Files.{numbers_from}
use Rattle.stored_numbers.proofs.reading.read_into.Given as goal

-- the first k numbers are those of the bytes
abbrev pub Filled : List ℕ → (numbers₀ numbers : List ℤ) → ℕ → Type 0
Filled bytes numbers₀ numbers k = Changed (λ l i. get_or l i (pos 0)) (λ i. get_or (numbers_from bytes) i (pos 0)) numbers₀ numbers k

abbrev pub invariant-loop-k : goal.invariant-loop-k
invariant-loop-k l = Filled l.bytes l.initial.numbers l.numbers l.k
