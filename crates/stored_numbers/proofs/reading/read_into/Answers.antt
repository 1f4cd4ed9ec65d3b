-- `read_into` meets its contract. The loop's invariant: the numbers that are read are right.
use mathlib.Core.Path.{◌≡◌, sym, ◌∙◌}
use mathlib.Core.List.{List}
use Prim.Native.Nat.{ℕ, ◌*◌, ◌≤◌}
use native.Mathlib.Omega.{arith}
use lib.IntN.{ℤ, pos}
use lib.ListN.{length}
use lib.Seq.{ext_get_or}
use Rattle.arrays.proofs.Changing.{set_next}
use Rattle.files.specs.Files.{numbers_from}
use Rattle.files.proofs.Lists.{numbers_at, numbers_length}
use Rattle.heads.proofs.Handed.{read_32}
use Rattle.stored_numbers.proofs.reading.read_into.Goals as goal
use Rattle.stored_numbers.proofs.reading.read_into.Invariants.{Filled}

all_filled : (bytes : List ℕ) (numbers₀ numbers : List ℤ) (k : ℕ) → length bytes ≡ 2 * length numbers₀ → length numbers₀ ≤ k → Filled bytes numbers₀ numbers k → numbers ≡ numbers_from bytes
all_filled bytes numbers₀ numbers k n l f =
    ext_get_or (pos 0) numbers (numbers_from bytes) (f.long ∙ omega (arith, numbers_length bytes)) (λ i h. f.new i (omega (arith, f.long)))

pub loop-k-preserved : goal.loop-k-preserved
loop-k-preserved c =
    set_next (pos 0) c.loop-k.invariant (omega arith) (read_32 c.signed.result c.signed.ensures.1 ∙ c.signed.ensures.0 ∙ sym (numbers_at c.args.bytes.now c.loop-k.k (omega arith)))

pub returns : goal.returns
returns c = all_filled c.args.bytes.now c.args.numbers.now c.loop-k.numbers c.loop-k.k c.requires c.loop-k-test.false c.loop-k.invariant
