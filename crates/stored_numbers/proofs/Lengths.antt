-- What the two calls leave, where the lengths fit.
use mathlib.Core.Path.{◌≡◌, ap₂}
use mathlib.Core.Bool.{Bool, ◌&&◌}
use mathlib.Core.List.{List}
use Prim.Native.Nat.{ℕ, ◌*◌}
use borrow.Author.Tests.{eq-eqb}
use lib.Dec.{eqb}
use lib.IntN.{ℤ}
use lib.ListN.{length}
use Rattle.arrays.specs.Arrays.{Small, all_small}
use Rattle.arrays.proofs.Sizes.{all-within}
use Rattle.unit_operands.specs.Operands.{Forms}
use Rattle.unit_operands.proofs.Operands.{was_formed}
use Rattle.files.specs.Files.{numbers_from, bytes_of}

pub numbers_read : (bytes : List ℕ) (old : List ℤ) {r : Bool} {new : List ℤ} → Forms (eqb (length bytes) (2 * length old)) (numbers_from bytes) r old new → length bytes ≡ 2 * length old → new ≡ numbers_from bytes
numbers_read bytes old f e = (was_formed (numbers_from bytes) old (eq-eqb (length bytes) (2 * length old) e) f).1

pub numbers_written : (numbers : List ℤ) (old : List ℕ) {r : Bool} {new : List ℕ} → Forms (eqb (length old) (2 * length numbers) && all_small numbers) (bytes_of numbers) r old new → length old ≡ 2 * length numbers → Small numbers → new ≡ bytes_of numbers
numbers_written numbers old f e s = (was_formed (bytes_of numbers) old (ap₂ ◌&&◌ (eq-eqb (length old) (2 * length numbers) e) (all-within 5461 numbers s)) f).1
