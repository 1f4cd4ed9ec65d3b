-- Arrays at the front of the lent numbers, once the sealed array stands behind them.
use mathlib.Core.Path.{◌≡◌, sym, ◌∙◌, ap}
use mathlib.Core.List.{List, ◌++◌}
use Prim.Native.Nat.{ℕ, ◌+◌, ◌*◌, ◌≤◌}
use native.Mathlib.Omega.{arith}
use lib.IntN.{ℤ}
use lib.ListN.{length, take, drop, length-drop}
use lib.Seq.{length-take-le, take-append-le, drop-append-le}
use Rattle.parameters.specs.Sets.{ParameterSet}
use Rattle.files.specs.Files.{file_numbers, array_at}
use Rattle.stored_keys.proofs.ArrayParts.{part_of_front}
use Rattle.opened_files.specs.Steps.{key_in}

-- a part of the first c numbers, whatever follows them
part_kept : (a b c : ℕ) (l rest : List ℤ) → b + a ≤ c → c ≤ length l → take a (drop b (take c l ++ rest)) ≡ take a (drop b l)
part_kept a b c l rest h n =
    let m = length-take-le c l n in
    ap (take a) (drop-append-le b (take c l) rest (omega arith))
    ∙ take-append-le a (drop b (take c l)) rest (omega (arith, length-drop b (take c l)))
    ∙ part_of_front a b c l h n

pub array_kept : (p : ParameterSet) (k c : ℕ) (l rest : List ℤ) → 2 * p.N * k + 2 * p.N ≤ c → c ≤ file_numbers 2 p.N → file_numbers 2 p.N ≤ length l → array_at p k (take c l ++ rest) ≡ array_at p k (key_in p l)
unfolding array_at
array_kept p k c l rest h i j =
    part_kept (2 * p.N) (2 * p.N * k) c l rest h (omega arith) ∙ sym (part_of_front (2 * p.N) (2 * p.N * k) (file_numbers 2 p.N) l (omega arith) j)
