-- `open_arrays` meets its contract.
use mathlib.Core.Path.{◌≡◌}
use mathlib.Core.List.{List}
use Prim.Native.Nat.{ℕ, ◌-◌, ◌*◌, min}
use native.Mathlib.Omega.{arith}
use native.Mathlib.Nat.{mul-zero}
use lib.IntN.{ℤ}
use lib.ListN.{length, take, drop}
use Rattle.parameters.specs.Sets.{ParameterSet, set_of}
use Rattle.packing.specs.Messages.{message_bytes}
use Rattle.etru.specs.Calls.{opening}
use Rattle.files.specs.Files.{array_at}
use Rattle.opened_arrays.proofs.Answers.{gives_as}
use Rattle.opened_arrays.proofs.Parts.{end_taken, ends_between}
use Rattle.opened_arrays.proofs.open_arrays.Goals as goal

-- the arrays, as the code parts them: each ends with the numbers at the latest
module _ (p : ParameterSet) (l : List ℤ) where
  first-is : (end : ℕ) → end ≡ min (2 * p.N) (length l) → take end l ≡ array_at p 0 l
  unfolding array_at
  first-is end e = rw (e, end_taken, mul-zero)

  part_is : (k from to a b : ℕ) → a ≡ min from (length l) → b ≡ min to (length l) → from ≡ 2 * p.N * k → to - from ≡ 2 * p.N → take (b - a) (drop a l) ≡ array_at p k l
  unfolding array_at
  part_is k from to a b a-is b-is from_is long = rw (a-is, b-is, ends_between, long, from_is)

pub returns : goal.returns
returns c = let p = set_of c.args.p in
    let l = c.args.numbers.now in
    let w = 2 * c.args.p.n in
    gives_as
    (λ i. opening p (first-is p l _ c.min-f_end.ensures i) (part_is p l 1 w (2 * w) _ _ c.min-f_end.ensures c.min-f2_end.ensures (omega arith) (omega arith) i) (part_is p l 2 (2 * w) (3 * w) _ _ c.min-f2_end.ensures c.min-e_end.ensures (omega arith) (omega arith) i) (message_bytes c.args.p.n))
    c.open_message.ensures
