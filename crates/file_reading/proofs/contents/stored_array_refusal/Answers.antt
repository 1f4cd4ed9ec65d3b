-- `stored_array_refusal` meets its contract.
use mathlib.Core.Path.{◌≡◌, refl, ◌∙◌, ap}
use Prim.Native.Nat.{◌+◌, ◌-◌, ◌*◌}
use native.Mathlib.Omega.{arith}
use lib.ListN.{length, take, drop, length-drop}
use lib.Seq.{length-take-le}
use Rattle.parameters.specs.Sets.{set_of}
use Rattle.array_sets.specs.Sets.{array_check}
use Rattle.files.proofs.Lists.{array_numbers}
use Rattle.stored_numbers.proofs.Lengths.{numbers_read}
use Rattle.file_reading.proofs.contents.stored_array_refusal.Goals as goal
use Rattle.file_reading.proofs.contents.stored_array_refusal.Goals.{Start}

-- its bytes, as they are lent
part_long : (s : Start) → let from = 4 * s.args.p.n * s.args.k in length (take (from + 4 * s.args.p.n - from) (drop from s.args.bytes.now)) ≡ 2 * length s.args.x.now
part_long s =
    let from = 4 * s.args.p.n * s.args.k in
    let long : length (take (from + 4 * s.args.p.n - from) (drop from s.args.bytes.now)) ≡ from + 4 * s.args.p.n - from = length-take-le (from + 4 * s.args.p.n - from) (drop from s.args.bytes.now) (omega (arith, length-drop from s.args.bytes.now)) in
    omega (arith, long, s.requires.1)

pub returns : goal.returns
returns c = let full : 4 * c.args.p.n * c.args.k + 4 * c.args.p.n - 4 * c.args.p.n * c.args.k ≡ 4 * c.args.p.n = omega arith in
    c.check_array.ensures ∙ ap (array_check (set_of c.args.p) c.args.set) (numbers_read _ c.args.x.now c.read_numbers.ensures (part_long (goal.at.returns c).Start) ∙ array_numbers (set_of c.args.p) c.args.k c.args.bytes.now _ _ full refl)
