-- `array_refusal` meets its contract.
use mathlib.Core.Path.{◌≡◌, ◌∙◌, ap}
use Prim.Native.Nat.{ℕ, ◌+◌, ◌-◌, ◌*◌}
use native.Mathlib.Omega.{arith}
use lib.ListN.{take, drop}
use Rattle.parameters.specs.Sets.{set_of}
use Rattle.array_sets.specs.Sets.{array_check}
use Rattle.files.specs.Files.{array_at}
use Rattle.file_writing.proofs.contents.array_refusal.Goals as goal

pub returns : goal.returns
unfolding array_at
returns c =
    let from = 2 * c.args.p.n * c.args.k in
    let full : from + 2 * c.args.p.n - from ≡ 2 * c.args.p.n = omega arith in
    c.check_array.ensures ∙ ap (λ (n : ℕ). array_check (set_of c.args.p) c.args.set (take n (drop from c.args.numbers.now))) full
