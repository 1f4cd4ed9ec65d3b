-- `array_refusal` meets its contract.
use mathlib.Core.Path.{◌≡◌, sym, ◌∙◌, ap}
use Prim.Native.Nat.{ℕ, ◌+◌, ◌-◌, ◌*◌}
use native.Mathlib.Omega.{arith}
use lib.ListN.{take, drop}
use Rattle.parameters.specs.Sets.{set_of}
use Rattle.array_sets.specs.declared.ArraySet.TheVariants.{ReducedModuloQ}
use Rattle.array_sets.specs.Sets.{array_check}
use Rattle.bundles.proofs.GivenEntries.{given_array}
use Rattle.bundle_writing.proofs.entries.array_refusal.Goals as goal

pub returns : goal.returns
returns c = let w = 2 * c.args.p.n in
    let from = w * c.args.k in
    let full : from + w - from ≡ w = omega arith in
    c.check_array.ensures ∙ ap (array_check (set_of c.args.p) ReducedModuloQ) (ap (λ (n : ℕ). take n (drop from c.args.numbers.now)) full ∙ sym (given_array c.args.p.n c.args.stops.now c.args.numbers.now c.args.k c.requires.1))
