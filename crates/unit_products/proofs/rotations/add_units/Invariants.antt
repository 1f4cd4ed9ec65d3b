-- `add_units` meets its contract. The loop's invariant: the units so far, from unit 5 down, have brought what they bring.
use mathlib.Core.Path.{◌≡◌}
use Prim.Native.Nat.{◌-◌}
use lib.ListN.{length}
use Rattle.polynomials.specs.Polynomials.{coefficient}
use Rattle.unit_products.proofs.Horner.{After}
use Rattle.unit_products.proofs.rotations.add_units.Given as goal

abbrev pub invariant-loop-k : goal.invariant-loop-k
invariant-loop-k l = (length l.places ≡ length l.initial.places) × (length l.block ≡ length l.initial.block) × After l.n (coefficient l.x) l.twice (6 - l.k) l.sums
