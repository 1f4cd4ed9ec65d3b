-- `places_of` meets its contract. The loop's invariant: the places so far are listed.
use mathlib.Core.Path.{◌≡◌}
use Prim.Native.Nat.{◌≤◌}
use lib.ListN.{length}
use Rattle.eisenstein.specs.Values.{value}
use Rattle.polynomials.specs.Polynomials.{coefficient}
use Rattle.unit_products.specs.Rotations.{Places}
use Rattle.unit_products.proofs.places.places_of.Given as goal

abbrev pub invariant-loop-j : goal.invariant-loop-j
invariant-loop-j l = (l.count ≤ l.j) × (length l.places ≡ length l.initial.places) × Places l.j (value l.u.a l.u.b) (coefficient l.x) l.places l.count
