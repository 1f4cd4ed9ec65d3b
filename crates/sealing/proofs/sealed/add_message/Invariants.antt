-- `add_message` meets its contract. The loop's invariant: the coefficients so far are what is sealed, the others as they came.
use mathlib.Core.List.{List}
use Prim.Native.Nat.{ℕ}
use lib.IntN.{ℤ}
use Rattle.eisenstein.specs.Values.{ℤ[ω], ◌+ω◌}
use Rattle.eisenstein.specs.Reduction.{mod_q}
use Rattle.parameters.specs.Sets.{set_of}
use Rattle.polynomials.specs.Polynomials.{Polynomial, coefficient}
use Rattle.arrays.proofs.Changing.{Changed}
use Rattle.packing.specs.Messages.{packed}
use Rattle.sealing.proofs.sealed.add_message.Given as goal

-- coefficient i of what is sealed, from the product's
abbrev pub at : ℤ[ω] → List ℤ → List ℕ → Polynomial
at q e message i = mod_q q (coefficient e i +ω coefficient e i +ω packed message i)

abbrev pub invariant-loop-i : goal.invariant-loop-i
invariant-loop-i l = Changed coefficient (at (set_of l.p.parameters).q l.initial.e l.message) l.initial.e l.e l.i
