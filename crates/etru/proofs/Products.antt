-- The products that the scheme forms, as the faces of `products` give them where a call's checks are passed: none is left out.
use mathlib.Core.Path.{◌≡◌, ◌∙◌, ap, ap₂}
use mathlib.Core.Bool.{Bool, true, ◌&&◌}
use mathlib.Core.List.{List}
use Prim.Native.Nat.{◌*◌}
use lib.IntN.{ℤ}
use lib.ListN.{length}
use Rattle.eisenstein.specs.Values.{ℤ[ω]}
use Rattle.eisenstein.specs.Reduction.{mod_q}
use Rattle.parameters.specs.Sets.{ParameterSet}
use Rattle.parameters.proofs.AcceptedParameters.{Accepted, modulus_nonzero}
use Rattle.polynomials.specs.Polynomials.{coefficient, array, convolution}
use Rattle.unit_operands.specs.Operands.{Forms, multipliable}
use Rattle.products.specs.Products.{usable}
use Rattle.unit_operands.proofs.Operands.{multipliable_holds, was_formed}
use Rattle.products.proofs.Operands.{usable_holds}
use Rattle.etru.proofs.Passed.{Ready, Units}

module _ (p : ParameterSet) (accepted : Accepted p) {x y : List ℤ} (out : List ℤ) (units : Units p.N x) (ready : Ready p.N y) (room : length out ≡ 2 * p.N) where
  open p use {N, q}

  can : multipliable N x y (length out) ≡ true
  can = multipliable_holds N x y (length out) accepted.N_small units.long ready.long room units.units ready.small

  pub product-formed : (v : List ℤ) {r : Bool} {new : List ℤ} → Forms (multipliable N x y (length out)) v r out new → new ≡ v
  product-formed v f = (was_formed v out can f).1

  -- the modulus as it is handed on
  pub formed_modulo_q : {q' : ℤ[ω]} → q' ≡ q → {r : Bool} {new : List ℤ} → Forms (multipliable N x y (length out) && usable q') (array N (λ i. mod_q q' (convolution N (coefficient x) (coefficient y) i))) r out new → new ≡ array N (λ i. mod_q q (convolution N (coefficient x) (coefficient y) i))
  formed_modulo_q {q'} e f =
      (was_formed (array N (λ i. mod_q q' (convolution N (coefficient x) (coefficient y) i))) out (ap₂ ◌&&◌ can (ap usable e ∙ usable_holds q accepted.q_small (modulus_nonzero p accepted))) f).1
      ∙ ap (λ (z : ℤ[ω]). array N (λ i. mod_q z (convolution N (coefficient x) (coefficient y) i))) e
