-- The message that opening leaves: of arrays that passed, through both products and unpacking.
use mathlib.Core.Path.{◌≡◌, refl, sym, ◌∙◌, ap, subst}
use mathlib.Core.Bool.{Bool, ◌&&◌}
use mathlib.Core.List.{List, ◌++◌}
use Prim.Native.Nat.{ℕ, ◌*◌, ◌<◌}
use lib.Dec.{T}
use lib.IntN.{ℤ}
use lib.ListN.{length}
use Rattle.refusals.specs.Outcomes.{Outcome, written, Gives, Passes}
use Rattle.eisenstein.specs.Values.{ℤ[ω]}
use Rattle.eisenstein.specs.Reduction.{mod_q, mod2}
use Rattle.parameters.specs.Sets.{ParameterSet, parameter_checks}
use Rattle.parameters.proofs.AcceptedParameters.{modulus_nonzero}
use Rattle.polynomials.specs.Polynomials.{Polynomial, coefficient, array, convolution, reduced2}
use Rattle.polynomials.proofs.Eisenstein.{convolution-same}
use Rattle.polynomials.proofs.Congruences.{remainders-reduced2}
use Rattle.polynomials.proofs.Arrays.{coefficient-array, array_length}
use Rattle.arrays.specs.Arrays.{Small}
use Rattle.arrays.proofs.Sizes.{remainders-small}
use Rattle.packing.specs.Messages.{unpacked}
use Rattle.packing.proofs.RoundTrips.{unpacked-same}
use Rattle.message_unpacking.specs.Calls.{unpacking}
use Rattle.message_unpacking.proofs.Passed.{unpacks}
use Rattle.unit_operands.specs.Operands.{Forms, multipliable}
use Rattle.products.specs.Products.{usable}
use Rattle.etru.specs.Scheme.{opened}
use Rattle.etru.specs.Calls.{opening_checks}
use Rattle.etru.proofs.Passed.{Ready, Opening, opening_passed}
use Rattle.etru.proofs.Products.{product-formed, formed_modulo_q}

module _ (p : ParameterSet) (f F2 e : List ℤ) (message : List ℕ) (checked : Passes (parameter_checks p ++ opening_checks p f F2 e (length message))) where
  open p use {N, q}

  ready : Opening p f F2 e (length message)
  ready = opening_passed p f F2 e (length message) checked

  -- f × e reduced modulo q
  abbrev first : Polynomial
  first i = mod_q q (convolution N (coefficient f) (coefficient e) i)

  -- both products as they are left in lent arrays that held `old-1` and `old-2`
  module _ (old-1 old-2 : List ℤ) (full-1 : length old-1 ≡ 2 * N) (full-2 : length old-2 ≡ 2 * N) {q' : ℤ[ω]} (same-q : q' ≡ q) {r1 r2 : Bool} {product m : List ℤ}
      (formed-1 : Forms (multipliable N f e (length old-1) && usable q') (array N (λ i. mod_q q' (convolution N (coefficient f) (coefficient e) i))) r1 old-1 product)
      (formed-2 : Forms (multipliable N F2 product (length old-2)) (array N (λ i. mod2 (convolution N (coefficient F2) (coefficient product) i))) r2 old-2 m) where
    first-is : product ≡ array N first
    first-is = formed_modulo_q p ready.accepted old-1 ready.f_units ready.e_ready full-1 same-q formed-1

    first_ready : Ready N product
    first_ready = record {
      long = ap length first-is ∙ array_length N first;
      small = subst Small (sym first-is) (remainders-small N q _ ready.accepted.q_small (modulus_nonzero p ready.accepted));
    }

    -- F2 × that reduced modulo 2
    abbrev second : Polynomial
    second i = mod2 (convolution N (coefficient F2) (coefficient product) i)

    second_is : m ≡ array N second
    second_is = product-formed p ready.accepted old-2 ready.F2_units first_ready full-2 _ formed-2

    opened-is : (i : ℕ) → i < N → second i ≡ opened p (coefficient f) (coefficient F2) (coefficient e) i
    unfolding opened
    opened-is i l = ap mod2 (convolution-same N (λ j k. refl) (λ j k. ap (λ (x : List ℤ). coefficient x j) first-is ∙ coefficient-array N first j k) i)

    pub opened_message : {n : ℕ} {new : List ℕ} → Gives (unpacking N m (length message)) n message new → new ≡ unpacked N (opened p (coefficient f) (coefficient F2) (coefficient e))
    opened_message g =
        let reduced = subst (λ (x : List ℤ). T (reduced2 N (coefficient x))) (sym second_is) (remainders-reduced2 N _) in
        let o = unpacks N m (length message) ready.accepted.N_large ready.accepted.N_small (ap length second_is ∙ array_length N second) ready.room_is reduced in
        g.1
        ∙ ap (λ (x : Outcome (List ℕ)). written x message) o
        ∙ unpacked-same N (λ i l. ap (λ (x : List ℤ). coefficient x i) second_is ∙ coefficient-array N second i l ∙ opened-is i l)
