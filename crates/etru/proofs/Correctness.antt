-- Opening undoes sealing, of document 01's polynomials: the general theorem at the cyclic group, where the product commutes.
use mathlib.Core.Path.{◌≡◌, refl, ◌∙◌, ap, ap₂, subst}
use Prim.Native.Nat.{ℕ, ◌+◌, ◌*◌, ◌<◌}
use native.Mathlib.Omega.{arith}
use Rattle.eisenstein.specs.Values.{ℤ[ω], norm, ◌+ω◌, Congruent}
use Rattle.eisenstein.specs.Reduction.{mod_q, mod2}
use Rattle.eisenstein.proofs.Laws.{of_equal, congruent_trans}
use Rattle.parameters.specs.Sets.{ParameterSet}
use Rattle.polynomials.specs.Polynomials.{Polynomial, convolution, one}
use Rattle.polynomials.proofs.Convolutions.{conv, unit, conv_same, conv_comm, conv_add_left}
use Rattle.polynomials.proofs.Cyclic.{cyclic, cyclic_comm}
use Rattle.polynomials.proofs.Eisenstein.{ring, convolution-is, one-is}
use Rattle.polynomials.proofs.Members.{units-within, reduced2-within, reduced2_at}
use Rattle.etru.specs.Scheme.{opened}
use Rattle.etru.specs.Promises.{Setting, OpeningUndoesSealing}
use Rattle.etru.proofs.Openings.{GroupSetting, opens_modulo_2, met_within}

module _ (p : ParameterSet) (f F2 Fq g h φ m e : Polynomial) (S : Setting p f F2 Fq g h φ m e) where
  open S use {modulus, bound, f_units, g_units, φ_units, m_reduced, inverse_2, inverse_q, h_is, e_is}
  open p use {N, q, s, t}

  swapped : (x y : Polynomial) (i : ℕ) → conv ring (cyclic N) x y i ≡ conv ring (cyclic N) y x i
  swapped x y i = conv_comm ring (cyclic N) (cyclic_comm N) x y i

  -- 2φ × h is twice h × φ
  doubled : (i : ℕ) → convolution N (λ j. φ j +ω φ j) h i ≡ conv ring (cyclic N) h φ i +ω conv ring (cyclic N) h φ i
  doubled i = convolution-is N (λ j. φ j +ω φ j) h i ∙ conv_add_left ring (cyclic N) φ φ h i ∙ ap₂ ◌+ω◌ (swapped φ h i) (swapped φ h i)

  -- a product that is one
  is_one : (r x : ℤ[ω]) {y : ℤ[ω]} (i : ℕ) → Congruent r x (one i) → x ≡ y → Congruent r y (unit ring i)
  is_one r x i c e = subst (λ (z : ℤ[ω]). Congruent r z (unit ring i)) e (congruent_trans c (of_equal (one-is i)))

  general : GroupSetting (cyclic N) q (1 * (2 * s + t)) f F2 Fq g h φ m e
  general = record {
    modulus = modulus;
    bound = subst (λ (x : ℕ). 4 * (x * x) < norm q) {x = 2 * s + t} {y = 1 * (2 * s + t)} (omega arith) bound;
    small = met_within (cyclic N) s t 1 f g φ m f_units g_units (units-within N s φ φ_units) (reduced2-within N m m_reduced);
    inverse_2 = λ i l. is_one _ _ i (inverse_2 i l) (convolution-is N f F2 i ∙ swapped f F2 i);
    inverse_q = λ i l. is_one _ _ i (inverse_q i l) (convolution-is N f Fq i);
    h_is = λ i l. subst (λ (x : ℤ[ω]). Congruent q x (h i)) (convolution-is N Fq g i) (h_is i l);
    e_is = λ i l. subst (λ (x : ℤ[ω]). Congruent q (x +ω m i) (e i)) (doubled i) (e_is i l);
  }

  opening-is : (i : ℕ) → i < N → opened p f F2 e i ≡ m i
  unfolding opened
  opening-is i l =
      ap mod2
      (convolution-is N F2 (λ j. mod_q q (convolution N f e j)) i
      ∙ conv_same ring (cyclic N) (λ j _. refl) (λ k _. ap (mod_q q) (convolution-is N f e k)) i)
      ∙ opens_modulo_2 (cyclic N) q (1 * (2 * s + t)) f F2 Fq g h φ m e general i l
      ∙ reduced2_at N m m_reduced i l

pub opening_undoes_sealing : OpeningUndoesSealing
opening_undoes_sealing p f F2 Fq g h φ m e S = opening-is p f F2 Fq g h φ m e S
