-- Opening undoes sealing, over any finite group of indices: f × e is congruent to what is met, 2(g × φ) + f × m; being small that is its own remainder modulo q; F2 times it is m modulo 2.
-- Document 01's indices are the cyclic group. The factors stand in the order h × φ and commuting is not used, so that the theorem serves a group in which order counts too (document 02, Wish 14).
-- That the values met are small is a hypothesis, since the bound differs: 2s + t in document 01, one more for an altered array (Wish 11), K times as much for a pool (Wish 12).
use mathlib.Core.Path.{◌≡◌, refl, sym, ◌∙◌, ap, subst}
use mathlib.Core.Logic.{◌≢◌}
use Prim.Native.Nat.{ℕ, ◌+◌, ◌*◌, ◌<◌}
use native.Mathlib.Omega.{arith}
use native.Mathlib.Nat.{mul-add, mul_comm, mul_assoc}
use lib.Dec.{T}
use Rattle.eisenstein.specs.Values.{ℤ[ω], 𝟘, norm, ◌+ω◌, Congruent}
use Rattle.eisenstein.specs.Reduction.{mod_q, mod2}
use Rattle.eisenstein.proofs.Laws.{+ω_comm, +ω-zero, of_equal, congruent_refl, congruent_sym, congruent_trans}
use Rattle.eisenstein.proofs.Remainders.{mod_q_by_class, small_is_remainder}
use Rattle.eisenstein.proofs.Modulo2.{two, double_even, mod2_by_class}
use Rattle.polynomials.specs.Polynomials.{Polynomial, units_only}
use Rattle.polynomials.proofs.Rings.{Group}
use Rattle.polynomials.proofs.Convolutions.{conv, unit, conv_same, conv_congruent, conv_add_right, conv_assoc, conv_unit_left}
use Rattle.polynomials.proofs.Eisenstein.{ring, modulo, congruent_add}
use Rattle.polynomials.proofs.Bounds.{Within, within_add}
use Rattle.polynomials.proofs.Members.{conv_within}

-- what opening meets: f × e is congruent to it
unfoldable pub met : {n : ℕ} → Group n → (f g φ m : Polynomial) → Polynomial
met G f g φ m i = (conv ring G g φ i +ω conv ring G g φ i) +ω conv ring G f m i

-- What opening may count on. One side of each inverse is enough: F2 × f and f × Fq.
pub record GroupSetting {n : ℕ} (G : Group n) (q : ℤ[ω]) (B : ℕ) (f F2 Fq g h φ m e : Polynomial) : Type 0 where
  pub modulus : q ≢ 𝟘
  pub bound : 4 * (B * B) < norm q
  pub small : (i : ℕ) → i < n → Within B (met G f g φ m i)
  pub inverse_2 : (i : ℕ) → i < n → Congruent two (conv ring G F2 f i) (unit ring i)
  pub inverse_q : (i : ℕ) → i < n → Congruent q (conv ring G f Fq i) (unit ring i)
  pub h_is : (i : ℕ) → i < n → Congruent q (conv ring G Fq g i) (h i)
  pub e_is : (i : ℕ) → i < n → Congruent q ((conv ring G h φ i +ω conv ring G h φ i) +ω m i) (e i)

module _ {n : ℕ} (G : Group n) (q : ℤ[ω]) (B : ℕ) (f F2 Fq g h φ m e : Polynomial) (S : GroupSetting G q B f F2 Fq g h φ m e) where
  open S use {modulus as q≢0, bound, small, inverse_2, inverse_q, h_is, e_is}

  C : Polynomial → Polynomial → Polynomial
  C x y = conv ring G x y

  -- f × h is congruent to g
  f_h : (i : ℕ) → i < n → Congruent q (C f h i) (g i)
  unfolding C
  f_h i l =
      congruent_trans (conv_congruent ring G (modulo q) (λ j _. congruent_refl q (f j)) (λ k p. congruent_sym (h_is k p)) i)
      (congruent_trans (of_equal (sym (conv_assoc ring G f Fq g i)))
      (congruent_trans (conv_congruent ring G (modulo q) inverse_q (λ k _. congruent_refl q (g k)) i)
      (of_equal (conv_unit_left ring G g i l))))

  -- f × (h × φ) is congruent to g × φ
  f_h_φ : (i : ℕ) → i < n → Congruent q (C f (C h φ) i) (C g φ i)
  unfolding C
  f_h_φ i l =
      congruent_trans (of_equal (sym (conv_assoc ring G f h φ i)))
      (conv_congruent ring G (modulo q) f_h (λ k _. congruent_refl q (φ k)) i)

  f_e : (i : ℕ) → i < n → Congruent q (C f e i) (met G f g φ m i)
  unfolding C met
  f_e i l =
      congruent_trans (conv_congruent ring G (modulo q) (λ j _. congruent_refl q (f j)) (λ k p. congruent_sym (e_is k p)) i)
      (congruent_trans (of_equal (conv_add_right ring G f (λ k. C h φ k +ω C h φ k) m i))
      (congruent_add
      (congruent_trans (of_equal (conv_add_right ring G f (C h φ) (C h φ) i)) (congruent_add (f_h_φ i l) (f_h_φ i l)))
      (congruent_refl q (C f m i))))

  -- so reducing f × e modulo q gives it exactly
  pub met_exactly : (i : ℕ) → i < n → mod_q q (conv ring G f e i) ≡ met G f g φ m i
  unfolding C
  met_exactly i l =
      mod_q_by_class q (C f e i) (met G f g φ m i) q≢0 (f_e i l) (small_is_remainder q (met G f g φ m i) (omega (arith, (small i l).within)))

  -- modulo 2 it is f × m
  met_even : (i : ℕ) → Congruent two (met G f g φ m i) (C f m i)
  unfolding C met
  met_even i =
      congruent_trans (congruent_add (double_even (C g φ i)) (congruent_refl two (C f m i)))
      (of_equal (+ω_comm 𝟘 (C f m i) ∙ +ω-zero (C f m i)))

  -- and F2 × (f × m) is m
  F2_f_m : (i : ℕ) → i < n → Congruent two (C F2 (C f m) i) (m i)
  unfolding C
  F2_f_m i l =
      congruent_trans (of_equal (sym (conv_assoc ring G F2 f m i)))
      (congruent_trans (conv_congruent ring G (modulo two) inverse_2 (λ k _. congruent_refl two (m k)) i)
      (of_equal (conv_unit_left ring G m i l)))

  pub opens_modulo_2 : (i : ℕ) → i < n → mod2 (conv ring G F2 (λ j. mod_q q (conv ring G f e j)) i) ≡ mod2 (m i)
  unfolding C
  opens_modulo_2 i l =
      ap mod2 (conv_same ring G (λ j _. refl) met_exactly i)
      ∙ mod2_by_class (C F2 (met G f g φ m) i) (m i)
      (congruent_trans (conv_congruent ring G (modulo two) (λ j _. congruent_refl two (F2 j)) (λ k _. met_even k) i) (F2_f_m i l))

-- How far the values met reach, by the counts of units in f and g: b is 1 for one sealed array, and K for the sum of K of them.
pub met_within : {n : ℕ} (G : Group n) (s t b : ℕ) (f g φ m : Polynomial) → T (units_only n t f) → T (units_only n s g) → ((i : ℕ) → i < n → Within b (φ i)) → ((i : ℕ) → i < n → Within b (m i)) → (i : ℕ) → i < n → Within (b * (2 * s + t)) (met G f g φ m i)
unfolding met
met_within G s t b f g φ m f_units g_units φ-within m-within i l =
    subst (λ (x : ℕ). Within x (met G f g φ m i)) {x = (s * b + s * b) + t * b} {y = b * (2 * s + t)} total_is
    (within_add (s * b + s * b) (t * b) (within_add (s * b) (s * b) g_φ g_φ) (conv_within G t b f m f_units m-within i l))
  where
    g_φ : Within (s * b) (conv ring G g φ i)
    g_φ = conv_within G s b g φ g_units φ-within i l

    total_is : (s * b + s * b) + t * b ≡ b * (2 * s + t)
    total_is = omega (arith, mul-add b (2 * s) t, mul_comm b (2 * s), mul_assoc 2 s b, mul_comm b t)
