-- Congruence of polynomials, as its tests and arrays of remainders give it.
use mathlib.Core.Path.{◌≡◌, sym, ◌∙◌, ap, subst}
use mathlib.Core.Logic.{◌≢◌}
use Prim.Native.Nat.{ℕ, ◌<◌}
use lib.Dec.{T}
use Rattle.eisenstein.specs.Values.{ℤ[ω], 𝟘, Congruent, same}
use Rattle.eisenstein.specs.Reduction.{mod_q, mod2}
use Rattle.eisenstein.proofs.Laws.{of_equal, congruent_sym, congruent_trans}
use Rattle.eisenstein.proofs.Equality.{same_yes}
use Rattle.eisenstein.proofs.Remainders.{mod_q_is_remainder, mod_q_twice}
use Rattle.eisenstein.proofs.Modulo2.{two, mod2_in_class, mod2_twice}
use Rattle.polynomials.specs.Polynomials.{Polynomial, coefficient, array, reduced_q, reduced2, congruent_q, congruent2}
use Rattle.polynomials.proofs.Arrays.{coefficient-array}
use Rattle.polynomials.proofs.Members.{all_at, at_reduced_q, at_reduced2}

-- ---- from the tests

pub congruent_q_at : (N : ℕ) (q : ℤ[ω]) (x y : Polynomial) → q ≢ 𝟘 → T (congruent_q N q x y) → (i : ℕ) → i < N → Congruent q (x i) (y i)
unfolding congruent_q
congruent_q_at N q x y n t i l =
    congruent_trans (mod_q_is_remainder q (x i) n).in_class
    (congruent_trans (of_equal (same_yes (mod_q q (x i)) (mod_q q (y i)) (all_at N (λ i. same (mod_q q (x i)) (mod_q q (y i))) t i l)))
    (congruent_sym (mod_q_is_remainder q (y i) n).in_class))

pub congruent2_at : (N : ℕ) (x y : Polynomial) → T (congruent2 N x y) → (i : ℕ) → i < N → Congruent two (x i) (y i)
unfolding congruent2
congruent2_at N x y t i l =
    congruent_trans (mod2_in_class (x i))
    (congruent_trans (of_equal (same_yes (mod2 (x i)) (mod2 (y i)) (all_at N (λ i. same (mod2 (x i)) (mod2 (y i))) t i l)))
    (congruent_sym (mod2_in_class (y i))))

-- ---- an array of the remainders of x

module _ (N : ℕ) (q : ℤ[ω]) (q≢0 : q ≢ 𝟘) (r x : Polynomial) (r-is : (i : ℕ) → i < N → r i ≡ mod_q q (x i)) where
  at : (i : ℕ) → i < N → coefficient (array N r) i ≡ mod_q q (x i)
  at i l = coefficient-array N r i l ∙ r-is i l

  pub remainders_reduced : T (reduced_q N q (coefficient (array N r)))
  remainders_reduced = at_reduced_q N q (coefficient (array N r)) (λ i l. ap (mod_q q) (at i l) ∙ mod_q_twice q (x i) q≢0 ∙ sym (at i l))

  pub remainders_congruent : (i : ℕ) → i < N → Congruent q (x i) (coefficient (array N r) i)
  remainders_congruent i l = subst (Congruent q (x i)) (sym (at i l)) (mod_q_is_remainder q (x i) q≢0).in_class

-- the same modulo 2
pub remainders-reduced2 : (N : ℕ) (x : Polynomial) → T (reduced2 N (coefficient (array N (λ i. mod2 (x i)))))
remainders-reduced2 N x =
    at_reduced2 N (coefficient (array N (λ i. mod2 (x i))))
    (λ i l. let e = coefficient-array N (λ i. mod2 (x i)) i l in ap mod2 e ∙ mod2_twice (x i) ∙ sym e)
