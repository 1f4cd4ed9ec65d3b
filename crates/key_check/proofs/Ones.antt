-- The polynomial 1 is reduced, so a reduced product is congruent to 1 where it is 1.
use mathlib.Core.Path.{◌≡◌, refl, sym, ◌∙◌, ap, ap₂}
use mathlib.Core.Bool.{Bool, true, false, cond}
use mathlib.Core.List.{List}
use Prim.Native.Nat.{ℕ, ◌+◌, ◌*◌, ◌≤◌, ◌<◌}
use native.Mathlib.Omega.{arith}
use native.Mathlib.Nat.{mul-le-mul}
use lib.Dec.{eqb, lit≤}
use lib.IntN.{ℤ, pos}
use Rattle.eisenstein.specs.Values.{ℤ[ω], value, 𝟘, norm, same}
use Rattle.eisenstein.specs.Reduction.{mod_q, mod2, bit}
use Rattle.eisenstein.proofs.Laws.{congruent_refl}
use Rattle.eisenstein.proofs.Remainders.{mod_q_by_class, small_is_remainder}
use Rattle.parameters.specs.Sets.{ParameterSet, bound}
use Rattle.parameters.proofs.AcceptedParameters.{Accepted, modulus_nonzero}
use Rattle.polynomials.specs.Polynomials.{Polynomial, coefficient, array, all, one, congruent_q, congruent2}
use Rattle.polynomials.proofs.Arrays.{coefficient-array}
use Rattle.polynomials.proofs.Members.{all_same}

abbrev either : Bool → ℤ[ω]
either t = cond t (value (pos 1) (pos 0)) 𝟘

one_modulo_2 : (i : ℕ) → mod2 (one i) ≡ one i
unfolding one mod2 bit
one_modulo_2 i = go (eqb i 0)
  where
    go : (t : Bool) → mod2 (either t) ≡ either t
    go true = refl
    go false = refl

norm_of_one : (i : ℕ) → norm (one i) ≤ 1
unfolding one norm
norm_of_one i = go (eqb i 0)
  where
    go : (t : Bool) → norm (either t) ≤ 1
    go true = lit≤ tt
    go false = lit≤ tt

module _ (p : ParameterSet) (accepted : Accepted p) where
  modulus_large : 4 < norm p.q
  unfolding bound
  modulus_large =
      let w : ℕ = 2 * p.s + p.t in
      let l : 1 ≤ w = omega (arith, accepted.t_large) in
      let k : 1 * 1 ≤ w * w = mul-le-mul l l in
      omega (arith, accepted.below, k)

  one_modulo_q : (i : ℕ) → mod_q p.q (one i) ≡ one i
  one_modulo_q i =
      mod_q_by_class p.q (one i) (one i) (modulus_nonzero p accepted) (congruent_refl p.q (one i))
      (small_is_remainder p.q (one i) (omega (arith, modulus_large, norm_of_one i)))

  pub is_one_modulo_q : (x : Polynomial) (l : List ℤ) → l ≡ array p.N (λ i. mod_q p.q (x i)) → all p.N (λ i. same (coefficient l i) (one i)) ≡ congruent_q p.N p.q x one
  unfolding congruent_q
  is_one_modulo_q x l e =
      all_same p.N (λ i k. ap₂ same (ap (λ (m : List ℤ). coefficient m i) e ∙ coefficient-array p.N (λ i. mod_q p.q (x i)) i k) (sym (one_modulo_q i)))

pub is_one_modulo_2 : (N : ℕ) (x : Polynomial) (l : List ℤ) → l ≡ array N (λ i. mod2 (x i)) → all N (λ i. same (coefficient l i) (one i)) ≡ congruent2 N x one
unfolding congruent2
is_one_modulo_2 N x l e =
    all_same N (λ i k. ap₂ same (ap (λ (m : List ℤ). coefficient m i) e ∙ coefficient-array N (λ i. mod2 (x i)) i k) (sym (one_modulo_2 i)))
