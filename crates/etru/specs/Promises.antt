-- Opening undoes sealing, of polynomials and for every N: document 01's bound is what makes it so.
use Rattle.std.specs.Prelude.{◌≡◌, ◌≢◌, ℕ, ◌+◌, ◌*◌, ◌<◌, T, pos}
use Rattle.eisenstein.specs.Values.{value, 𝟘, norm, ◌+ω◌, Congruent}
use Rattle.parameters.specs.Sets.{ParameterSet}
use Rattle.polynomials.specs.Polynomials.{Polynomial, convolution, one, units_only, reduced2}
use Rattle.etru.specs.Scheme.{opened}

-- What opening may count on: the bound, the sets, the inverses, and that h and e are what key check and sealing give, up to multiples of q.
pub record Setting (p : ParameterSet) (f F2 Fq g h φ m e : Polynomial) : Type 0 where
  pub modulus : p.q ≢ 𝟘
  pub bound : 4 * ((2 * p.s + p.t) * (2 * p.s + p.t)) < norm p.q
  pub f_units : T (units_only p.N p.t f)
  pub g_units : T (units_only p.N p.s g)
  pub φ_units : T (units_only p.N p.s φ)
  pub m_reduced : T (reduced2 p.N m)
  pub inverse_2 : (i : ℕ) → i < p.N → Congruent (value (pos 2) (pos 0)) (convolution p.N f F2 i) (one i)
  pub inverse_q : (i : ℕ) → i < p.N → Congruent p.q (convolution p.N f Fq i) (one i)
  pub h_is : (i : ℕ) → i < p.N → Congruent p.q (convolution p.N Fq g i) (h i)
  pub e_is : (i : ℕ) → i < p.N → Congruent p.q (convolution p.N (λ j. φ j +ω φ j) h i +ω m i) (e i)

abbrev pub OpeningUndoesSealing : Type 0
OpeningUndoesSealing = (p : ParameterSet) (f F2 Fq g h φ m e : Polynomial) → Setting p f F2 Fq g h φ m e → (i : ℕ) → i < p.N → opened p f F2 e i ≡ m i
