-- The scheme (document 01, 'Key, sealing, opening').
use Rattle.eisenstein.specs.Values.{◌+ω◌}
use Rattle.eisenstein.specs.Reduction.{mod_q, mod2}
use Rattle.parameters.specs.Sets.{ParameterSet}
use Rattle.polynomials.specs.Polynomials.{Polynomial, convolution}

-- "h = Fq × g reduced modulo q"
unfoldable pub public_key : ParameterSet → (Fq g : Polynomial) → Polynomial
public_key p Fq g i = mod_q p.q (convolution p.N Fq g i)

-- "Sealing gives e = 2φ × h + m reduced modulo q."
unfoldable pub sealed : ParameterSet → (h φ m : Polynomial) → Polynomial
sealed p h φ m i = mod_q p.q (convolution p.N (λ j. φ j +ω φ j) h i +ω m i)

-- "Opening forms f × e reduced modulo q, then F2 times that, reduced modulo 2."
unfoldable pub opened : ParameterSet → (f F2 e : Polynomial) → Polynomial
opened p f F2 e i = mod2 (convolution p.N F2 (λ j. mod_q p.q (convolution p.N f e j)) i)
