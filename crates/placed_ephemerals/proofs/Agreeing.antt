-- Polynomials that agree below N seal alike.
use mathlib.Core.Path.{◌≡◌, refl, ap, ap₂}
use Prim.Native.Nat.{ℕ, ◌<◌}
use Rattle.eisenstein.specs.Values.{ℤ[ω], ◌+ω◌}
use Rattle.eisenstein.specs.Reduction.{mod_q}
use Rattle.parameters.specs.Sets.{ParameterSet}
use Rattle.polynomials.specs.Polynomials.{Polynomial, array}
use Rattle.polynomials.proofs.Arrays.{array_same}
use Rattle.polynomials.proofs.Eisenstein.{convolution-same}
use Rattle.etru.specs.Scheme.{sealed}

pub same-sealed : (p : ParameterSet) (h m : Polynomial) {x y : Polynomial} → ((i : ℕ) → i < p.N → x i ≡ y i) → array p.N (sealed p h x m) ≡ array p.N (sealed p h y m)
unfolding sealed
same-sealed p h m agree =
    array_same p.N (λ i l. ap (λ (z : ℤ[ω]). mod_q p.q (z +ω m i)) (convolution-same p.N (λ j l. ap₂ ◌+ω◌ (agree j l) (agree j l)) (λ k l. refl) i))
