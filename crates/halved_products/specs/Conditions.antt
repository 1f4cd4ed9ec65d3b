-- What the steps of convolution count on, once a call has asked it, and what they give. Only contracts of those steps speak of it.
use Rattle.std.specs.Prelude.{◌≡◌, List, ℕ, ◌-◌, ◌*◌, ◌^◌, ◌≤◌, ℤ, pos, nat_abs, length, get_or}
use Rattle.eisenstein.specs.Values.{ℤ[ω]}
use Rattle.eisenstein.specs.Reduction.{mod_q}
use Rattle.polynomials.specs.Polynomials.{coefficient, array, convolution}
use Rattle.arrays.specs.Arrays.{Small}
use Rattle.arrays.specs.Conditions.{Modulus}

-- Two arrays of N coefficients whose numbers are at most 5,461, as those of every remainder are, and room for a third.
pub record Convolvable (n : ℕ) (q : ℤ[ω]) (x y out : List ℤ) : Type 0 where
  pub N_small : n ≤ 1024
  pub modulus : Modulus q
  pub x_long : length x ≡ 2 * n
  pub y_long : length y ≡ 2 * n
  pub out_long : length out ≡ 2 * n
  pub x_small : Small x
  pub y_small : Small y

-- out is x × y reduced modulo q
abbrev pub Convolved : (n : ℕ) (q : ℤ[ω]) (x y out : List ℤ) → Type 0
Convolved n q x y out = out ≡ array n (λ i. mod_q q (convolution n (coefficient x) (coefficient y) i))

-- Numbers so small that the sums of two halves are so again for half the length. With two coefficients or more they are at most 2^23; with N = 1,024, at most 8,200.
abbrev pub Halvable : ℕ → List ℤ → Type 0
Halvable n x = (k : ℕ) → nat_abs (get_or x k (pos 0)) * (n - 1) ≤ 2 ^ 23

-- a value that `remainders` reduces
abbrev pub Reducible : ℤ[ω] → Type 0
Reducible v = (nat_abs v.a ≤ 2 ^ 40) × (nat_abs v.b ≤ 2 ^ 40)

-- two arrays of n coefficients, and room for their product and the smaller ones that it is formed of: 4n numbers for the product, and behind it what that of the sums needs
abbrev pub Factors : (n : ℕ) (x y w : List ℤ) → Type 0
Factors n x y w = (2 ≤ n) × (n ≤ 1024) × (length x ≡ 2 * n) × (length y ≡ 2 * n) × (17 * n ≤ 2 * length w) × (length w ≤ 2 ^ 16)
