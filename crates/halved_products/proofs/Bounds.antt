-- How large the coefficients of a product and of a convolution are, from the size of the operands' numbers.
use mathlib.Core.Path.{◌≡◌, sym, subst}
use mathlib.Core.List.{List}
use Prim.Native.Nat.{ℕ, zero, suc, ◌+◌, ◌-◌, ◌*◌, ◌/◌, ◌%◌, ◌^◌, ◌≤◌, ◌<◌}
use native.Mathlib.Omega.{arith}
use native.Mathlib.Nat.{mul-le-mul, suc-mul}
use native.Mathlib.Decide.{ℕ_discrete}
use lib.IntN.{ℤ, pos, nat_abs, ◌+ℤ◌, ◌*ℤ◌}
use lib.ListN.{get_or}
use Rattle.integers.proofs.Absolute.{natAbs-+, natAbs--, natAbs-*}
use Rattle.eisenstein.specs.Values.{ℤ[ω], ◌+ω◌, ◌*ω◌}
use Rattle.polynomials.specs.Polynomials.{Polynomial, coefficient, sum, convolution}
use Rattle.polynomials.proofs.Promises.{convolution_single}
use Rattle.arrays.specs.Arrays.{AllWithin, Small}
use Rattle.arrays.proofs.Sizes.{PartsAtMost}
use Rattle.halving.specs.Products.{product}
use Rattle.halved_products.specs.Conditions.{Reducible}

sum-within : (m b : ℕ) (x : Polynomial) → ((j : ℕ) → PartsAtMost b (x j)) → PartsAtMost (m * b) (sum m x)
unfolding sum ◌+ω◌
sum-within zero b x h = (omega arith, omega arith)
sum-within (suc m) b x h =
    let r = sum-within m b x h in
    (omega (arith, natAbs-+ (sum m x).a (x m).a, r.0, (h m).0, suc-mul m b), omega (arith, natAbs-+ (sum m x).b (x m).b, r.1, (h m).1, suc-mul m b))

times_within : (b : ℕ) (x y : ℤ[ω]) → PartsAtMost b x → PartsAtMost b y → PartsAtMost (3 * (b * b)) (x *ω y)
unfolding ◌*ω◌
times_within b x y p q =
    let ac = small x.a y.a p.0 q.0 in
    let bd = small x.b y.b p.1 q.1 in
    let ad = small x.a y.b p.0 q.1 in
    let bc = small x.b y.a p.1 q.0 in
    (omega (arith, natAbs-- (x.a *ℤ y.a) (x.b *ℤ y.b), ac, bd), omega (arith, natAbs-- ((x.a *ℤ y.b) +ℤ (x.b *ℤ y.a)) (x.b *ℤ y.b), natAbs-+ (x.a *ℤ y.b) (x.b *ℤ y.a), ad, bc, bd))
  where
    small : (u v : ℤ) → nat_abs u ≤ b → nat_abs v ≤ b → nat_abs (u *ℤ v) ≤ b * b
    small u v f g = subst (λ (n : ℕ). n ≤ b * b) (sym (natAbs-* u v)) (mul-le-mul f g)

coefficient-within : (b : ℕ) (l : List ℤ) → AllWithin b l → (i : ℕ) → PartsAtMost b (coefficient l i)
unfolding coefficient
coefficient-within b l h i = (h (2 * i), h (2 * i + 1))

-- products that are formed by halving
pub product-within : (x y : List ℤ) → AllWithin (2 ^ 23) x → AllWithin (2 ^ 23) y → (i : ℕ) → i < 2048 → PartsAtMost (2 ^ 59) (product (coefficient x) (coefficient y) i)
unfolding product
product-within x y p q i l =
    let r = sum-within (suc i) (3 * (2 ^ 23 * 2 ^ 23)) (λ j. coefficient x j *ω coefficient y (i - j)) (λ j. times_within (2 ^ 23) (coefficient x j) (coefficient y (i - j)) (coefficient-within (2 ^ 23) x p j) (coefficient-within (2 ^ 23) y q (i - j))) in
    (omega (arith, r.0), omega (arith, r.1))

-- convolutions, before they are reduced
pub convolution_reducible : (N : ℕ) (x y : List ℤ) → N ≤ 1024 → Small x → Small y → (i : ℕ) → i < N → Reducible (convolution N (coefficient x) (coefficient y) i)
convolution_reducible N x y n p q i l =
    let r = sum-within N (3 * (5461 * 5461)) (λ j. coefficient x j *ω coefficient y ((i + (N - j)) % N)) (λ j. times_within 5461 (coefficient x j) (coefficient y ((i + (N - j)) % N)) (coefficient-within 5461 x p j) (coefficient-within 5461 y q ((i + (N - j)) % N))) in
    subst Reducible (sym (convolution_single N (coefficient x) (coefficient y) i l)) (omega (arith, r.0), omega (arith, r.1))

-- a number, from its coefficient
pub num_within : (l : List ℤ) (b k : ℕ) → PartsAtMost b (coefficient l (k / 2)) → nat_abs (get_or l k (pos 0)) ≤ b
unfolding coefficient
num_within l b k h = go (ℕ_discrete (k % 2) 0)
  where
    go : Dec (k % 2 ≡ 0) → nat_abs (get_or l k (pos 0)) ≤ b
    go (yes z) = subst (λ (m : ℕ). nat_abs (get_or l m (pos 0)) ≤ b) {x = 2 * (k / 2)} (omega arith) h.0
    go (no z) = subst (λ (m : ℕ). nat_abs (get_or l m (pos 0)) ≤ b) {x = 2 * (k / 2) + 1} (omega arith) h.1
