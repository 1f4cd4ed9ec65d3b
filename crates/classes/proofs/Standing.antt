-- A class stands for each of its values. Sums and products of classes stand for those of the values, and so does a convolution, for every N.
use mathlib.Core.Path.{◌≡◌, refl, ◌∙◌, ap, ap₂}
use mathlib.Core.Bool.{Bool, true, false, cond, ◌&&◌}
use Prim.Native.Nat.{ℕ, zero, suc, ◌+◌, ◌*◌, ◌%◌, ◌<◌}
use native.Mathlib.Omega.{arith}
use lib.Dec.{T, eqb, eqb→eq, lit<}
use lib.IntN.{pos, negsuc}
use Rattle.integers.proofs.Tests.{every, every_at}
use Rattle.eisenstein.specs.Values.{ℤ[ω], value, 𝟘, ◌+ω◌, ◌*ω◌}
use Rattle.eisenstein.specs.Reduction.{bit, mod2}
use Rattle.eisenstein.proofs.Laws.{congruent_sym}
use Rattle.eisenstein.proofs.Modulo2.{bit_lt, mod2_in_class, mod2_by_class}
use Rattle.polynomials.specs.Polynomials.{Polynomial, sum, convolution}
use Rattle.polynomials.proofs.Eisenstein.{congruent_add, congruent_mul}
use Rattle.classes.specs.Classes.{remainder_of, class_of, product, plus, sum as classSum, convolution as classConvolution}
use Rattle.classes.specs.Promises.{ClassOfAValue, ClassOfARemainder, ConvolutionOfClasses}
use Rattle.classes.proofs.Sixteen.{sixteen_products, sixteen_sums}

-- s is the class of x
pub record Stands (s : ℕ) (x : ℤ[ω]) : Type 0 where
  pub below : s < 4
  pub is : remainder_of s ≡ mod2 x

-- ---- one value

class_is : (u v : ℕ) → u < 2 → v < 2 → (u + 2 * v < 4) × (remainder_of (u + 2 * v) ≡ cond (eqb u 1 && eqb v 1) (value (negsuc 0) (negsuc 0)) (value (pos u) (pos v)))
unfolding remainder_of
class_is zero zero p q = (lit< tt, refl)
class_is zero (suc zero) p q = (lit< tt, refl)
class_is zero (suc (suc v)) p q = absurd (omega arith)
class_is (suc zero) zero p q = (lit< tt, refl)
class_is (suc zero) (suc zero) p q = (lit< tt, refl)
class_is (suc zero) (suc (suc v)) p q = absurd (omega arith)
class_is (suc (suc u)) v p q = absurd (omega arith)

pub class_of_a_value : ClassOfAValue
unfolding class_of mod2
class_of_a_value x = class_is (bit x.a) (bit x.b) (bit_lt x.a) (bit_lt x.b)

pub stands : (x : ℤ[ω]) → Stands (class_of x) x
stands x = record { below = (class_of_a_value x).0; is = (class_of_a_value x).1 }

all-remainders : T (every (λ k. eqb (class_of (remainder_of k)) k) 4)
unfolding class_of remainder_of bit
all-remainders = tt

pub class_of_a_remainder : ClassOfARemainder
class_of_a_remainder k p = eqb→eq (class_of (remainder_of k)) k (every_at (λ k. eqb (class_of (remainder_of k)) k) 4 all-remainders k p)

-- ---- sums and products

stands_zero : Stands 0 𝟘
unfolding remainder_of mod2 bit
stands_zero = record { below = lit< tt; is = refl }

module _ {s t : ℕ} {x y : ℤ[ω]} (h : Stands s x) (g : Stands t y) where
  pub stands_plus : Stands (plus s t) (x +ω y)
  stands_plus =
      let e = sixteen_sums s t h.below g.below in
      record { below = e.0; is = e.1 ∙ ap mod2 (ap₂ ◌+ω◌ h.is g.is) ∙ mod2_by_class (mod2 x +ω mod2 y) (x +ω y) (congruent_add (congruent_sym (mod2_in_class x)) (congruent_sym (mod2_in_class y))) }

  pub stands_product : Stands (product s t) (x *ω y)
  stands_product =
      let e = sixteen_products s t h.below g.below in
      record { below = e.0; is = e.1 ∙ ap mod2 (ap₂ ◌*ω◌ h.is g.is) ∙ mod2_by_class (mod2 x *ω mod2 y) (x *ω y) (congruent_mul (congruent_sym (mod2_in_class x)) (congruent_sym (mod2_in_class y))) }

pub stands_sum : (n : ℕ) {s : ℕ → ℕ} {x : Polynomial} → ((j : ℕ) → j < n → Stands (s j) (x j)) → Stands (classSum n s) (sum n x)
unfolding classSum sum
stands_sum zero h = stands_zero
stands_sum (suc n) h = stands_plus (stands_sum n (λ j p. h j (omega arith))) (h n (omega arith))

-- ---- the convolution

stands_if : (t : Bool) {s : ℕ} {x : ℤ[ω]} → Stands s x → Stands (cond t s 0) (cond t x 𝟘)
stands_if true h = h
stands_if false h = stands_zero

pub convolution_of_classes : ConvolutionOfClasses
unfolding classConvolution convolution
convolution_of_classes N x y i =
    (stands_sum N (λ j p. stands_sum N (λ k q. stands_if (eqb ((j + k) % N) i) (stands_product (stands (x j)) (stands (y k)))))).is
