-- The promises of products by halving.
use mathlib.Core.Path.{◌≡◌, sym, ◌∙◌, ap, ap₂}
use mathlib.Core.Bool.{Bool, cond}
use Prim.Native.Nat.{ℕ, zero, suc, ◌+◌, ◌-◌, ◌*◌, ◌/◌, ◌≤◌, ◌<◌}
use native.Mathlib.Omega.{arith}
use native.Mathlib.Decide.{dec_le}
use borrow.Author.Tests.{le-leb, lt-leb}
use lib.Dec.{leb}
use Rattle.eisenstein.specs.Values.{ℤ[ω], ◌+ω◌, ◌-ω◌}
use Rattle.eisenstein.proofs.Solver.{ringω, ◌≐◌, ◌⊞◌, ◌⊟◌}
use Rattle.polynomials.specs.Polynomials.{Polynomial, coefficient}
use Rattle.halving.specs.Products.{product, wrapped, low, high, both, shift, joined, split, halved_to}
use Rattle.halving.specs.Promises.{ThreeProducts, HalvedIsDirect, WrappedIsConvolution, HalvedIsConvolution}
use Rattle.halving.proofs.Products.{shift_same, shift_add, shift_twice, halves, product-same, product_add_left, product_add_right, product_shift_left, product_shift_right, wrap, coefficient-past}

-- (a + X^h·b)·(c + X^h·d)
four : (h : ℕ) (a b c d : Polynomial) (i : ℕ) → product (λ j. a j +ω shift h b j) (λ j. c j +ω shift h d j) i ≡ (product a c i +ω shift h (product a d) i) +ω (shift h (product b c) i +ω shift (2 * h) (product b d) i)
four h a b c d i =
    product_add_left a (shift h b) (λ j. c j +ω shift h d j) i
    ∙ ap₂ ◌+ω◌ (product_add_right a c (shift h d) i) (product_add_right (shift h b) c (shift h d) i)
    ∙ ap₂ ◌+ω◌ (ap (◌+ω◌ (product a c i)) (product_shift_right h a d i))
    (ap₂ ◌+ω◌ (product_shift_left h b c i) (product_shift_left h b (shift h d) i ∙ shift_same h i (λ k. product_shift_right h b d k) ∙ shift_twice h (product b d) i))

cancel : (p q r s : ℤ[ω]) → ((p +ω q) +ω (r +ω s) -ω p) -ω s ≡ q +ω r
unfolding ◌+ω◌ ◌-ω◌
cancel = ringω 4 (λ p q r s. ((p ⊞ q) ⊞ (r ⊞ s) ⊟ p) ⊟ s ≐ q ⊞ r) tt

-- the product of the sums, less the outer two
between : (a b c d : Polynomial) (k : ℕ) → (product (λ j. a j +ω b j) (λ j. c j +ω d j) k -ω product a c k) -ω product b d k ≡ product a d k +ω product b c k
between a b c d k =
    ap (λ (z : ℤ[ω]). (z -ω product a c k) -ω product b d k)
    (product_add_left a b (λ j. c j +ω d j) k ∙ ap₂ ◌+ω◌ (product_add_right a c d k) (product_add_right b c d k))
    ∙ cancel (product a c k) (product a d k) (product b c k) (product b d k)

order : (p q r s : ℤ[ω]) → (p +ω (q +ω r)) +ω s ≡ (p +ω q) +ω (r +ω s)
unfolding ◌+ω◌
order = ringω 4 (λ p q r s. (p ⊞ (q ⊞ r)) ⊞ s ≐ (p ⊞ q) ⊞ (r ⊞ s)) tt

pub three_products : ThreeProducts
unfolding split joined both
three_products h x y i =
    ap (λ (z : ℤ[ω]). (product (low h x) (low h y) i +ω z) +ω shift (2 * h) (product (high h x) (high h y)) i)
    (shift_same h i (between (low h x) (high h x) (low h y) (high h y)) ∙ shift_add h (product (low h x) (high h y)) (product (high h x) (low h y)) i)
    ∙ order (product (low h x) (low h y) i) (shift h (product (low h x) (high h y)) i) (shift h (product (high h x) (low h y)) i) (shift (2 * h) (product (high h x) (high h y)) i)
    ∙ sym (four h (low h x) (high h x) (low h y) (high h y) i)
    ∙ sym (product-same i (halves h x) (halves h y))

-- the three products as they are joined
pub split-joined : (h : ℕ) (x y : Polynomial) (i : ℕ) → joined h (product (low h x) (low h y)) (product (both h x) (both h y)) (product (high h x) (high h y)) i ≡ product x y i
unfolding split
split-joined = three_products

-- one splitting, by products that are the direct ones
split_direct : (h : ℕ) (long short : Polynomial → Polynomial → Polynomial) → ((x y : Polynomial) (i : ℕ) → long x y i ≡ product x y i) → ((x y : Polynomial) (i : ℕ) → short x y i ≡ product x y i) → (x y : Polynomial) (i : ℕ) → split h long short x y i ≡ product x y i
unfolding split joined
split_direct h long short p q x y i =
    ap₂ ◌+ω◌ (ap₂ ◌+ω◌ (p (low h x) (low h y) i) (shift_same h i (λ k. ap₂ ◌-ω◌ (ap₂ ◌-ω◌ (p (both h x) (both h y) k) (p (low h x) (low h y) k)) (q (high h x) (high h y) k)))) (shift_same (2 * h) i (q (high h x) (high h y)))
    ∙ three_products h x y i

halved_to_lem : (depth n : ℕ) → n < depth → (x y : Polynomial) (i : ℕ) → halved_to depth n x y i ≡ product x y i
unfolding halved_to
halved_to_lem zero n l x y i = absurd (omega arith)
halved_to_lem (suc depth) n l x y i =
    go (dec_le n 16) _ (λ p. split_direct (n - n / 2) (halved_to depth (n - n / 2)) (halved_to depth (n / 2)) (halved_to_lem depth (n - n / 2) (omega arith)) (halved_to_lem depth (n / 2) (omega arith)) x y i)
  where
    go : Dec (n ≤ 16) → (three : ℤ[ω]) → (16 < n → three ≡ product x y i) → cond (leb n 16) (product x y i) three ≡ product x y i
    go (yes p) three e = ap (λ (t : Bool). cond t (product x y i) three) (le-leb n 16 p)
    go (no p) three e = ap (λ (t : Bool). cond t (product x y i) three) (lt-leb n 16 (omega arith)) ∙ e (omega arith)

pub halved_is_direct : HalvedIsDirect
halved_is_direct n = halved_to_lem (suc n) n (omega arith)

pub wrapped_is_convolution : WrappedIsConvolution
wrapped_is_convolution N x y p q =
    wrap N (coefficient x) (coefficient y) (coefficient-past N x p) (coefficient-past N y q)

pub halved_is_convolution : HalvedIsConvolution
unfolding wrapped
halved_is_convolution N x y p q i l =
    ap₂ ◌+ω◌ (halved_is_direct N (coefficient x) (coefficient y) i) (halved_is_direct N (coefficient x) (coefficient y) (N + i))
    ∙ wrapped_is_convolution N x y p q i l
