-- The sixteen products and the sixteen sums, each by one test that is computed.
use mathlib.Core.Path.{◌≡◌}
use mathlib.Core.Bool.{Bool, ◌&&◌}
use Prim.Native.Nat.{ℕ, ◌<◌}
use lib.Dec.{T, ltb, ltb→lt}
use mir.Facts.{and_yes}
use Rattle.integers.proofs.Tests.{every, every_at}
use Rattle.eisenstein.specs.Values.{ℤ[ω], same, same_ℤ, ◌+ω◌, ◌*ω◌}
use Rattle.eisenstein.specs.Reduction.{bit, mod2}
use Rattle.eisenstein.proofs.Equality.{same_yes}
use Rattle.classes.specs.Classes.{remainder_of, product, plus}
use Rattle.classes.specs.Promises.{SixteenProducts, SixteenSums}

-- f i j is a class, that of v i j
abbrev right : (ℕ → ℕ → ℕ) → (ℕ → ℕ → ℤ[ω]) → ℕ → ℕ → Bool
right f v i j = ltb (f i j) 4 && same (remainder_of (f i j)) (mod2 (v i j))

by_test : (f : ℕ → ℕ → ℕ) (v : ℕ → ℕ → ℤ[ω]) → T (every (λ i. every (right f v i) 4) 4) → (i j : ℕ) → i < 4 → j < 4 → (f i j < 4) × (remainder_of (f i j) ≡ mod2 (v i j))
by_test f v t i j p q =
    let h = and_yes (ltb (f i j) 4) (same (remainder_of (f i j)) (mod2 (v i j))) (every_at (right f v i) 4 (every_at (λ i. every (right f v i) 4) 4 t i p) j q) in
    (ltb→lt (f i j) 4 h.0, same_yes (remainder_of (f i j)) (mod2 (v i j)) h.1)

pub sixteen_products : SixteenProducts
unfolding same same_ℤ bit mod2 ◌*ω◌ remainder_of product
sixteen_products = by_test product (λ i j. remainder_of i *ω remainder_of j) tt

pub sixteen_sums : SixteenSums
unfolding same same_ℤ bit mod2 ◌+ω◌ remainder_of
sixteen_sums = by_test plus (λ i j. remainder_of i +ω remainder_of j) tt
