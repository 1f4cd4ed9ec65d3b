-- What document 02's wish 6 promises of the four classes; each is proved in proofs/: Sixteen and Standing.
use Rattle.std.specs.Prelude.{◌≡◌, ℕ, ◌<◌}
use Rattle.eisenstein.specs.Values.{ℤ[ω], ◌+ω◌, ◌*ω◌}
use Rattle.eisenstein.specs.Reduction.{mod2}
use Rattle.polynomials.specs.Polynomials.{Polynomial, convolution}
use Rattle.classes.specs.Classes.{remainder_of, class_of, product, plus, convolution as classConvolution}

-- The number of a value's class is below 4, and that class has the value's remainder modulo 2.
abbrev pub ClassOfAValue : Type 0
ClassOfAValue = (x : ℤ[ω]) → (class_of x < 4) × (remainder_of (class_of x) ≡ mod2 x)

-- No two of the four numbers are the same class.
abbrev pub ClassOfARemainder : Type 0
ClassOfARemainder = (k : ℕ) → k < 4 → class_of (remainder_of k) ≡ k

-- "Each of the sixteen is document 01's product reduced modulo 2."
abbrev pub SixteenProducts : Type 0
SixteenProducts = (i j : ℕ) → i < 4 → j < 4 → (product i j < 4) × (remainder_of (product i j) ≡ mod2 (remainder_of i *ω remainder_of j))

-- Each of the sixteen sums is document 01's sum reduced modulo 2.
abbrev pub SixteenSums : Type 0
SixteenSums = (i j : ℕ) → i < 4 → j < 4 → (plus i j < 4) × (remainder_of (plus i j) ≡ mod2 (remainder_of i +ω remainder_of j))

-- For every N the convolution of the classes, added as classes, is the convolution reduced modulo 2.
abbrev pub ConvolutionOfClasses : Type 0
ConvolutionOfClasses = (N : ℕ) (x y : Polynomial) (i : ℕ) → remainder_of (classConvolution N (λ j. class_of (x j)) (λ k. class_of (y k)) i) ≡ mod2 (convolution N x y i)
