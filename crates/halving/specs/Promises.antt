-- What is promised of products by halving (document 02, wish 5), for every length; each is proved in proofs/Promises.antt.
use Rattle.std.specs.Prelude.{◌≡◌, List, ℕ, ◌*◌, ◌<◌, ℤ, length}
use Rattle.polynomials.specs.Polynomials.{Polynomial, coefficient, convolution}
use Rattle.halving.specs.Products.{product, wrapped, split, halved}

-- Three products of halves, put together, are the product, wherever it is cut.
abbrev pub ThreeProducts : Type 0
ThreeProducts = (h : ℕ) (x y : Polynomial) (i : ℕ) → split h product product x y i ≡ product x y i

-- "One proof over the length covers all N": the product by halving is the direct one.
abbrev pub HalvedIsDirect : Type 0
HalvedIsDirect = (n : ℕ) (x y : Polynomial) (i : ℕ) → halved n x y i ≡ product x y i

-- Convolution is the product, wrapped at N.
abbrev pub WrappedIsConvolution : Type 0
WrappedIsConvolution = (N : ℕ) (x y : List ℤ) → length x ≡ 2 * N → length y ≡ 2 * N → (i : ℕ) → i < N → wrapped N (product (coefficient x) (coefficient y)) i ≡ convolution N (coefficient x) (coefficient y) i

-- "For every N and every pair of operands reduced modulo q it gives exactly what the direct sum of document 01 gives." It does so for every pair of arrays.
abbrev pub HalvedIsConvolution : Type 0
HalvedIsConvolution = (N : ℕ) (x y : List ℤ) → length x ≡ 2 * N → length y ≡ 2 * N → (i : ℕ) → i < N → wrapped N (halved N (coefficient x) (coefficient y)) i ≡ convolution N (coefficient x) (coefficient y) i
