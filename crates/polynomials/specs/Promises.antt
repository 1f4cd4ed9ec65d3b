-- What is promised of convolution, for every N; each is proved in proofs/Promises.antt, from the algebra over any commutative ring and finite group of indices.
use Rattle.std.specs.Prelude.{◌≡◌, ℕ, ◌+◌, ◌-◌, ◌*◌, ◌%◌, ◌≤◌, ◌<◌, T}
use Rattle.eisenstein.specs.Values.{ℤ[ω], norm, ◌+ω◌, ◌*ω◌, Congruent}
use Rattle.polynomials.specs.Polynomials.{Polynomial, sum, convolution, one, units_only}

abbrev pub ConvolutionCommutes : Type 0
ConvolutionCommutes = (N : ℕ) (x y : Polynomial) (i : ℕ) → convolution N x y i ≡ convolution N y x i

abbrev pub ConvolutionAssociates : Type 0
ConvolutionAssociates = (N : ℕ) (x y z : Polynomial) (i : ℕ) → convolution N (convolution N x y) z i ≡ convolution N x (convolution N y z) i

abbrev pub ConvolutionAdds : Type 0
ConvolutionAdds = (N : ℕ) (x y z : Polynomial) (i : ℕ) → convolution N x (λ k. y k +ω z k) i ≡ convolution N x y i +ω convolution N x z i

abbrev pub ConvolutionOne : Type 0
ConvolutionOne = (N : ℕ) (x : Polynomial) (i : ℕ) → i < N → convolution N one x i ≡ x i

-- For each j just one k below N has (j + k) mod N = i.
abbrev pub ConvolutionSingle : Type 0
ConvolutionSingle = (N : ℕ) (x y : Polynomial) (i : ℕ) → i < N → convolution N x y i ≡ sum N (λ j. x j *ω y ((i + (N - j)) % N))

abbrev pub ConvolutionCongruent : Type 0
ConvolutionCongruent = (N : ℕ) (q : ℤ[ω]) (x x' y y' : Polynomial) → ((j : ℕ) → j < N → Congruent q (x j) (x' j)) → ((k : ℕ) → k < N → Congruent q (y k) (y' k)) → (i : ℕ) → Congruent q (convolution N x y i) (convolution N x' y' i)

-- With t units, the norms of a convolution are at most t² times those of the other operand.
abbrev pub ConvolutionNorm : Type 0
ConvolutionNorm = (N t b : ℕ) (x y : Polynomial) → T (units_only N t x) → ((k : ℕ) → k < N → norm (y k) ≤ b * b) → (i : ℕ) → i < N → norm (convolution N x y i) ≤ (t * b) * (t * b)
