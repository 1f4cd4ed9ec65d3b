-- The product of two polynomials before the wrap at N, directly and by halving, which is Karatsuba's multiplication (document 02, wish 5).
use Rattle.std.specs.Prelude.{cond, ℕ, zero, suc, ◌+◌, ◌-◌, ◌*◌, ◌/◌, ltb, leb}
use Rattle.eisenstein.specs.Values.{𝟘, ◌+ω◌, ◌-ω◌, ◌*ω◌}
use Rattle.polynomials.specs.Polynomials.{Polynomial, sum}

-- The direct sum: coefficient i is the sum of products of coefficients j and k with j + k = i.
unfoldable pub product : Polynomial → Polynomial → Polynomial
product x y i = sum (suc i) (λ j. x j *ω y (i - j))

-- The wrap at N: coefficient N + i is added to coefficient i.
unfoldable pub wrapped : ℕ → Polynomial → Polynomial
wrapped N z i = z i +ω z (N + i)

-- "Convolution should split both arrays into halves": x is its first h coefficients and, h places later, the others. Their sum is the third operand.
unfoldable pub low : ℕ → Polynomial → Polynomial
low h x i = cond (ltb i h) (x i) 𝟘

unfoldable pub high : ℕ → Polynomial → Polynomial
high h x i = x (h + i)

unfoldable pub both : ℕ → Polynomial → Polynomial
both h x i = low h x i +ω high h x i

-- x, h places later
unfoldable pub shift : ℕ → Polynomial → Polynomial
shift h x i = cond (ltb i h) 𝟘 (x (i - h))

-- The three products put together: that of the first halves, that of the sums less the outer two, and that of the others.
unfoldable pub joined : ℕ → (first middle last : Polynomial) → Polynomial
joined h first middle last i = (first i +ω shift h (λ k. (middle k -ω first k) -ω last k) i) +ω shift (2 * h) last i

-- Both split after h coefficients: the products of the first halves and of the sums are formed by `long`, that of the last halves by `short`.
unfoldable pub split : ℕ → (long short : Polynomial → Polynomial → Polynomial) → Polynomial → Polynomial → Polynomial
split h long short x y = joined h (long (low h x) (low h y)) (long (both h x) (both h y)) (short (high h x) (high h y))

-- "form three smaller products and split those again, down to 16 coefficients or fewer. Odd lengths are included." After `depth` splittings nothing is formed any more.
unfoldable pub halved_to : (depth n : ℕ) → Polynomial → Polynomial → Polynomial
halved_to zero n x y i = 𝟘
halved_to (suc depth) n x y i = cond (leb n 16) (product x y i) (split (n - n / 2) (halved_to depth (n - n / 2)) (halved_to depth (n / 2)) x y i)

-- The length falls with each splitting, so this depth is never reached: that is part of what is promised.
abbrev pub halved : ℕ → Polynomial → Polynomial → Polynomial
halved n = halved_to (suc n) n
