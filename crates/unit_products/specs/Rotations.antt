-- How the product by additions goes: what its steps add to their sums, and how large those get. Only contracts of the steps speak of it.
use Rattle.std.specs.Prelude.{◌≡◌, cond, List, ℕ, ◌+◌, ◌-◌, ◌*◌, ◌≤◌, ◌<◌, ℤ, pos, nat_abs, ◌+ℤ◌, length, get_or}
use Rattle.eisenstein.specs.Values.{ℤ[ω], value, 𝟘, same, ◌+ω◌, ◌*ω◌}
use Rattle.polynomials.specs.Polynomials.{Polynomial, coefficient, sum}
use Rattle.arrays.specs.Arrays.{AllWithin}

-- unit 1, of which each unit is a power: unit k is ζᵏ
abbrev pub ζ : ℤ[ω]
ζ = value (pos 1) (pos 1)

-- both parts at most b in size
abbrev pub PartsBelow : ℕ → ℤ[ω] → Type 0
PartsBelow b x = (nat_abs x.a ≤ b) × (nat_abs x.b ≤ b)

-- y rotated by j places, where it stands twice: a run of numbers
abbrev pub run : ℕ → List ℤ → ℕ → Polynomial
run n twice j i =
    value (get_or twice (2 * (n - j) + 2 * i) (pos 0)) (get_or twice (2 * (n - j) + (2 * i + 1)) (pos 0))

-- 1 if x is u, and 0 if not
unfoldable pub is : ℤ[ω] → ℤ[ω] → ℤ[ω]
is u x = cond (same x u) (value (pos 1) (pos 0)) 𝟘

-- the sum of the rotations by the places at which x is u
abbrev pub runs : ℕ → List ℤ → ℤ[ω] → Polynomial → Polynomial
runs n twice u x i = sum n (λ j. is u (x j) *ω run n twice j i)

-- The list has, at its first `count` places, the places below n at which x is u: what is summed over the one is summed over the other.
pub record Places (n : ℕ) (u : ℤ[ω]) (x : Polynomial) (places : List ℕ) (count : ℕ) : Type 0 where
  pub few : count ≤ n
  pub below : (m : ℕ) → m < count → get_or places m 0 < n
  pub sums : (f : Polynomial) → sum count (λ m. f (get_or places m 0)) ≡ sum n (λ j. is u (x j) *ω f j)

-- the number k places after start i
abbrev pub number_at : List ℤ → List ℕ → (k i : ℕ) → ℤ
number_at l starts k i = get_or l (get_or starts i 0 + k) (pos 0)

-- the sum of the numbers k places after six starts
abbrev pub six_at : List ℤ → List ℕ → ℕ → ℤ
six_at l starts k =
    number_at l starts k 0 +ℤ number_at l starts k 1 +ℤ number_at l starts k 2 +ℤ number_at l starts k 3 +ℤ number_at l starts k 4 +ℤ number_at l starts k 5

-- from each of six starts on there are so many numbers
abbrev pub SixFit : List ℕ → ℕ → List ℤ → Type 0
SixFit starts count numbers = (i : ℕ) → i < 6 → get_or starts i 0 + count ≤ length numbers

-- `new`, as long as `old`, is the numbers
pub record Filled (numbers : ℕ → ℤ) (old new : List ℤ) : Type 0 where
  pub long : length new ≡ length old
  pub inside : (k : ℕ) → k < length old → get_or new k (pos 0) ≡ numbers k

-- `new` is `old` with a number added at each place
pub record Added (numbers : ℕ → ℤ) (old new : List ℤ) : Type 0 where
  pub long : length new ≡ length old
  pub inside : (k : ℕ) → k < length old → get_or new k (pos 0) ≡ get_or old k (pos 0) +ℤ numbers k

-- `new` is `old` with a polynomial added, by which no number has grown more than b
pub record Summed (n : ℕ) (x : Polynomial) (b : ℕ) (old new : List ℤ) : Type 0 where
  pub long : length new ≡ length old
  pub sums : (i : ℕ) → i < n → coefficient new i ≡ coefficient old i +ω x i
  pub grown : (k : ℕ) → nat_abs (get_or new k (pos 0)) ≤ nat_abs (get_or old k (pos 0)) + b

-- `new` is `old` with the rotations by the first m places of a list added
abbrev pub Rotated : ℕ → List ℤ → (ℕ → ℕ) → ℕ → (old new : List ℤ) → Type 0
Rotated n twice place m = Summed n (λ i. sum m (λ k. run n twice (place k) i)) (m * 5461)

-- sums of 2n numbers at most b in size, and what stands twice
pub record Summands (n b : ℕ) (sums twice : List ℤ) : Type 0 where
  pub N_small : n ≤ 1024
  pub long : length sums ≡ 2 * n
  pub twice_long : length twice ≡ 2 * (2 * n)
  pub sums_below : AllWithin b sums
  pub twice_below : AllWithin 5461 twice

-- places by which it is to be rotated
pub record PlacesBelow (n : ℕ) (places : List ℕ) : Type 0 where
  pub few : length places ≤ n
  pub below : (m : ℕ) → m < length places → get_or places m 0 < n
