-- Arrays (document 01, 'Where each number is checked'): their length, and the size of their numbers.
use Rattle.std.specs.Prelude.{◌≡◌, Bool, not, ◌&&◌, List, ℕ, ◌*◌, ◌≤◌, eqb, leb, ltb, ℤ, pos, nat_abs, length, get_or}
use Rattle.polynomials.specs.Polynomials.{coefficient, all, zeros_and_units}

-- an array, or an output's room, of 2N numbers
abbrev pub full : ℕ → ℕ → Bool
full N n = eqb n (2 * N)

-- Numbers at most b in size. The fact, and the test of it.
abbrev pub AllWithin : ℕ → List ℤ → Type 0
AllWithin b l = (k : ℕ) → nat_abs (get_or l k (pos 0)) ≤ b

unfoldable pub all_within : ℕ → List ℤ → Bool
all_within b l = all (length l) (λ k. not (ltb b (nat_abs (get_or l k (pos 0)))))

-- Numbers that products are formed of: at most 5,461 in size, as every remainder's parts are; six of them have a sum of 16 bits.
abbrev pub Small : List ℤ → Type 0
Small = AllWithin 5461

abbrev pub all_small : List ℤ → Bool
all_small = all_within 5461

-- An array of N coefficients, N at most 1,024, that are zeros and units alone.
unfoldable pub units_array : ℕ → List ℤ → Bool
units_array N x = leb N 1024 && (full N (length x) && zeros_and_units N (coefficient x))

-- Each number zero.
abbrev pub Zeros : List ℤ → Type 0
Zeros l = (k : ℕ) → get_or l k (pos 0) ≡ pos 0
