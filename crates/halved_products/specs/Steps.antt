-- What the steps of a product by halving do to their numbers. Only contracts and proofs of those steps speak of it.
use Rattle.std.specs.Prelude.{◌≡◌, ◌≢◌, cond, List, ℕ, ◌+◌, ◌-◌, ◌*◌, ◌≤◌, ◌<◌, ltb, ℤ, pos, ◌+ℤ◌, ◌-ℤ◌, length, get_or}
use Rattle.eisenstein.specs.Values.{𝟘, ◌+ω◌, ◌-ω◌}
use Rattle.polynomials.specs.Polynomials.{Polynomial}
use Rattle.halving.specs.Products.{shift}

-- two parts of a list, of as many elements each, that have none in common
abbrev pub Apart : (to from count : ℕ) → Type 0
Apart to from count = (j k : ℕ) → j < count → k < count → to + j ≢ from + k

-- l is l₀, but that its k elements from place `to` on are what an operation can give for those of l₀ and as many from place `from` on. `post` says what it can give.
pub record Combined {A : Type 0} (post : A → A → A → Type 0) (to from : ℕ) (l₀ l : List A) (k : ℕ) : Type 0 where
  pub long : length l ≡ length l₀
  pub new : (d : A) (i : ℕ) → i < k → post (get_or l₀ (to + i) d) (get_or l₀ (from + i) d) (get_or l (to + i) d)
  pub below : (d : A) (i : ℕ) → i < to → get_or l i d ≡ get_or l₀ i d
  pub above : (d : A) (i : ℕ) → k ≤ i → get_or l (to + i) d ≡ get_or l₀ (to + i) d

-- l is l₀, but that its k numbers from place p on are f's
pub record Put (f : ℕ → ℤ) (p : ℕ) (l₀ l : List ℤ) (k : ℕ) : Type 0 where
  pub long : length l ≡ length l₀
  pub new : (i : ℕ) → i < k → get_or l (p + i) (pos 0) ≡ f i
  pub below : (i : ℕ) → i < p → get_or l i (pos 0) ≡ get_or l₀ i (pos 0)
  pub above : (i : ℕ) → k ≤ i → get_or l (p + i) (pos 0) ≡ get_or l₀ (p + i) (pos 0)

-- the numbers from one place on added to as many from another, or subtracted from them
abbrev pub Added : (to from count : ℕ) → (l₀ l : List ℤ) → Type 0
Added to from count l₀ l = Put (λ k. get_or l₀ (to + k) (pos 0) +ℤ get_or l₀ (from + k) (pos 0)) to l₀ l count

abbrev pub Subtracted : (to from count : ℕ) → (l₀ l : List ℤ) → Type 0
Subtracted to from count l₀ l = Put (λ k. get_or l₀ (to + k) (pos 0) -ℤ get_or l₀ (from + k) (pos 0)) to l₀ l count

-- Of three products in one array, those of the halves at coefficients 0 and 2h and that of their sums at 2n: the third less the outer two, and all put together.
unfoldable pub middle_in : (n h : ℕ) → Polynomial → Polynomial
middle_in n h w k = cond (ltb k (2 * h)) ((w (2 * n + k) -ω w k) -ω cond (ltb k (2 * (n - h))) (w (2 * h + k)) 𝟘) 𝟘

unfoldable pub joined_in : (n h : ℕ) → Polynomial → Polynomial
joined_in n h w i = w i +ω shift h (middle_in n h w) i
