-- How the product modulo 2 goes: rows of the table along one operand, and runs of them that the other one brings. Only contracts of the steps speak of it.
use Rattle.std.specs.Prelude.{◌≡◌, cond, List, [], ◌∷◌, ℕ, ◌+◌, ◌-◌, ◌*◌, ◌≤◌, ◌<◌, eqb, length, get_or}
use Rattle.classes.specs.Classes.{product, plus, sum}

-- Each class 0.
abbrev pub Empty : List ℕ → Type 0
Empty l = (k : ℕ) → get_or l k 0 ≡ 0

-- Each number is a class.
abbrev pub Classes : List ℕ → Type 0
Classes l = (k : ℕ) → k < length l → get_or l k 0 < 4

-- `new` is `old`, but that from place `start` on it has the n classes f.
pub record Laid (n : ℕ) (f : ℕ → ℕ) (start : ℕ) (old new : List ℕ) : Type 0 where
  pub long : length new ≡ length old
  pub inside : (k : ℕ) → k < n → get_or new (start + k) 0 ≡ f k
  pub before : (i : ℕ) → i < start → get_or new i 0 ≡ get_or old i 0
  pub after : (i : ℕ) → start + n ≤ i → get_or new i 0 ≡ get_or old i 0

-- The same with these n classes twice, once after the other.
pub record LaidTwice (n : ℕ) (f : ℕ → ℕ) (start : ℕ) (old new : List ℕ) : Type 0 where
  pub long : length new ≡ length old
  pub first : (k : ℕ) → k < n → get_or new (start + k) 0 ≡ f k
  pub second : (k : ℕ) → k < n → get_or new (start + n + k) 0 ≡ f k
  pub before : (i : ℕ) → i < start → get_or new i 0 ≡ get_or old i 0
  pub after : (i : ℕ) → start + 2 * n ≤ i → get_or new i 0 ≡ get_or old i 0

-- Where the row of each class begins: those of 1, 2 and 3 stand one after another, each 2n long. Class 0 has none.
abbrev pub row_starts : ℕ → List ℕ
row_starts n = 0 ∷ 0 ∷ 2 * n ∷ 4 * n ∷ []

unfoldable pub row_start : ℕ → ℕ → ℕ
row_start n c = get_or (row_starts n) c 0

-- In the row of each class but 0 its products with n classes f stand twice.
pub record Rows (n : ℕ) (f : ℕ → ℕ) (rows : List ℕ) : Type 0 where
  pub first : (c k : ℕ) → 0 < c → c < 4 → k < n → get_or rows (row_start n c + k) 0 ≡ product c (f k)
  pub second : (c k : ℕ) → 0 < c → c < 4 → k < n → get_or rows (row_start n c + n + k) 0 ≡ product c (f k)

-- What is summed over the row of class c, rotated by j places, for a class other than 0.
abbrev pub brought : ℕ → (ℕ → ℕ) → ℕ → ℕ → ℕ
brought n f c j = cond (eqb c 0) 0 (f (row_start n c + (n - j)))

-- The list has, at its first `count` places, where the runs begin that the first m of the classes x bring: what is summed over the one is summed over the other.
pub record Starts (n m : ℕ) (x : ℕ → ℕ) (starts : List ℕ) (count : ℕ) : Type 0 where
  pub few : count ≤ m
  pub below : (i : ℕ) → i < count → get_or starts i 0 ≤ 5 * n
  pub sums : (f : ℕ → ℕ) → sum count (λ i. f (get_or starts i 0)) ≡ sum m (λ j. brought n f (x j) j)

-- From place a on there are as many classes as sums.
abbrev pub Fits : ℕ → (sums rows : List ℕ) → Type 0
Fits a sums rows = a + length sums ≤ length rows

-- So from where each run of a list begins.
pub record Runs (sums rows starts : List ℕ) : Type 0 where
  pub rows_long : length rows ≤ 8192
  pub few : length starts ≤ 1024
  pub fits : (i : ℕ) → i < length starts → Fits (get_or starts i 0) sums rows

-- `new`, as long as `old`, is the classes f.
pub record Filled (f : ℕ → ℕ) (old new : List ℕ) : Type 0 where
  pub long : length new ≡ length old
  pub inside : (k : ℕ) → k < length old → get_or new k 0 ≡ f k

-- The class k places after start i.
abbrev pub class_at : List ℕ → List ℕ → (k i : ℕ) → ℕ
class_at rows starts k i = get_or rows (get_or starts i 0 + k) 0

-- A sum, and the classes that four runs have there.
abbrev pub four : (rows starts sums : List ℕ) → ℕ → ℕ
four rows starts sums k =
    plus (plus (plus (plus (get_or sums k 0) (class_at rows starts k 0)) (class_at rows starts k 1)) (class_at rows starts k 2)) (class_at rows starts k 3)

-- The sums of the first m runs of a list.
abbrev pub Sums : (rows starts : List ℕ) → ℕ → List ℕ → Type 0
Sums rows starts m l = (k : ℕ) → k < length l → get_or l k 0 ≡ sum m (class_at rows starts k)
