-- The product with an array of zeros and units. An output is known by its length, `room`.
use Rattle.std.specs.Prelude.{◌≡◌, Bool, true, cond, ◌&&◌, List, ℕ, ◌*◌, ◌≤◌, eqb, leb, ℤ, length}
use Rattle.polynomials.specs.Polynomials.{coefficient, zeros_and_units}
use Rattle.arrays.specs.Arrays.{full, units_array, Small, all_small}

-- A call that answers whether it could, and has left the value in an output that held `old` if so, and `old` if not.
abbrev pub Forms : {A : Type 0} → Bool → A → Bool → (old new : A) → Type 0
Forms can value r old new = (r ≡ can) × (new ≡ cond can value old)

-- Operands that are multiplied by additions alone: N at most 1,024, three full arrays, zeros and units in x, and numbers of y at most 5,461 in size.
unfoldable pub multipliable : ℕ → (x y : List ℤ) → ℕ → Bool
multipliable N x y room = units_array N x && (full N (length y) && (full N room && all_small y))

-- The same as facts, which the steps of the product count on.
pub record Operands (n : ℕ) (x y out : List ℤ) : Type 0 where
  pub N_small : n ≤ 1024
  pub x_long : length x ≡ 2 * n
  pub y_long : length y ≡ 2 * n
  pub out_long : length out ≡ 2 * n
  pub units : zeros_and_units n (coefficient x) ≡ true
  pub y_small : Small y

-- What is laid out twice: at most 2,048 small numbers, with room for them twice.
unfoldable pub repeatable : List ℤ → ℕ → Bool
repeatable y room = leb (length y) 2048 && (eqb room (2 * length y) && all_small y)
