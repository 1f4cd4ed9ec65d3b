-- What the algebra of convolution needs: a commutative ring, a congruence on it, and a finite group of indices.
use mathlib.Core.Path.{◌≡◌}
use Prim.Native.Nat.{ℕ, ◌<◌}

pub record Ring (A : Type 0) : Type 0 where
  pub zero : A
  pub one : A
  pub add : A → A → A
  pub mul : A → A → A
  pub add_assoc : (x y z : A) → add (add x y) z ≡ add x (add y z)
  pub add_comm : (x y : A) → add x y ≡ add y x
  pub add-zero : (x : A) → add x zero ≡ x
  pub mul_assoc : (x y z : A) → mul (mul x y) z ≡ mul x (mul y z)
  pub mul_comm : (x y : A) → mul x y ≡ mul y x
  pub mul_one : (x : A) → mul x one ≡ x
  pub mul-zero : (x : A) → mul x zero ≡ zero
  pub mul-add : (x y z : A) → mul x (add y z) ≡ add (mul x y) (mul x z)

-- A congruence: an equivalence that sums and products keep.
pub record Congruence {A : Type 0} (R : Ring A) (E : A → A → Type 0) : Type 0 where
  pub reflexive : (x : A) → E x x
  pub symmetric : {x y : A} → E x y → E y x
  pub transitive : {x y z : A} → E x y → E y z → E x z
  pub adds : {x x' y y' : A} → E x x' → E y y' → E (R.add x y) (R.add x' y')
  pub multiplies : {x x' y y' : A} → E x x' → E y y' → E (R.mul x y) (R.mul x' y')

-- A group on the numbers below n with unit 0, and its division from the left: `over j i` is the k with j·k = i.
pub record Group (n : ℕ) : Type 0 where
  pub op : ℕ → ℕ → ℕ
  pub over : ℕ → ℕ → ℕ
  pub closed : {j k : ℕ} → j < n → k < n → op j k < n
  pub assoc : {j k l : ℕ} → j < n → k < n → l < n → op (op j k) l ≡ op j (op k l)
  pub unit_left : {k : ℕ} → k < n → op 0 k ≡ k
  pub unit_right : {k : ℕ} → k < n → op k 0 ≡ k
  pub over_closed : {j i : ℕ} → j < n → i < n → over j i < n
  pub op_over : {j i : ℕ} → j < n → i < n → op j (over j i) ≡ i
  pub over_only : {j k i : ℕ} → j < n → k < n → op j k ≡ i → k ≡ over j i
