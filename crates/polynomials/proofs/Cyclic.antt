-- The cyclic group of n indices: j·k is (j + k) mod n. It is document 01's.
use mathlib.Core.Path.{◌≡◌, sym, ◌∙◌, ap}
use Prim.Native.Nat.{ℕ, ◌+◌, ◌-◌, ◌%◌, ◌<◌}
use native.Mathlib.Omega.{arith}
use native.Mathlib.Nat.{mod-lt, mod-add-mod, add-mod-mod, add-mod_right, mod-eq_of_lt, add_assoc, add_comm}
use Rattle.polynomials.proofs.Rings.{Group}

-- the numbers in a remainder's argument
pub in_mod : (n : ℕ) {a b : ℕ} → a ≡ b → a % n ≡ b % n
in_mod n e = ap (λ (m : ℕ). m % n) e

pub over_only : (n j k i : ℕ) → j < n → k < n → (j + k) % n ≡ i → k ≡ (i + (n - j)) % n
over_only n j k i p q e =
    sym
    (in_mod n (ap (λ (m : ℕ). m + (n - j)) (sym e))
    ∙ mod-add-mod (j + k) n (n - j)
    ∙ in_mod n {a = j + k + (n - j)} {b = k + n} (omega arith)
    ∙ add-mod_right k n
    ∙ mod-eq_of_lt q)

abbrev pub cyclic : (n : ℕ) → Group n
cyclic n = record {
  op = λ j k. (j + k) % n;
  over = λ j i. (i + (n - j)) % n;
  closed = λ {j} {k} p q. mod-lt (j + k) (omega arith);
  assoc = λ {j} {k} {l} p q r. mod-add-mod (j + k) n l ∙ in_mod n (add_assoc j k l) ∙ sym (add-mod-mod j (k + l) n);
  unit_left = λ {k} p. in_mod n {a = 0 + k} {b = k} (omega arith) ∙ mod-eq_of_lt p;
  unit_right = λ {k} p. in_mod n {a = k + 0} {b = k} (omega arith) ∙ mod-eq_of_lt p;
  over_closed = λ {j} {i} p q. mod-lt (i + (n - j)) (omega arith);
  op_over = λ {j} {i} p q. add-mod-mod j (i + (n - j)) n ∙ in_mod n {a = j + (i + (n - j))} {b = i + n} (omega arith) ∙ add-mod_right i n ∙ mod-eq_of_lt q;
  over_only = λ {j} {k} {i} p q e. over_only n j k i p q e;
}

pub cyclic_comm : (n j k : ℕ) → (j + k) % n ≡ (k + j) % n
cyclic_comm n j k = in_mod n (add_comm j k)
