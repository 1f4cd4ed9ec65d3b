-- Loops and chains over every index: `all` and `count` from the tests that were made, `sum` from the terms that were added.
use mathlib.Core.Path.{◌≡◌, refl, sym, ◌∙◌, ap, ap₂}
use mathlib.Core.Bool.{Bool, true, false, not, cond, ◌&&◌, ◌||◌}
use Prim.Native.Nat.{ℕ, zero, suc, ◌+◌, ◌≤◌}
use native.Mathlib.Omega.{arith}
use native.Mathlib.Numerals.{add-one}
use mir.Val.{bool_byte}
use Rattle.std.specs.List.{list_all, list_any, range_with_len}
use Rattle.eisenstein.specs.Values.{𝟘, ◌+ω◌}
use Rattle.polynomials.specs.Polynomials.{Polynomial, sum, all, count}

-- a loop that makes every test, whatever those before it gave: none, and one more
pub every_none : (t : ℕ → Bool) → true ≡ all 0 t
unfolding all
every_none t = refl

pub every_more : (t : ℕ → Bool) (i : ℕ) {b c : Bool} → b ≡ all i t → c ≡ t i → (b && c) ≡ all (i + 1) t
unfolding all
every_more t i h e = ap₂ ◌&&◌ h e ∙ sym (ap (λ (n : ℕ). all n t) (add-one i))

-- a loop that adds 1 where the test below n is passed: so many of the first i were
pub record Counted (t : ℕ → Bool) (i found : ℕ) : Type 0 where
  pub most : found ≤ i
  pub is : found ≡ count i t

pub counted_none : (t : ℕ → Bool) → Counted t 0 0
unfolding count
counted_none t = record { most = omega arith; is = refl }

pub counted_more : (t : ℕ → Bool) {i found : ℕ} {b : Bool} → Counted t i found → b ≡ t i → Counted t (i + 1) (found + bool_byte b)
unfolding count
counted_more t {i} {found} {b} h e = record {
  most = omega (arith, h.most, small b);
  is = ap₂ (λ (k : ℕ) (c : Bool). k + bool_byte c) h.is e ∙ sym (ap (λ (n : ℕ). count n t) (add-one i) ∙ ap (λ (k : ℕ). count i t + k) (one_or_none (t i)));
}
  where
    small : (c : Bool) → bool_byte c ≤ 1
    small true = omega arith
    small false = omega arith

    one_or_none : (c : Bool) → cond c 1 0 ≡ bool_byte c
    one_or_none true = refl
    one_or_none false = refl

-- ---- chains over a range

-- the tests below a + n: those below a, and those from a on
all_from : (t : ℕ → Bool) (a n : ℕ) → all (a + n) t ≡ (all a t && list_all t (range_with_len a n))
unfolding all
all_from t a zero = ap (λ (m : ℕ). all m t) {x = a + 0} {y = a} (omega arith) ∙ go (all a t)
  where
    go : (p : Bool) → p ≡ (p && true)
    go true = refl
    go false = refl
all_from t a (suc n) =
    ap (λ (m : ℕ). all m t) {x = a + suc n} {y = a + 1 + n} (omega arith)
    ∙ all_from t (a + 1) n
    ∙ ap (λ (m : ℕ). all m t && list_all t (range_with_len (a + 1) n)) (add-one a)
    ∙ and_assoc (all a t) (t a) (list_all t (range_with_len (a + 1) n))
  where
    and_assoc : (p q r : Bool) → ((p && q) && r) ≡ (p && (q && r))
    and_assoc true q r = refl
    and_assoc false q r = refl

pub all_of_range : (t : ℕ → Bool) (n : ℕ) → list_all t (range_with_len 0 n) ≡ all n t
unfolding all
all_of_range t n = sym (all_from t 0 n) ∙ ap (λ (m : ℕ). all m t) {x = 0 + n} {y = n} (omega arith)

-- whether a test from a on fails, where those below a pass
pub any_of_range : (p t : ℕ → Bool) (a n : ℕ) → all a t ≡ true → ((k : ℕ) → a ≤ k → t k ≡ not (p k)) → list_any p (range_with_len a n) ≡ not (all (a + n) t)
any_of_range p t a n h e = go a n e ∙ ap not (sym (all_from t a n ∙ ap (λ (b : Bool). b && list_all t (range_with_len a n)) h))
  where
    either : (b c d : Bool) → d ≡ not c → (b || d) ≡ not (not b && c)
    either true c d f = refl
    either false c d f = f

    go : (a n : ℕ) → ((k : ℕ) → a ≤ k → t k ≡ not (p k)) → list_any p (range_with_len a n) ≡ not (list_all t (range_with_len a n))
    go a zero e = refl
    go a (suc n) e =
        either (p a) (list_all t (range_with_len (a + 1) n)) (list_any p (range_with_len (a + 1) n)) (go (a + 1) n (λ k l. e k (omega arith)))
        ∙ ap (λ (b : Bool). not (b && list_all t (range_with_len (a + 1) n))) (sym (e a (omega arith)))

-- ---- a loop that adds up

pub sum_none : (x : Polynomial) → 𝟘 ≡ sum 0 x
unfolding sum
sum_none x = refl

pub sum_more : (x : Polynomial) (i : ℕ) → sum (i + 1) x ≡ sum i x +ω x i
unfolding sum
sum_more x i = ap (λ (n : ℕ). sum n x) (add-one i)
