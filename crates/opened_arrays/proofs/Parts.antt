-- Parts of a list that end where the list does, at the latest.
use mathlib.Core.Path.{◌≡◌, sym, ◌∙◌, ap, ap₂}
use mathlib.Core.List.{List}
use Prim.Native.Nat.{ℕ, ◌-◌, min}
use native.Mathlib.Omega.{arith, min_cases}
use lib.ListN.{length, take, drop, length-drop, drop_of_length-le}
use lib.Seq.{take_all, take-length, drop-length}

module _ {A : Type 0} where
  pub end_taken : (n : ℕ) (l : List A) → take (min n (length l)) l ≡ take n l
  end_taken n l = min_cases n (length l) _ (λ h e. ap (λ (k : ℕ). take k l) e) (λ h e. ap (λ (k : ℕ). take k l) e ∙ take-length l ∙ sym (take_all n l h))

  pub end_dropped : (n : ℕ) (l : List A) → drop (min n (length l)) l ≡ drop n l
  end_dropped n l = min_cases n (length l) _ (λ h e. ap (λ (k : ℕ). drop k l) e) (λ h e. ap (λ (k : ℕ). drop k l) e ∙ drop-length l ∙ sym (drop_of_length-le l h))

  -- from place a to place b
  pub ends_between : (a b : ℕ) (l : List A) → take (min b (length l) - min a (length l)) (drop (min a (length l)) l) ≡ take (b - a) (drop a l)
  ends_between a b l =
      let e : min b (length l) - min a (length l) ≡ min (b - a) (length (drop a l)) = omega (arith, length-drop a l) in
      ap₂ (λ (k : ℕ) (x : List A). take k x) e (end_dropped a l) ∙ end_taken (b - a) (drop a l)
