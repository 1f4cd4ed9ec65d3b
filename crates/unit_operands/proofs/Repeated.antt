-- An array that stands twice is itself and itself again, and the test of whether it can be laid out so.
use mathlib.Core.Path.{◌≡◌, sym, ◌∙◌, ap, ap₂, subst}
use mathlib.Core.Bool.{true, ◌&&◌}
use mathlib.Core.List.{List, ◌++◌}
use Prim.Native.Nat.{ℕ, ◌+◌, ◌-◌, ◌*◌, ◌≤◌, ◌<◌}
use native.Mathlib.Omega.{arith}
use native.Mathlib.Decide.{dec_lt}
use borrow.Author.Tests.{le-leb, eq-eqb}
use lib.Dec.{T, eqb, leb, leb→le, eqb→eq}
use lib.IntN.{ℤ, pos}
use lib.ListN.{length, get_or, length-append, get_or-append}
use lib.Seq.{get_or-append-add, ext_get_or}
use mir.Facts.{and_yes}
use Rattle.arrays.specs.Arrays.{Small, all_small}
use Rattle.arrays.proofs.Sizes.{all-within, are_within}
use Rattle.unit_operands.specs.Operands.{repeatable}
use Rattle.unit_operands.specs.Repeated.{Twice}

pub twice_joined : (y : List ℤ) → Twice y (y ++ y)
twice_joined y = record {
  long = omega (arith, length-append y y);
  first = λ k p. get_or-append y y (pos 0) k p;
  second = λ k p. get_or-append-add y y k (pos 0);
}

pub joined_twice : (y t : List ℤ) → Twice y t → t ≡ y ++ y
joined_twice y t h = ext_get_or (pos 0) t (y ++ y) (omega (arith, h.long, length-append y y)) (λ i p. go i (dec_lt i (length y)) p)
  where
    go : (i : ℕ) → Dec (i < length y) → i < length t → get_or t i (pos 0) ≡ get_or (y ++ y) i (pos 0)
    go i (yes q) p = h.first i q ∙ sym (get_or-append y y (pos 0) i q)
    go i (no q) p =
        let k : ℕ = i - length y in
        let e : i ≡ length y + k = omega arith in
        ap (λ (m : ℕ). get_or t m (pos 0)) e ∙ h.second k (omega (arith, h.long)) ∙ sym (get_or-append-add y y k (pos 0)) ∙ sym (ap (λ (m : ℕ). get_or (y ++ y) m (pos 0)) e)

-- ---- the test, from the facts and back

module _ (y : List ℤ) (room : ℕ) where
  pub repeatable_holds : length y ≤ 2048 → room ≡ 2 * length y → Small y → repeatable y room ≡ true
  unfolding repeatable
  repeatable_holds n e s = ap₂ ◌&&◌ (le-leb (length y) 2048 n) (ap₂ ◌&&◌ (eq-eqb _ _ e) (all-within 5461 y s))

  pub repeatable_facts : repeatable y room ≡ true → (length y ≤ 2048) × (room ≡ 2 * length y) × Small y
  unfolding repeatable
  repeatable_facts h =
      let a = and_yes (leb (length y) 2048) (eqb room (2 * length y) && all_small y) (subst T (sym h) tt) in
      let b = and_yes (eqb room (2 * length y)) (all_small y) a.1 in
      (leb→le (length y) 2048 a.0, eqb→eq room (2 * length y) b.0, are_within 5461 y b.1)
