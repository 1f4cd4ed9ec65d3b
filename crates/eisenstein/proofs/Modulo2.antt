-- The remainder modulo 2 is in the value's class, and is the same for a whole class.
use mathlib.Core.Path.{◌≡◌, refl, sym, ◌∙◌, ap, ap₂, subst}
use mathlib.Core.Bool.{Bool, true, false, not, cond, ◌&&◌}
use Prim.Native.Nat.{ℕ, zero, suc, ◌+◌, ◌*◌, ◌/◌, ◌%◌, ◌<◌}
use native.Mathlib.Omega.{arith}
use lib.Dec.{T, eqb, eqb→eq}
use lib.IntN.{ℤ, pos, negsuc, neg_ℤ, ◌+ℤ◌, ◌*ℤ◌}
use lib.Signed.{rem_z}
use mir.Syntax.{w64}
use mir.Val.{of_z}
use mir.Facts.{and_yes}
use Rattle.integers.proofs.Ring.{ring, con, ◌⊕◌, ◌⊗◌, ⊖◌, ◌⊜◌}
use Rattle.integers.proofs.Order.{eq_parts, parts-+, above_pos, below_pos}
use Rattle.eisenstein.specs.Values.{ℤ[ω], value, 𝟘, ◌+ω◌, ◌*ω◌, Congruent}
use Rattle.eisenstein.specs.Reduction.{bit, mod2}
use Rattle.eisenstein.specs.Promises.{Mod2InClass, Mod2ByClass}
use Rattle.eisenstein.proofs.Laws.{congruent_sym, congruent_trans}
use Rattle.eisenstein.proofs.Solver.{ringω, conω, parts, ◌≐◌, ◌⊞◌, ◌⊠◌}

abbrev pub two : ℤ[ω]
two = value (pos 2) (pos 0)

-- half of what is left of z without its last bit
pub half : ℤ → ℤ
half (pos n) = pos (n / 2)
half (negsuc n) = neg_ℤ (pos (suc n / 2 + suc n % 2))

pub halved : (z : ℤ) → z ≡ pos (bit z) +ℤ (half z +ℤ half z)
unfolding bit half
halved (pos n) = ap pos (omega arith)
halved (negsuc n) = ap (λ (m : ℕ). neg_ℤ (pos m)) {x = suc n} {y = 2 * (suc n / 2) + suc n % 2} (omega arith) ∙ split (pos (suc n / 2)) (pos (suc n % 2))
  where
    split : (h r : ℤ) → neg_ℤ ((pos 2 *ℤ h) +ℤ r) ≡ r +ℤ (neg_ℤ (h +ℤ r) +ℤ neg_ℤ (h +ℤ r))
    split = ring 2 (λ h r. ⊖ (con (pos 2) ⊗ h ⊕ r) ⊜ r ⊕ (⊖ (h ⊕ r) ⊕ ⊖ (h ⊕ r))) tt

pub bit_lt : (z : ℤ) → bit z < 2
unfolding bit
bit_lt z = omega arith

doubled : (y z : ℤ[ω]) → y +ω two *ω z ≡ value (y.a +ℤ (z.a +ℤ z.a)) (y.b +ℤ (z.b +ℤ z.b))
unfolding ◌+ω◌ ◌*ω◌
doubled = ringω 2 (λ y z. y ⊞ conω two ⊠ z ≐ parts (y.a ⊕ (z.a ⊕ z.a)) (y.b ⊕ (z.b ⊕ z.b))) tt

bits_in_class : (x : ℤ[ω]) → Congruent two x (value (pos (bit x.a)) (pos (bit x.b)))
bits_in_class x = record {
  quotient = value (half x.a) (half x.b);
  equation = ap₂ value (halved x.a) (halved x.b) ∙ sym (doubled (value (pos (bit x.a)) (pos (bit x.b))) (value (half x.a) (half x.b)));
}

ones : Congruent two (value (pos 1) (pos 1)) (value (negsuc 0) (negsuc 0))
unfolding ◌+ω◌ ◌*ω◌
ones = record { quotient = value (pos 1) (pos 1); equation = refl }

pub mod2_in_class : Mod2InClass
unfolding mod2
mod2_in_class x = go (eqb (bit x.a) 1 && eqb (bit x.b) 1) (and_yes (eqb (bit x.a) 1) (eqb (bit x.b) 1))
  where
    go : (c : Bool) → (T c → T (eqb (bit x.a) 1) × T (eqb (bit x.b) 1)) → Congruent two x (cond c (value (negsuc 0) (negsuc 0)) (value (pos (bit x.a)) (pos (bit x.b))))
    go true h =
        let (e, f) = h tt in
        congruent_trans
        (subst (Congruent two x) (ap₂ (λ (u v : ℕ). value (pos u) (pos v)) (eqb→eq (bit x.a) 1 e) (eqb→eq (bit x.b) 1 f)) (bits_in_class x))
        ones
    go false h = bits_in_class x

pub same_bit : (y z k : ℤ) → y ≡ z +ℤ (k +ℤ k) → bit y ≡ bit z
same_bit y z k e =
    omega (arith, bit_lt y, bit_lt z, eq_parts e, eq_parts (halved y), eq_parts (halved z), parts-+ z (k +ℤ k), parts-+ k k, parts-+ (pos (bit y)) (half y +ℤ half y), parts-+ (half y) (half y), parts-+ (pos (bit z)) (half z +ℤ half z), parts-+ (half z) (half z), above_pos (bit y), below_pos (bit y), above_pos (bit z), below_pos (bit z))

pub mod2_by_class : Mod2ByClass
unfolding mod2
mod2_by_class x y c =
    ap₂ (λ (u v : ℕ). cond (eqb u 1 && eqb v 1) (value (negsuc 0) (negsuc 0)) (value (pos u) (pos v)))
    (same_bit x.a y.a c.quotient.a (ap (λ (z : ℤ[ω]). z.a) e))
    (same_bit x.b y.b c.quotient.b (ap (λ (z : ℤ[ω]). z.b) e))
  where
    e : x ≡ value (y.a +ℤ (c.quotient.a +ℤ c.quotient.a)) (y.b +ℤ (c.quotient.b +ℤ c.quotient.b))
    e = c.equation ∙ doubled y c.quotient

-- what is added to itself is even
pub double_even : (x : ℤ[ω]) → Congruent two (x +ω x) 𝟘
unfolding ◌+ω◌ ◌*ω◌
double_even x = record { quotient = x; equation = ringω 1 (λ x. x ⊞ x ≐ conω 𝟘 ⊞ conω two ⊠ x) tt x }

-- ---- the remainder by the two parts' last bits

abbrev pub by_bits : Bool → Bool → ℤ[ω]
by_bits true true = value (negsuc 0) (negsuc 0)
by_bits true false = value (pos 1) (pos 0)
by_bits false true = value (pos 0) (pos 1)
by_bits false false = value (pos 0) (pos 0)

pub mod2_by_bits : (x : ℤ[ω]) → mod2 x ≡ by_bits (eqb (bit x.a) 1) (eqb (bit x.b) 1)
unfolding mod2
mod2_by_bits x = go (bit x.a) (bit x.b) (bit_lt x.a) (bit_lt x.b)
  where
    go : (u v : ℕ) → u < 2 → v < 2 → cond (eqb u 1 && eqb v 1) (value (negsuc 0) (negsuc 0)) (value (pos u) (pos v)) ≡ by_bits (eqb u 1) (eqb v 1)
    go zero zero p q = refl
    go zero (suc zero) p q = refl
    go zero (suc (suc v)) p q = absurd (omega arith)
    go (suc zero) zero p q = refl
    go (suc zero) (suc zero) p q = refl
    go (suc zero) (suc (suc v)) p q = absurd (omega arith)
    go (suc (suc u)) v p q = absurd (omega arith)

-- the machine's remainder of a division by 2 is 0 just where the last bit is
pub odd_test : (x : ℤ) → not (eqb (of_z w64 (rem_z x (pos 2))) 0) ≡ eqb (bit x) 1
unfolding bit
odd_test (pos a) = go (a % 2) (omega arith)
  where
    go : (r : ℕ) → r < 2 → not (eqb r 0) ≡ eqb r 1
    go zero h = refl
    go (suc zero) h = refl
    go (suc (suc r)) h = absurd (omega arith)
odd_test (negsuc a) = go (suc a % 2) (omega arith)
  where
    go : (r : ℕ) → r < 2 → not (eqb (of_z w64 (neg_ℤ (pos r))) 0) ≡ eqb r 1
    go zero h = refl
    go (suc zero) h = refl
    go (suc (suc r)) h = absurd (omega arith)

-- a remainder modulo 2 is its own
pub mod2_twice : (x : ℤ[ω]) → mod2 (mod2 x) ≡ mod2 x
mod2_twice x = mod2_by_class (mod2 x) x (congruent_sym (mod2_in_class x))
