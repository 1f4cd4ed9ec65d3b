-- The bits of a word, and a word with one bit more.
use mathlib.Core.Path.{◌≡◌, refl, sym, ◌∙◌, ap}
use mathlib.Core.Bool.{true, false}
use mathlib.Core.Logic.{◌≢◌}
use Prim.Native.Nat.{ℕ, zero, suc, ◌+◌, ◌/◌, ◌%◌, ◌^◌, ◌<◌}
use native.Mathlib.Omega.{arith}
use native.Mathlib.Nat.{pow-suc, div-div-eq-div-mul, mul_comm, div-one}
use borrow.Author.Tests.{eq-eqb, eqb-false}
use lib.Dec.{eqb}
use Rattle.stop_sets.specs.Words.{bit}

-- the lowest bit, and the others as the bits of half a word
bit_zero : (w : ℕ) → bit w 0 ≡ eqb (w % 2) 1
unfolding bit
bit_zero w = ap (λ (v : ℕ). eqb (v % 2) 1) (div-one w)

bit_suc : (w i : ℕ) → bit w (suc i) ≡ bit (w / 2) i
unfolding bit
bit_suc w i = ap (λ (v : ℕ). eqb (v % 2) 1) (ap (λ (d : ℕ). w / d) (pow-suc 2 i ∙ mul_comm (2 ^ i) 2) ∙ sym (div-div-eq-div-mul w 2 (2 ^ i)))

-- bit i + 1 added to a word is bit i added to its half
half_added : (w i : ℕ) → (w + 2 ^ suc i) / 2 ≡ w / 2 + 2 ^ i
half_added w i = omega (arith, pow-suc 2 i)

odd_added : (w i : ℕ) → (w + 2 ^ suc i) % 2 ≡ w % 2
odd_added w i = omega (arith, pow-suc 2 i)

even : (w : ℕ) → bit w 0 ≡ false → w % 2 ≡ 0
even w e = omega (arith, eqb-false (w % 2) 1 (sym (bit_zero w) ∙ e))

pub added_has : (w i : ℕ) → bit w i ≡ false → bit (w + 2 ^ i) i ≡ true
added_has w zero e = bit_zero (w + 1) ∙ eq-eqb ((w + 1) % 2) 1 (omega (arith, even w e))
added_has w (suc i) e =
    bit_suc (w + 2 ^ suc i) i
    ∙ ap (λ (v : ℕ). bit v i) (half_added w i)
    ∙ added_has (w / 2) i (sym (bit_suc w i) ∙ e)

pub added_other : (w i j : ℕ) → j ≢ i → bit w i ≡ false → bit (w + 2 ^ i) j ≡ bit w j
added_other w zero zero n e = absurd (n refl)
added_other w zero (suc j) n e =
    let h : (w + 1) / 2 ≡ w / 2 = omega (arith, even w e) in
    bit_suc (w + 1) j ∙ ap (λ (v : ℕ). bit v j) h ∙ sym (bit_suc w j)
added_other w (suc i) zero n e = bit_zero (w + 2 ^ suc i) ∙ ap (λ (v : ℕ). eqb v 1) (odd_added w i) ∙ sym (bit_zero w)
added_other w (suc i) (suc j) n e =
    bit_suc (w + 2 ^ suc i) j
    ∙ ap (λ (v : ℕ). bit v j) (half_added w i)
    ∙ added_other (w / 2) i j (λ d. n (ap suc d)) (sym (bit_suc w i) ∙ e)
    ∙ sym (bit_suc w j)

-- a bit that is not there has room
pub added_fits : (w i k : ℕ) → w < 2 ^ k → i < k → bit w i ≡ false → w + 2 ^ i < 2 ^ k
added_fits w i zero h l e = absurd (omega arith)
added_fits w zero (suc k) h l e = omega (arith, even w e, pow-suc 2 k)
added_fits w (suc i) (suc k) h l e =
    let g : w / 2 + 2 ^ i < 2 ^ k = added_fits (w / 2) i k (omega (arith, pow-suc 2 k)) (omega arith) (sym (bit_suc w i) ∙ e) in
    omega (arith, pow-suc 2 k, pow-suc 2 i, g)

pub bit_none : (i : ℕ) → bit 0 i ≡ false
bit_none zero = bit_zero 0
bit_none (suc i) = bit_suc 0 i ∙ bit_none i
