-- 16-bit numbers: signed and as bits, and as two bytes.
use mathlib.Core.Path.{◌≡◌, refl, sym, ◌∙◌, ap, ap₂, subst}
use mathlib.Core.Bool.{Bool, true, false, cond}
use mathlib.Core.List.{[], ◌∷◌}
use Prim.Native.Nat.{ℕ, suc, ◌-◌, ◌/◌, ◌%◌, ◌≤◌, ◌<◌}
use native.Mathlib.Omega.{arith}
use lib.Dec.{ltb, lit<}
use lib.IntN.{ℤ, pos, negsuc, nat_abs}
use mir.Syntax.{w16}
use Rattle.std.specs.Int.{to_be_bytes}
use mir.Val.{SFits, to_z, of_z, sel}
use mir.Facts.{Fits-of_z, Fits-of_lt, Fits-lt-pow, to_z-of_z, of_z-to_z}
use Rattle.integers.proofs.Machine.{sfits_within}
use Rattle.heads.specs.Heads.{bytes16, number16, bits16, signed16}

-- a number that 16 bits hold, as the machine has it: −2¹⁵ ≤ z < 2¹⁵
abbrev pub Fits16 : ℤ → Type 0
Fits16 z = SFits w16 z

pub fits_small : (z : ℤ) → nat_abs z ≤ 5461 → Fits16 z
fits_small z h = sfits_within z h (lit< tt)

-- ---- the bits of a signed number are the machine's

pub bits_machine : (z : ℤ) → bits16 z ≡ of_z w16 z
unfolding bits16
bits_machine (pos n) = refl
bits_machine (negsuc n) = omega arith

pub signed_machine : (n : ℕ) → signed16 n ≡ to_z w16 n
unfolding signed16
signed_machine n = go (ltb n 32768)
  where
    go : (c : Bool) → cond c (pos n) (negsuc (65535 - n)) ≡ sel c (pos n) (negsuc (65536 - suc n))
    go true = refl
    go false = ap negsuc (omega arith)

pub signed_bits : {z : ℤ} → Fits16 z → signed16 (bits16 z) ≡ z
signed_bits {z} f = signed_machine (bits16 z) ∙ ap (to_z w16) (bits_machine z) ∙ to_z-of_z f

pub bits_signed : {n : ℕ} → n < 65536 → bits16 (signed16 n) ≡ n
bits_signed {n} h = bits_machine (signed16 n) ∙ ap (of_z w16) (signed_machine n) ∙ of_z-to_z {w = w16} (Fits-of_lt h)

pub bits_lt : {z : ℤ} → Fits16 z → bits16 z < 65536
bits_lt {z} f = subst (λ (n : ℕ). n < 65536) (sym (bits_machine z)) (Fits-lt-pow (Fits-of_z f))

-- ---- two bytes

pub number_bytes : (n : ℕ) → number16 (n / 256) (n % 256) ≡ n
unfolding number16
number_bytes n = omega arith

pub bytes_number : (high low : ℕ) → low < 256 → bytes16 (number16 high low) ≡ high ∷ low ∷ []
unfolding bytes16 number16
bytes_number high low h = ap₂ (λ (x y : ℕ). x ∷ y ∷ []) (omega arith) (omega arith)

-- the bytes of a number are the machine's
pub machine_bytes : {n : ℕ} → n < 65536 → to_be_bytes w16 n ≡ bytes16 n
unfolding bytes16
machine_bytes h = ap₂ (λ (x y : ℕ). x ∷ y ∷ []) (omega arith) refl

pub number_lt : {high low : ℕ} → high < 256 → low < 256 → number16 high low < 65536
unfolding number16
number_lt h l = omega arith
