-- What is promised of the definitions, each proved in proofs/: Units, Remainders and Modulo2.
use Rattle.std.specs.Prelude.{◌≡◌, ◌≢◌, ℕ, ◌+◌, ◌*◌, ◌%◌, ◌≤◌, ◌<◌, pos}
use Rattle.eisenstein.specs.Values.{ℤ[ω], value, 𝟘, ◌*ω◌, norm, unit, Congruent}
use Rattle.eisenstein.specs.Reduction.{Remainder, mod_q, mod2}

-- "The product of units j and k is unit (j + k) mod 6."
abbrev pub UnitsMultiply : Type 0
UnitsMultiply = (j k : ℕ) → j < 6 → k < 6 → unit j *ω unit k ≡ unit ((j + k) % 6)

-- `mod_q` computes the remainder, for every q but zero and every x.
abbrev pub ModQIsRemainder : Type 0
ModQIsRemainder = (q x : ℤ[ω]) → q ≢ 𝟘 → Remainder q x (mod_q q x)

-- No value has two remainders.
abbrev pub RemainderUnique : Type 0
RemainderUnique = (q x r s : ℤ[ω]) → Remainder q x r → Remainder q x s → r ≡ s

-- "Three times the norm of a remainder is at most the norm of q."
abbrev pub RemainderNorm : Type 0
RemainderNorm = (q x r : ℤ[ω]) → q ≢ 𝟘 → Remainder q x r → 3 * norm r ≤ norm q

-- A value of which four times the norm is below that of q is its own remainder.
abbrev pub SmallIsRemainder : Type 0
SmallIsRemainder = (q x : ℤ[ω]) → 4 * norm x < norm q → Remainder q x x

-- A value and its remainder modulo 2 are of one class, and a class has one remainder modulo 2.
abbrev pub Mod2InClass : Type 0
Mod2InClass = (x : ℤ[ω]) → Congruent (value (pos 2) (pos 0)) x (mod2 x)

abbrev pub Mod2ByClass : Type 0
Mod2ByClass = (x y : ℤ[ω]) → Congruent (value (pos 2) (pos 0)) x y → mod2 x ≡ mod2 y
