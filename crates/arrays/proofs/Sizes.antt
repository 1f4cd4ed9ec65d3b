-- How large the numbers of an array can be, from the test that it passed.
use mathlib.Core.Path.{◌≡◌, sym, ◌∙◌, ap, ap₂, subst}
use mathlib.Core.Bool.{Bool, true, false, not, ◌||◌}
use mathlib.Core.List.{List}
use mathlib.Core.Logic.{◌≢◌}
use Prim.Native.Nat.{ℕ, ◌+◌, ◌*◌, ◌/◌, ◌%◌, ◌^◌, ◌≤◌, ◌<◌}
use native.Mathlib.Omega.{arith}
use native.Mathlib.Nat.{le_trans}
use native.Mathlib.Decide.{ℕ_discrete, dec_le}
use borrow.Author.Tests.{le-ltb}
use lib.Dec.{T, eqb, ltb, leb, lit<, lit≤}
use lib.IntN.{ℤ, pos, nat_abs}
use lib.ListN.{length, get_or, take, replicate, get_or-eq_default}
use lib.Seq.{length-take-le}
use mir.Syntax.{Width, w64}
use mir.Val.{SFits, to_z, of_z}
use mir.Facts.{and_yes, ltb_no, to_z-of_z}
use Rattle.integers.proofs.Machine.{sfits_within}
use Rattle.integers.proofs.Absolute.{square_le}
use Rattle.eisenstein.specs.Values.{ℤ[ω], value, 𝟘, units}
use Rattle.eisenstein.specs.Reduction.{mod_q}
use Rattle.eisenstein.specs.Calls.{beyond}
use Rattle.eisenstein.proofs.Equality.{is_true}
use Rattle.eisenstein.proofs.Limits.{within}
use Rattle.eisenstein.proofs.Norms.{part_a, part_b}
use Rattle.eisenstein.proofs.Pairs.{pair_read}
use Rattle.eisenstein.proofs.Remainders.{mod_q_is_remainder, remainder_size}
use Rattle.polynomials.specs.Polynomials.{Polynomial, coefficient, array, all, count, nonzero, among, units_only, reduced_q, reduced2}
use Rattle.arrays.specs.Conditions.{Modulus}
use Rattle.arrays.specs.Arrays.{AllWithin, Small, all_within}
use Rattle.polynomials.proofs.Arrays.{coefficient-array, array_length}
use Rattle.polynomials.proofs.Bounds.{Within}
use Rattle.polynomials.proofs.Members.{at_all, all_at, units-within, reduced_q_at, reduced2_at, reduced2-within, mod2-unit}

-- ---- a number as it is handed to a callee

pub read_64 : (z : ℤ) {m : ℕ} → nat_abs z ≤ m → T (leb m (2 ^ 40)) → to_z w64 (of_z w64 z) ≡ z
read_64 z h t = to_z-of_z {w = w64} (sfits_within z (le_trans h (lit≤ t)) (lit< tt))

pub small_64 : (z : ℤ) {m : ℕ} → nat_abs z ≤ m → T (leb m (2 ^ 40)) → nat_abs (to_z w64 (of_z w64 z)) ≤ 2 ^ 40
small_64 z h t = subst (λ (y : ℤ). nat_abs y ≤ 2 ^ 40) (sym (read_64 z h t)) (le_trans h (lit≤ t))

-- coefficient i of l, of which `at` read both parts
pub coefficient_read : (l : List ℤ) (i : ℕ) {a b : ℤ} → (a ≡ get_or l (2 * i) (pos 0)) × (nat_abs a ≤ 2 ^ 31) → (b ≡ get_or l (2 * i + 1) (pos 0)) × (nat_abs b ≤ 2 ^ 31) → value (to_z w64 (of_z w64 a)) (to_z w64 (of_z w64 b)) ≡ coefficient l i
unfolding coefficient
coefficient_read l i {a} {b} f g = ap₂ value (read_64 a f.1 tt ∙ f.0) (read_64 b g.1 tt ∙ g.0)

pub modulus_handed : {w : Width} {c d : ℤ} → SFits w c → SFits w d → Modulus (value c d) → Modulus (value (to_z w (of_z w c)) (to_z w (of_z w d)))
modulus_handed f g = subst Modulus (sym (pair_read f g))

-- ---- every number of an array, from its coefficients

abbrev pub PartsAtMost : ℕ → ℤ[ω] → Type 0
PartsAtMost b x = (nat_abs x.a ≤ b) × (nat_abs x.b ≤ b)

pub from_parts : (b N : ℕ) (l : List ℤ) → length l ≡ 2 * N → ((i : ℕ) → i < N → PartsAtMost b (coefficient l i)) → (k : ℕ) → nat_abs (get_or l k (pos 0)) ≤ b
unfolding coefficient
from_parts b N l e h k = go (dec_le (2 * N) k)
  where
    at : (j : ℕ) → j ≡ k → nat_abs (get_or l j (pos 0)) ≤ b → nat_abs (get_or l k (pos 0)) ≤ b
    at j f = subst (λ (m : ℕ). nat_abs (get_or l m (pos 0)) ≤ b) f

    parity : Dec (k % 2 ≡ 0) → k < 2 * N → nat_abs (get_or l k (pos 0)) ≤ b
    parity (yes z) p = at (2 * (k / 2)) (omega arith) (h (k / 2) (omega arith)).0
    parity (no z) p = at (2 * (k / 2) + 1) (omega arith) (h (k / 2) (omega arith)).1

    go : Dec (2 * N ≤ k) → nat_abs (get_or l k (pos 0)) ≤ b
    go (yes p) = subst (λ (z : ℤ). nat_abs z ≤ b) (sym (get_or-eq_default l (pos 0) (omega arith))) (omega arith)
    go (no p) = parity (ℕ_discrete (k % 2) 0) (omega arith)

pub within_parts : (x : ℤ[ω]) → Within 1 x → PartsAtMost 1 x
within_parts x w = (square_le (omega (arith, part_a x, w.within)), square_le (omega (arith, part_b x, w.within)))

within-one : (x : ℤ[ω]) → Within 1 x → PartsAtMost 5461 x
within-one x w = let p = within_parts x w in (le_trans p.0 (lit≤ tt), le_trans p.1 (lit≤ tt))

pub units_small : (N t : ℕ) (l : List ℤ) → length l ≡ 2 * N → T (units_only N t (coefficient l)) → Small l
units_small N t l e u = from_parts 5461 N l e (λ i p. within-one (coefficient l i) (units-within N t (coefficient l) u i p))

pub reduced2-small : (N : ℕ) (l : List ℤ) → length l ≡ 2 * N → T (reduced2 N (coefficient l)) → Small l
reduced2-small N l e u = from_parts 5461 N l e (λ i p. within-one (coefficient l i) (reduced2-within N (coefficient l) u i p))

-- ---- remainders modulo q

mod_q-small : (q x : ℤ[ω]) → beyond 4095 q ≡ false → q ≢ 𝟘 → PartsAtMost 5461 (mod_q q x)
mod_q-small q x b n =
    let k = within 4095 q b in
    remainder_size q x (mod_q q x) n k.0 k.1 (mod_q_is_remainder q x n)

pub reduced_q-small : (N : ℕ) (q : ℤ[ω]) (l : List ℤ) → beyond 4095 q ≡ false → q ≢ 𝟘 → length l ≡ 2 * N → T (reduced_q N q (coefficient l)) → Small l
reduced_q-small N q l b n e u = from_parts 5461 N l e (λ i p. subst (PartsAtMost 5461) (reduced_q_at N q (coefficient l) u i p) (mod_q-small q (coefficient l i) b n))

pub remainders-small : (N : ℕ) (q : ℤ[ω]) (x : Polynomial) → beyond 4095 q ≡ false → q ≢ 𝟘 → Small (array N (λ i. mod_q q (x i)))
remainders-small N q x b n = from_parts 5461 N (array N (λ i. mod_q q (x i))) (array_length N (λ i. mod_q q (x i))) (λ i p. subst (PartsAtMost 5461) (sym (coefficient-array N (λ i. mod_q q (x i)) i p)) (mod_q-small q (x i) b n))

-- ---- arrays of zeros and units

abbrev pub AllUnits : ℕ → Polynomial → Type 0
AllUnits N x = all N (λ i. not (nonzero (x i)) || among units (x i)) ≡ true

pub units-all : (N t : ℕ) (x : Polynomial) → T (units_only N t x) → AllUnits N x
unfolding units_only
units-all N t x h = is_true (all N (λ i. not (nonzero (x i)) || among units (x i))) (and_yes (eqb (count N (λ i. nonzero (x i))) t) _ h).1

pub reduced2-all : (N : ℕ) (x : Polynomial) → T (reduced2 N x) → AllUnits N x
reduced2-all N x h =
    is_true (all N (λ i. not (nonzero (x i)) || among units (x i))) (at_all N (λ i. not (nonzero (x i)) || among units (x i)) (λ i p. subst (λ (y : ℤ[ω]). T (not (nonzero y) || among units y)) (reduced2_at N x h i p) (mod2-unit (x i))))

-- ---- the part of 2N numbers of an array for the largest N

pub zeros_part : (n : ℕ) (l : List ℤ) → n ≤ 1024 → l ≡ replicate 2048 (pos 0) → length (take (2 * n) l) ≡ 2 * n
zeros_part n l h e = length-take-le (2 * n) l (omega (arith, ap length e))

-- ---- the test of the numbers' size

pub all-within : (b : ℕ) (l : List ℤ) → AllWithin b l → all_within b l ≡ true
unfolding all_within
all-within b l h =
    is_true (all (length l) (λ k. not (ltb b (nat_abs (get_or l k (pos 0)))))) (at_all (length l) (λ k. not (ltb b (nat_abs (get_or l k (pos 0))))) (λ k p. subst (λ (t : Bool). T (not t)) (sym (le-ltb b (nat_abs (get_or l k (pos 0))) (h k))) tt))

pub are_within : (b : ℕ) (l : List ℤ) → T (all_within b l) → AllWithin b l
unfolding all_within
are_within b l h k = go (dec_le (length l) k)
  where
    go : Dec (length l ≤ k) → nat_abs (get_or l k (pos 0)) ≤ b
    go (yes p) = subst (λ (z : ℤ). nat_abs z ≤ b) (sym (get_or-eq_default l (pos 0) p)) (omega arith)
    go (no p) = ltb_no (all_at (length l) (λ k. not (ltb b (nat_abs (get_or l k (pos 0))))) h k (omega arith))
