-- The sums after each unit, and what they come to.
use mathlib.Core.Path.{◌≡◌, refl, sym, ◌∙◌, ap, ap₂, subst}
use mathlib.Core.Bool.{true, not, ◌||◌}
use mathlib.Core.List.{List}
use Prim.Native.Nat.{ℕ, zero, suc, ◌+◌, ◌-◌, ◌*◌, ◌^◌, ◌≤◌, ◌<◌}
use native.Mathlib.Omega.{arith}
use native.Mathlib.Nat.{le_trans}
use lib.Dec.{T, lit≤}
use lib.IntN.{ℤ, nat_abs, ◌-ℤ◌}
use lib.ListN.{length}
use Rattle.integers.proofs.Absolute.{natAbs--}
use Rattle.eisenstein.specs.Values.{ℤ[ω], value, 𝟘, units, unit, same, same_ℤ, ◌+ω◌, ◌*ω◌}
use Rattle.eisenstein.proofs.Solver.{ringω, parts, ◌≐◌, ◌⊞◌, ◌⊠◌, conω}
use Rattle.integers.proofs.Ring.{◌⊝◌}
use Rattle.eisenstein.proofs.Equality.{same_yes}
use Rattle.polynomials.specs.Polynomials.{Polynomial, coefficient, array, sum, zeros_and_units, nonzero, among}
use Rattle.polynomials.proofs.Arrays.{array_length, coefficient-array, array_by_coefficients}
use Rattle.polynomials.proofs.Eisenstein.{sum_same}
use Rattle.polynomials.proofs.Members.{all_at, seven_pass}
use Rattle.arrays.proofs.Sizes.{from_parts}
use Rattle.arrays.specs.Arrays.{AllWithin, Zeros}
use Rattle.unit_products.specs.Rotations.{ζ, run, runs, is, PartsBelow, Summed}

-- ---- times ζ

turn_parts : (x : ℤ[ω]) → value (x.a -ℤ x.b) x.a ≡ ζ *ω x
unfolding ◌*ω◌
turn_parts = ringω 1 (λ x. parts (x.a ⊝ x.b) x.a ≐ conω ζ ⊠ x) tt

pub turn_a : (x : ℤ[ω]) → x.a -ℤ x.b ≡ (ζ *ω x).a
turn_a x = ap (λ (z : ℤ[ω]). z.a) (turn_parts x)

pub turn_b : (x : ℤ[ω]) → x.a ≡ (ζ *ω x).b
turn_b x = ap (λ (z : ℤ[ω]). z.b) (turn_parts x)

pub parts_below : {b : ℕ} (l : List ℤ) (i : ℕ) → AllWithin b l → PartsBelow b (coefficient l i)
unfolding coefficient
parts_below l i h = (h (2 * i), h (2 * i + 1))

turned_array : (n b : ℕ) (l : List ℤ) → AllWithin b l → AllWithin (2 * b) (array n (λ i. ζ *ω coefficient l i))
turned_array n b l h =
    from_parts (2 * b) n (array n (λ i. ζ *ω coefficient l i)) (array_length n (λ i. ζ *ω coefficient l i))
    (λ i p.
    subst (PartsBelow (2 * b))
    (turn_parts (coefficient l i) ∙ sym (coefficient-array n (λ i. ζ *ω coefficient l i) i p))
    (let k = parts_below l i h in
    (le_trans (natAbs-- (coefficient l i).a (coefficient l i).b) (omega (arith, k)), omega (arith, k))))

pub turned_below : (n b : ℕ) (l : List ℤ) {l' : List ℤ} → l' ≡ array n (λ i. ζ *ω coefficient l i) → AllWithin b l → (length l' ≡ 2 * n) × AllWithin (2 * b) l'
turned_below n b l e h = (ap length e ∙ array_length n (λ i. ζ *ω coefficient l i), subst (AllWithin (2 * b)) (sym e) (turned_array n b l h))

-- times ζ, and then more
turned_summed : (n : ℕ) {b : ℕ} {x y : Polynomial} (l₀ : List ℤ) {l l' : List ℤ} → ((i : ℕ) → i < n → coefficient l₀ i ≡ x i) → l ≡ array n (λ i. ζ *ω coefficient l₀ i) → Summed n y b l l' → (i : ℕ) → i < n → coefficient l' i ≡ ζ *ω x i +ω y i
turned_summed n {y = y} l₀ h e g i p =
    g.sums i p
    ∙ ap (λ (z : ℤ[ω]). z +ω y i) (ap (λ (k : List ℤ). coefficient k i) e ∙ coefficient-array n (λ i. ζ *ω coefficient l₀ i) i p ∙ ap (◌*ω◌ ζ) (h i p))

-- ---- what a coefficient counts for after the first m units, from unit 5 down

unfoldable pub weight : ℕ → ℤ[ω] → ℤ[ω]
weight zero x = 𝟘
weight (suc m) x = ζ *ω weight m x +ω is (unit (5 - m)) x

sums_next : (s h t a r : ℤ[ω]) → ζ *ω (s +ω h *ω r) +ω (t +ω a *ω r) ≡ (ζ *ω s +ω t) +ω (ζ *ω h +ω a) *ω r
unfolding ◌+ω◌ ◌*ω◌
sums_next = ringω 5 (λ s h t a r. conω ζ ⊠ (s ⊞ h ⊠ r) ⊞ (t ⊞ a ⊠ r) ≐ (conω ζ ⊠ s ⊞ t) ⊞ (conω ζ ⊠ h ⊞ a) ⊠ r) tt

sums_first : ζ *ω 𝟘 +ω 𝟘 ≡ 𝟘
unfolding ◌+ω◌ ◌*ω◌
sums_first = refl

turned_sums : (n : ℕ) (h a r : Polynomial) → ζ *ω sum n (λ j. h j *ω r j) +ω sum n (λ j. a j *ω r j) ≡ sum n (λ j. (ζ *ω h j +ω a j) *ω r j)
unfolding sum
turned_sums zero h a r = sums_first
turned_sums (suc n) h a r =
    sums_next (sum n (λ j. h j *ω r j)) (h n) (sum n (λ j. a j *ω r j)) (a n) (r n)
    ∙ ap (λ (z : ℤ[ω]). z +ω (ζ *ω h n +ω a n) *ω r n) (turned_sums n h a r)

-- one unit more
weights_next : (n m : ℕ) (x r : Polynomial) → ζ *ω sum n (λ j. weight m (x j) *ω r j) +ω sum n (λ j. is (unit (5 - m)) (x j) *ω r j) ≡ sum n (λ j. weight (suc m) (x j) *ω r j)
unfolding weight
weights_next n m x r = turned_sums n (λ j. weight m (x j)) (λ j. is (unit (5 - m)) (x j)) r

zero_more : (y : ℤ[ω]) → 𝟘 ≡ 𝟘 +ω 𝟘 *ω y
unfolding ◌+ω◌ ◌*ω◌
zero_more = ringω 1 (λ y. conω 𝟘 ≐ conω 𝟘 ⊞ conω 𝟘 ⊠ y) tt

weights_none : (n : ℕ) (x r : Polynomial) → 𝟘 ≡ sum n (λ j. weight zero (x j) *ω r j)
unfolding weight sum
weights_none zero x r = refl
weights_none (suc n) x r = zero_more (r n) ∙ ap (λ (z : ℤ[ω]). z +ω 𝟘 *ω r n) (weights_none n x r)

-- ---- after all six, every zero and every unit counts for itself

own_weight : (x : ℤ[ω]) → T (not (nonzero x) || among units x) → weight 6 x ≡ x
unfolding weight is unit same same_ℤ ◌+ω◌ ◌*ω◌
own_weight x t = same_yes (weight 6 x) x (seven_pass (λ y. same (weight 6 y) y) tt x t)

weights_all : (n : ℕ) (x r : Polynomial) → zeros_and_units n x ≡ true → sum n (λ j. weight 6 (x j) *ω r j) ≡ sum n (λ j. x j *ω r j)
weights_all n x r h =
    sum_same n (λ j q. ap (λ (z : ℤ[ω]). z *ω r j) (own_weight (x j) (all_at n (λ i. not (nonzero (x i)) || among units (x i)) (subst T (sym h) tt) j q)))

-- ---- the sums after the first m units

-- how large a number can be then
unfoldable pub grown : ℕ → ℕ
grown zero = 0
grown (suc m) = 2 * grown m + 2 ^ 23

pub still_small : (m : ℕ) → m ≤ 5 → 2 * grown m ≤ 2 ^ 29
unfolding grown
still_small zero p = lit≤ tt
still_small (suc zero) p = lit≤ tt
still_small (suc (suc zero)) p = lit≤ tt
still_small (suc (suc (suc zero))) p = lit≤ tt
still_small (suc (suc (suc (suc zero)))) p = lit≤ tt
still_small (suc (suc (suc (suc (suc zero))))) p = lit≤ tt
still_small (suc (suc (suc (suc (suc (suc m)))))) p = absurd (omega arith)

pub record After (n : ℕ) (x : Polynomial) (t : List ℤ) (m : ℕ) (l : List ℤ) : Type 0 where
  pub long : length l ≡ 2 * n
  pub sums : (i : ℕ) → i < n → coefficient l i ≡ sum n (λ j. weight m (x j) *ω run n t j i)
  pub below : AllWithin (grown m) l

pub after_none : (n : ℕ) (x : Polynomial) (t l : List ℤ) → length l ≡ 2 * n → Zeros l → After n x t 0 l
unfolding coefficient grown
after_none n x t l e z = record { long = e; sums = λ i p. ap₂ value (z (2 * i)) (z (2 * i + 1)) ∙ weights_none n x (λ j. run n t j i); below = λ k. omega (arith, ap nat_abs (z k)) }

pub after_next : (n : ℕ) (x : Polynomial) (t : List ℤ) (m : ℕ) (l : List ℤ) {l₁ l₂ : List ℤ} → After n x t m l → l₁ ≡ array n (λ i. ζ *ω coefficient l i) → Summed n (runs n t (unit (5 - m)) x) (2 ^ 23) l₁ l₂ → After n x t (suc m) l₂
unfolding grown
after_next n x t m l h e g =
    let k = turned_below n (grown m) l e h.below in
    record {
      long = g.long ∙ k.0;
      sums = λ i p. turned_summed n l h.sums e g i p ∙ weights_next n m x (λ j. run n t j i);
      below = λ i. omega (arith, g.grown i, k.1 i);
    }

pub after_all : (n : ℕ) (x : Polynomial) (t : List ℤ) (l : List ℤ) → zeros_and_units n x ≡ true → After n x t 6 l → l ≡ array n (λ i. sum n (λ j. x j *ω run n t j i))
after_all n x t l u h = array_by_coefficients n l (λ i. sum n (λ j. x j *ω run n t j i)) h.long (λ i p. h.sums i p ∙ weights_all n x (λ j. run n t j i) u)
