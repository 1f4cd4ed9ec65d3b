-- The promises of the set of g and φ: the sum of zeros and units by how many there are of each unit.
use mathlib.Core.Path.{◌≡◌, refl, sym, ◌∙◌, ap, ap₂, subst}
use mathlib.Core.Bool.{Bool, true, false, not, cond, ◌&&◌, ◌||◌}
use Prim.Native.Nat.{ℕ, zero, suc, ◌+◌, ◌%◌, ◌<◌}
use native.Mathlib.Omega.{arith}
use lib.Dec.{T, eqb, eqb→eq}
use lib.IntN.{pos}
use mir.Facts.{and_yes, yes_and}
use Rattle.integers.proofs.Tests.{equal_2, are_equal_2}
use Rattle.eisenstein.specs.Values.{ℤ[ω], value, 𝟘, units, unit, same, same_ℤ, ◌+ω◌, ◌*ω◌}
use Rattle.eisenstein.proofs.Equality.{is_false, same_yes, same_true}
use Rattle.eisenstein.proofs.Solver.{ringω, ◌≐◌, ◌⊞◌, ◌⊠◌, conω}
use Rattle.polynomials.specs.Polynomials.{Polynomial, sum, all, count, nonzero, among, zeros_and_units, units_only, unit_count, equally_many, whole_triples}
use Rattle.polynomials.specs.WholeTriples.{MembersAreWhole, WholeAreMembers, SumStillZero, units_of_sum_zero, Narrower, ThreeAndThreeRefused}
use Rattle.polynomials.proofs.Sums.{total_same, total_swap}
use Rattle.polynomials.proofs.Eisenstein.{ring, sum_is, sum_same}
use Rattle.polynomials.proofs.Members.{all_at, all_same, count_same, seven_pass, units-count, triples_units}

-- ---- the sum

-- u as often as a test is passed
abbrev times : ℕ → ℤ[ω] → ℤ[ω]
times n u = value (pos n) (pos 0) *ω u

none_of : (u : ℤ[ω]) → 𝟘 ≡ times 0 u
unfolding ◌*ω◌
none_of = ringω 1 (λ u. conω 𝟘 ≐ conω 𝟘 ⊠ u) tt

one_more : (n u : ℤ[ω]) → (n *ω u) +ω u ≡ (n +ω value (pos 1) (pos 0)) *ω u
unfolding ◌+ω◌ ◌*ω◌
one_more = ringω 2 (λ n u. n ⊠ u ⊞ u ≐ (n ⊞ conω (value (pos 1) (pos 0))) ⊠ u) tt

no_more : (n u : ℤ[ω]) → (n *ω u) +ω 𝟘 ≡ (n +ω 𝟘) *ω u
unfolding ◌+ω◌ ◌*ω◌
no_more = ringω 2 (λ n u. n ⊠ u ⊞ conω 𝟘 ≐ (n ⊞ conω 𝟘) ⊠ u) tt

step : (n : ℕ) (t : Bool) (u : ℤ[ω]) → times n u +ω cond t u 𝟘 ≡ times (n + cond t 1 0) u
unfolding ◌+ω◌
step n true u = one_more (value (pos n) (pos 0)) u
step n false u = no_more (value (pos n) (pos 0)) u

counted : (n : ℕ) (t : ℕ → Bool) (u : ℤ[ω]) → sum n (λ i. cond (t i) u 𝟘) ≡ times (count n t) u
unfolding sum count
counted zero t u = none_of u
counted (suc n) t u = ap (λ (y : ℤ[ω]). y +ω cond (t n) u 𝟘) (counted n t u) ∙ step (count n t) (t n) u

own_sum : (y : ℤ[ω]) → T (not (nonzero y) || among units y) → y ≡ sum 6 (λ k. cond (same y (unit k)) (unit k) 𝟘)
unfolding sum unit same same_ℤ ◌+ω◌
own_sum y h = same_yes y _ (seven_pass (λ y. same y (sum 6 (λ k. cond (same y (unit k)) (unit k) 𝟘))) tt y h)

sum_swap : (m n : ℕ) (f : ℕ → Polynomial) → sum m (λ i. sum n (f i)) ≡ sum n (λ k. sum m (λ i. f i k))
sum_swap m n f =
    sum_is m _ ∙ total_same ring m (λ i l. sum_is n (f i)) ∙ total_swap ring m n f ∙ sym (sum_is n _ ∙ total_same ring n (λ k l. sum_is m _))

-- a coefficient of zeros and units
at : (N : ℕ) (x : Polynomial) → T (zeros_and_units N x) → (i : ℕ) → i < N → T (not (nonzero (x i)) || among units (x i))
at N x h = all_at N (λ i. not (nonzero (x i)) || among units (x i)) h

sum_by_counts : (N : ℕ) (x : Polynomial) → T (zeros_and_units N x) → sum N x ≡ sum 6 (λ k. times (unit_count N x k) (unit k))
unfolding unit_count
sum_by_counts N x h =
    sum_same N (λ i l. own_sum (x i) (at N x h i l))
    ∙ sum_swap N 6 (λ i k. cond (same (x i) (unit k)) (unit k) 𝟘)
    ∙ sum_same 6 (λ k l. counted N (λ i. same (x i) (unit k)) (unit k))

-- ---- how many units

one_of_six : (y : ℤ[ω]) → T (not (nonzero y) || among units y)
    → cond (nonzero y) 1 0 ≡ cond (same y (unit 0)) 1 0 + cond (same y (unit 1)) 1 0 + cond (same y (unit 2)) 1 0 + cond (same y (unit 3)) 1 0 + cond (same y (unit 4)) 1 0 + cond (same y (unit 5)) 1 0
unfolding nonzero unit same same_ℤ
one_of_six y h =
    eqb→eq _ _
    (seven_pass (λ y. eqb (cond (nonzero y) 1 0) (cond (same y (unit 0)) 1 0 + cond (same y (unit 1)) 1 0 + cond (same y (unit 2)) 1 0 + cond (same y (unit 3)) 1 0 + cond (same y (unit 4)) 1 0 + cond (same y (unit 5)) 1 0)) tt y h)

count_by_unit : (N : ℕ) (x : Polynomial) → T (zeros_and_units N x)
    → count N (λ i. nonzero (x i)) ≡ unit_count N x 0 + unit_count N x 1 + unit_count N x 2 + unit_count N x 3 + unit_count N x 4 + unit_count N x 5
unfolding all count unit_count
count_by_unit zero x h = refl
count_by_unit (suc N) x h =
    let k = and_yes (zeros_and_units N x) _ h in
    omega (arith, count_by_unit N x k.0, one_of_six (x N) k.1)

-- ---- whole triples

balanced : (m n : ℤ[ω]) → 𝟘 +ω m *ω unit 0 +ω n *ω unit 1 +ω m *ω unit 2 +ω n *ω unit 3 +ω m *ω unit 4 +ω n *ω unit 5 ≡ 𝟘
unfolding unit ◌+ω◌ ◌*ω◌
balanced = ringω 2 (λ m n. conω 𝟘 ⊞ m ⊠ conω (unit 0) ⊞ n ⊠ conω (unit 1) ⊞ m ⊠ conω (unit 2) ⊞ n ⊠ conω (unit 3) ⊞ m ⊠ conω (unit 4) ⊞ n ⊠ conω (unit 5) ≐ conω 𝟘) tt

-- the sum by the six counts
by_six : (c d : ℕ → ℕ) → c 0 ≡ d 0 → c 1 ≡ d 1 → c 2 ≡ d 2 → c 3 ≡ d 3 → c 4 ≡ d 4 → c 5 ≡ d 5 → sum 6 (λ k. times (c k) (unit k)) ≡ sum 6 (λ k. times (d k) (unit k))
unfolding sum
by_six c d e₀ e₁ e₂ e₃ e₄ e₅ =
    ap₂ ◌+ω◌ (ap₂ ◌+ω◌ (ap₂ ◌+ω◌ (ap₂ ◌+ω◌ (ap₂ ◌+ω◌ (ap₂ ◌+ω◌ refl (of 0 e₀)) (of 1 e₁)) (of 2 e₂)) (of 3 e₃)) (of 4 e₄)) (of 5 e₅)
  where
    of : (k : ℕ) {m n : ℕ} → m ≡ n → times m (unit k) ≡ times n (unit k)
    of k e = ap (λ (n : ℕ). times n (unit k)) e

whole_sum : (c : ℕ → ℕ) → c 0 ≡ c 2 → c 2 ≡ c 4 → c 1 ≡ c 3 → c 3 ≡ c 5 → sum 6 (λ k. times (c k) (unit k)) ≡ 𝟘
unfolding sum
whole_sum c e f g h =
    by_six c (λ k. c (k % 2)) refl refl (sym e) (sym g) (sym (e ∙ f)) (sym (g ∙ h))
    ∙ balanced (value (pos (c 0)) (pos 0)) (value (pos (c 1)) (pos 0))

zeros_and_units_lem : (N s : ℕ) (x : Polynomial) → T (units_only N s x) → T (zeros_and_units N x)
unfolding units_only
zeros_and_units_lem N s x h = (and_yes (eqb (count N (λ i. nonzero (x i))) s) (zeros_and_units N x) h).1

pub members_are_whole : MembersAreWhole
unfolding whole_triples equally_many
members_are_whole N s x h =
    let w = and_yes (units_only N s x) _ h in
    let c = and_yes (equally_many N x 0 2 4) (equally_many N x 1 3 5) w.1 in record {
      units = w.0;
      even = are_equal_2 (unit_count N x 0) (unit_count N x 2) (unit_count N x 2) (unit_count N x 4) c.0;
      odd = are_equal_2 (unit_count N x 1) (unit_count N x 3) (unit_count N x 3) (unit_count N x 5) c.1;
    }

pub whole_are_members : WholeAreMembers
unfolding whole_triples equally_many
whole_are_members N s x w =
    yes_and (units_only N s x) _ w.units (yes_and (equally_many N x 0 2 4) (equally_many N x 1 3 5) (equal_2 w.even.0 w.even.1) (equal_2 w.odd.0 w.odd.1))

pub sum_still_zero : SumStillZero
sum_still_zero N s x h =
    let w = members_are_whole N s x h in
    sum_by_counts N x (zeros_and_units_lem N s x w.units) ∙ whole_sum (unit_count N x) w.even.0 w.even.1 w.odd.0 w.odd.1

pub narrower : Narrower
unfolding units_of_sum_zero
narrower N s x h = yes_and (units_only N s x) _ (triples_units N s x h) (subst T (sym (same_true (sum_still_zero N s x h))) tt)

-- ---- the buyer's g

three_and_three : (c : ℕ → ℕ) → c 0 ≡ 3 → c 3 ≡ 3 → c 0 + c 1 + c 2 + c 3 + c 4 + c 5 ≡ 6 → sum 6 (λ k. times (c k) (unit k)) ≡ 𝟘
unfolding sum unit ◌+ω◌ ◌*ω◌
three_and_three c e f h =
    by_six c (λ k. cond (eqb (k % 3) 0) 3 0) e (omega arith) (omega arith) f (omega arith) (omega arith) ∙ refl

pub three_and_three_refused : ThreeAndThreeRefused
unfolding units_of_sum_zero
three_and_three_refused N x h e f =
    let u = zeros_and_units_lem N 6 x h in
    let six : unit_count N x 0 + unit_count N x 1 + unit_count N x 2 + unit_count N x 3 + unit_count N x 4 + unit_count N x 5 ≡ 6 = sym (count_by_unit N x u) ∙ units-count N 6 x h in (
      yes_and (units_only N 6 x) _ h (subst T (sym (same_true (sum_by_counts N x u ∙ three_and_three (unit_count N x) e f six))) tt),
      is_false (whole_triples N 6 x) (λ w. absurd (omega (arith, (members_are_whole N 6 x w).even.0, e, f, six))),
    )

-- ---- polynomials that agree below N

module _ (N : ℕ) {x y : Polynomial} (agree : (i : ℕ) → i < N → x i ≡ y i) where
  units-same : (t : ℕ) → units_only N t x ≡ units_only N t y
  unfolding units_only
  units-same t =
      ap₂ ◌&&◌ (ap (λ (k : ℕ). eqb k t) (count_same N (λ i l. ap nonzero (agree i l)))) (all_same N (λ i l. ap (λ (z : ℤ[ω]). not (nonzero z) || among units z) (agree i l)))

  unit_count_same : (k : ℕ) → unit_count N x k ≡ unit_count N y k
  unfolding unit_count
  unit_count_same k = count_same N (λ i l. ap (λ (z : ℤ[ω]). same z (unit k)) (agree i l))

  equally_many_same : (j k l : ℕ) → equally_many N x j k l ≡ equally_many N y j k l
  unfolding equally_many
  equally_many_same j k l = ap₂ ◌&&◌ (ap₂ eqb (unit_count_same j) (unit_count_same k)) (ap₂ eqb (unit_count_same k) (unit_count_same l))

  pub triples_same : (s : ℕ) → whole_triples N s x ≡ whole_triples N s y
  unfolding whole_triples
  triples_same s = ap₂ ◌&&◌ (units-same s) (ap₂ ◌&&◌ (equally_many_same 0 2 4) (equally_many_same 1 3 5))
