-- Z[ω] as a ring, its classes modulo q as a congruence, and the definitions' sums and convolution as those of the algebra.
use mathlib.Core.Path.{◌≡◌, refl, sym, ◌∙◌, ap, ap₂}
use mathlib.Core.Bool.{cond}
use Prim.Native.Nat.{ℕ, zero, suc, ◌+◌, ◌-◌, ◌%◌, ◌<◌}
use native.Mathlib.Omega.{arith}
use native.Mathlib.Nat.{add-zero, add-suc, add-mod_right, mod-eq_of_lt}
use lib.Dec.{eqb}
use lib.IntN.{pos}
use Rattle.eisenstein.specs.Values.{ℤ[ω], value, 𝟘, ◌+ω◌, ◌*ω◌, Congruent}
use Rattle.eisenstein.proofs.Solver.{ringω, ◌≐◌, ◌⊞◌, ◌⊠◌, conω}
use Rattle.eisenstein.proofs.Laws.{+ω_assoc, +ω_comm, +ω-zero, *ω_assoc, *ω_comm, *ω-zero, *ω-+ω, congruent_refl, congruent_sym, congruent_trans}
use Rattle.polynomials.specs.Polynomials.{Polynomial, sum, convolution, one}
use Rattle.polynomials.proofs.Rings.{Ring, Congruence}
use Rattle.polynomials.proofs.Sums.{total, total_same}
use Rattle.polynomials.proofs.Convolutions.{conv, unit, conv_single}
use Rattle.polynomials.proofs.Cyclic.{cyclic, in_mod}

pub *ω-one : (x : ℤ[ω]) → x *ω value (pos 1) (pos 0) ≡ x
unfolding ◌*ω◌
*ω-one = ringω 1 (λ x. x ⊠ conω (value (pos 1) (pos 0)) ≐ x) tt

abbrev pub ring : Ring ℤ[ω]
ring = record {
  zero = 𝟘;
  one = value (pos 1) (pos 0);
  add = ◌+ω◌;
  mul = ◌*ω◌;
  add_assoc = +ω_assoc;
  add_comm = +ω_comm;
  add-zero = +ω-zero;
  mul_assoc = *ω_assoc;
  mul_comm = *ω_comm;
  mul_one = *ω-one;
  mul-zero = *ω-zero;
  mul-add = *ω-+ω;
}

adds_step : (q x y u v : ℤ[ω]) → (x +ω q *ω u) +ω (y +ω q *ω v) ≡ (x +ω y) +ω q *ω (u +ω v)
unfolding ◌+ω◌ ◌*ω◌
adds_step = ringω 5 (λ q x y u v. (x ⊞ q ⊠ u) ⊞ (y ⊞ q ⊠ v) ≐ (x ⊞ y) ⊞ q ⊠ (u ⊞ v)) tt

multiplies_step : (q x y u v : ℤ[ω]) → (x +ω q *ω u) *ω (y +ω q *ω v) ≡ (x *ω y) +ω q *ω ((x *ω v +ω u *ω y) +ω q *ω (u *ω v))
unfolding ◌+ω◌ ◌*ω◌
multiplies_step =
    ringω 5 (λ q x y u v. (x ⊞ q ⊠ u) ⊠ (y ⊞ q ⊠ v) ≐ x ⊠ y ⊞ q ⊠ (x ⊠ v ⊞ u ⊠ y ⊞ q ⊠ (u ⊠ v))) tt

pub congruent_add : {q x x' y y' : ℤ[ω]} → Congruent q x x' → Congruent q y y' → Congruent q (x +ω y) (x' +ω y')
congruent_add {q} {x} {x'} {y} {y'} c d = record {
  quotient = c.quotient +ω d.quotient;
  equation = ap₂ ◌+ω◌ c.equation d.equation ∙ adds_step q x' y' c.quotient d.quotient;
}

pub congruent_mul : {q x x' y y' : ℤ[ω]} → Congruent q x x' → Congruent q y y' → Congruent q (x *ω y) (x' *ω y')
congruent_mul {q} {x} {x'} {y} {y'} c d = record {
  quotient = (x' *ω d.quotient +ω c.quotient *ω y') +ω q *ω (c.quotient *ω d.quotient);
  equation = ap₂ ◌*ω◌ c.equation d.equation ∙ multiplies_step q x' y' c.quotient d.quotient;
}

pub modulo : (q : ℤ[ω]) → Congruence ring (Congruent q)
modulo q = record {
  reflexive = congruent_refl q;
  symmetric = λ c. congruent_sym c;
  transitive = λ c d. congruent_trans c d;
  adds = λ c d. congruent_add c d;
  multiplies = λ c d. congruent_mul c d;
}

-- ---- the definitions are the algebra's

pub sum_is : (n : ℕ) (x : Polynomial) → sum n x ≡ total ring n x
unfolding sum total
sum_is zero x = refl
sum_is (suc n) x = ap (λ (y : ℤ[ω]). y +ω x n) (sum_is n x)

pub convolution-is : (N : ℕ) (x y : Polynomial) (i : ℕ) → convolution N x y i ≡ conv ring (cyclic N) x y i
unfolding convolution conv
convolution-is N x y i = sum_is N _ ∙ total_same ring N (λ j l. sum_is N _)

pub one-is : (i : ℕ) → one i ≡ unit ring i
unfolding one unit
one-is i = refl

-- ---- sums, split and compared

pub sum_same : (n : ℕ) {x y : Polynomial} → ((i : ℕ) → i < n → x i ≡ y i) → sum n x ≡ sum n y
sum_same n {x} {y} h = sum_is n x ∙ total_same ring n h ∙ sym (sum_is n y)

pub convolution-same : (N : ℕ) {x x' y y' : Polynomial} → ((j : ℕ) → j < N → x j ≡ x' j) → ((k : ℕ) → k < N → y k ≡ y' k) → (i : ℕ) → convolution N x y i ≡ convolution N x' y' i
unfolding convolution
convolution-same N h g i = sum_same N (λ j l. sum_same N (λ k m. ap₂ (λ (u v : ℤ[ω]). cond (eqb ((j + k) % N) i) (u *ω v) 𝟘) (h j l) (g k m)))

pub sum-split : (m n : ℕ) (x : Polynomial) → sum (m + n) x ≡ sum m x +ω sum n (λ j. x (m + j))
unfolding sum
sum-split m zero x = ap (λ (k : ℕ). sum k x) (add-zero m) ∙ sym (+ω-zero (sum m x))
sum-split m (suc n) x =
    ap (λ (k : ℕ). sum k x) (add-suc m n)
    ∙ ap (λ (y : ℤ[ω]). y +ω x (m + n)) (sum-split m n x)
    ∙ +ω_assoc (sum m x) (sum n (λ j. x (m + j))) (x (m + n))

-- a convolution's coefficient without the wrap: up to j = i, and from there on
pub convolution-split : (N : ℕ) (x y : Polynomial) (i : ℕ) → i < N → convolution N x y i ≡ sum (i + 1 - 0) (λ j. x (0 + j) *ω y (i - (0 + j))) +ω sum (N - (i + 1)) (λ j. x (i + 1 + j) *ω y (i + N - (i + 1 + j)))
convolution-split N x y i l =
    convolution-is N x y i
    ∙ conv_single ring (cyclic N) x y i l
    ∙ sym (sum_is N _)
    ∙ ap (λ (k : ℕ). sum k (λ j. x j *ω y ((i + (N - j)) % N))) {x = N} {y = i + 1 + (N - (i + 1))} (omega arith)
    ∙ sum-split (i + 1) (N - (i + 1)) (λ j. x j *ω y ((i + (N - j)) % N))
    ∙ ap₂ ◌+ω◌ (sum_same (i + 1) low ∙ ap (λ (k : ℕ). sum k (λ j. x (0 + j) *ω y (i - (0 + j)))) {x = i + 1} {y = i + 1 - 0} (omega arith)) (sum_same (N - (i + 1)) high)
  where
    low : (j : ℕ) → j < i + 1 → x j *ω y ((i + (N - j)) % N) ≡ x (0 + j) *ω y (i - (0 + j))
    low j p =
        let e : 0 + j ≡ j = omega arith in
        let w : (i + (N - j)) % N ≡ i - (0 + j) = in_mod N {a = i + (N - j)} {b = (i - (0 + j)) + N} (omega arith) ∙ add-mod_right (i - (0 + j)) N ∙ mod-eq_of_lt {n = i - (0 + j)} {m = N} (omega arith) in
        ap₂ (λ (u v : ℕ). x u *ω y v) (sym e) w

    high : (j : ℕ) → j < N - (i + 1) → x (i + 1 + j) *ω y ((i + (N - (i + 1 + j))) % N) ≡ x (i + 1 + j) *ω y (i + N - (i + 1 + j))
    high j p =
        let w : (i + (N - (i + 1 + j))) % N ≡ i + N - (i + 1 + j) = mod-eq_of_lt {n = i + (N - (i + 1 + j))} {m = N} (omega arith) ∙ trade in
        ap (λ (v : ℕ). x (i + 1 + j) *ω y v) w
      where
        trade : i + (N - (i + 1 + j)) ≡ i + N - (i + 1 + j)
        trade = omega arith
