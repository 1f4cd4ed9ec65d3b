-- The laws of the ring Z[ω] and of classes modulo q.
use mathlib.Core.Path.{◌≡◌, sym, ◌∙◌, ap, subst}
use Rattle.eisenstein.specs.Values.{ℤ[ω], 𝟘, ◌+ω◌, ◌-ω◌, ◌*ω◌, Congruent}
use Rattle.eisenstein.proofs.Solver.{ringω, ◌≐◌, ◌⊞◌, ◌⊟◌, ◌⊠◌, conω}

pub +ω_assoc : (x y z : ℤ[ω]) → (x +ω y) +ω z ≡ x +ω (y +ω z)
unfolding ◌+ω◌
+ω_assoc = ringω 3 (λ x y z. (x ⊞ y) ⊞ z ≐ x ⊞ (y ⊞ z)) tt

pub +ω_comm : (x y : ℤ[ω]) → x +ω y ≡ y +ω x
unfolding ◌+ω◌
+ω_comm = ringω 2 (λ x y. x ⊞ y ≐ y ⊞ x) tt

pub +ω-zero : (x : ℤ[ω]) → x +ω 𝟘 ≡ x
unfolding ◌+ω◌
+ω-zero = ringω 1 (λ x. x ⊞ conω 𝟘 ≐ x) tt

pub *ω_assoc : (x y z : ℤ[ω]) → (x *ω y) *ω z ≡ x *ω (y *ω z)
unfolding ◌*ω◌
*ω_assoc = ringω 3 (λ x y z. (x ⊠ y) ⊠ z ≐ x ⊠ (y ⊠ z)) tt

pub *ω_comm : (x y : ℤ[ω]) → x *ω y ≡ y *ω x
unfolding ◌*ω◌
*ω_comm = ringω 2 (λ x y. x ⊠ y ≐ y ⊠ x) tt

pub *ω-zero : (x : ℤ[ω]) → x *ω 𝟘 ≡ 𝟘
unfolding ◌*ω◌
*ω-zero = ringω 1 (λ x. x ⊠ conω 𝟘 ≐ conω 𝟘) tt

pub *ω-+ω : (x y z : ℤ[ω]) → x *ω (y +ω z) ≡ (x *ω y) +ω (x *ω z)
unfolding ◌+ω◌ ◌*ω◌
*ω-+ω = ringω 3 (λ x y z. x ⊠ (y ⊞ z) ≐ x ⊠ y ⊞ x ⊠ z) tt

pub minus_plus : (x y : ℤ[ω]) → (x -ω y) +ω y ≡ x
unfolding ◌+ω◌ ◌-ω◌
minus_plus = ringω 2 (λ x y. (x ⊟ y) ⊞ y ≐ x) tt

pub plus_minus : (x y : ℤ[ω]) → (x +ω y) -ω y ≡ x
unfolding ◌+ω◌ ◌-ω◌
plus_minus = ringω 2 (λ x y. (x ⊞ y) ⊟ y ≐ x) tt

-- ---- classes modulo q

pub congruent_refl : (q x : ℤ[ω]) → Congruent q x x
congruent_refl q x =
    record { quotient = 𝟘; equation = sym (ap (λ (y : ℤ[ω]). x +ω y) (*ω-zero q) ∙ +ω-zero x) }

-- a congruence as an equation gives it
pub of_equal : {q x y : ℤ[ω]} → x ≡ y → Congruent q x y
of_equal {q} {x} e = subst (Congruent q x) e (congruent_refl q x)

sym_step : (q x z : ℤ[ω]) → x ≡ (x +ω q *ω z) +ω q *ω (𝟘 -ω z)
unfolding ◌+ω◌ ◌-ω◌ ◌*ω◌
sym_step = ringω 3 (λ q x z. x ≐ (x ⊞ q ⊠ z) ⊞ q ⊠ (conω 𝟘 ⊟ z)) tt

pub congruent_sym : {q x y : ℤ[ω]} → Congruent q x y → Congruent q y x
congruent_sym {q} {x} {y} c = record {
  quotient = 𝟘 -ω c.quotient;
  equation = sym_step q y c.quotient ∙ ap (λ (z : ℤ[ω]). z +ω q *ω (𝟘 -ω c.quotient)) (sym c.equation);
}

trans_step : (q x y z : ℤ[ω]) → (x +ω q *ω y) +ω q *ω z ≡ x +ω q *ω (y +ω z)
unfolding ◌+ω◌ ◌*ω◌
trans_step = ringω 4 (λ q x y z. (x ⊞ q ⊠ y) ⊞ q ⊠ z ≐ x ⊞ q ⊠ (y ⊞ z)) tt

pub congruent_trans : {q x y z : ℤ[ω]} → Congruent q x y → Congruent q y z → Congruent q x z
congruent_trans {q} {x} {y} {z} c d = record {
  quotient = d.quotient +ω c.quotient;
  equation = c.equation ∙ ap (λ (w : ℤ[ω]). w +ω q *ω c.quotient) d.equation ∙ trans_step q z d.quotient c.quotient;
}

-- x less a multiple of q is in x's class
pub less_multiple : (q x z : ℤ[ω]) → Congruent q x (x -ω q *ω z)
less_multiple q x z = record { quotient = z; equation = sym (minus_plus x (q *ω z)) }

-- and every value of the class is that
pub in_class_is : {q x y : ℤ[ω]} (c : Congruent q x y) → y ≡ x -ω q *ω c.quotient
in_class_is {q} {x} {y} c = sym (ap (λ (z : ℤ[ω]). z -ω q *ω c.quotient) c.equation ∙ plus_minus y (q *ω c.quotient))
