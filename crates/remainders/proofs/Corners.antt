-- The four corners from the first: the others are less q, qω and q(1 + ω). What the code's `first_corner` and `best_corner` compute.
use mathlib.Core.Path.{◌≡◌, sym, ◌∙◌, ap, ap₂}
use mathlib.Core.Logic.{◌≢◌}
use Prim.Native.Nat.{◌*◌, ◌^◌, ◌≤◌}
use native.Mathlib.Omega.{arith}
use native.Mathlib.Nat.{mul_assoc, le_of_mul-le-mul_right}
use lib.IntN.{ℤ, pos, nat_abs, ◌+ℤ◌, ◌-ℤ◌, ◌*ℤ◌}
use lib.Signed.{shr_z}
use Rattle.integers.proofs.Ring.{◌⊕◌, ◌⊝◌, ◌⊗◌, ⊖◌}
use Rattle.integers.proofs.Floor.{floor_rest, floor_rest_lt}
use Rattle.integers.proofs.Absolute.{natAbs--, square_le}
use Rattle.eisenstein.specs.Values.{ℤ[ω], value, 𝟘, ◌+ω◌, ◌-ω◌, ◌*ω◌, norm}
use Rattle.eisenstein.specs.Reduction.{conj, cell, corner, best, mod_q}
use Rattle.eisenstein.proofs.Solver.{ringω, parts, conω, ◌≐◌, ◌⊞◌, ◌⊟◌, ◌⊠◌}
use Rattle.eisenstein.proofs.Norms.{norm-bound, part_a, part_b}
use Rattle.eisenstein.proofs.Cover.{offset}
use Rattle.eisenstein.proofs.Remainders.{norm_pos, α, β, corner_scaled}

-- the corners by what they differ from the first, part by part as the code has them
abbrev pub less10 : ℤ[ω] → ℤ[ω] → ℤ[ω]
less10 q r = value (r.a -ℤ q.a) (r.b -ℤ q.b)

abbrev pub less01 : ℤ[ω] → ℤ[ω] → ℤ[ω]
less01 q r = value (r.a +ℤ q.b) ((r.b -ℤ q.a) +ℤ q.b)

abbrev pub less11 : ℤ[ω] → ℤ[ω] → ℤ[ω]
less11 q r = value ((r.a -ℤ q.a) +ℤ q.b) (r.b -ℤ q.a)

corner10 : (x q k : ℤ[ω]) → x -ω q *ω (k +ω value (pos 1) (pos 0)) ≡ less10 q (x -ω q *ω (k +ω value (pos 0) (pos 0)))
unfolding ◌+ω◌ ◌-ω◌ ◌*ω◌
corner10 =
    ringω 3 (λ x q k. let r = x ⊟ q ⊠ (k ⊞ conω (value (pos 0) (pos 0))) in x ⊟ q ⊠ (k ⊞ conω (value (pos 1) (pos 0))) ≐ parts (r.a ⊝ q.a) (r.b ⊝ q.b)) tt

corner01 : (x q k : ℤ[ω]) → x -ω q *ω (k +ω value (pos 0) (pos 1)) ≡ less01 q (x -ω q *ω (k +ω value (pos 0) (pos 0)))
unfolding ◌+ω◌ ◌-ω◌ ◌*ω◌
corner01 =
    ringω 3 (λ x q k. let r = x ⊟ q ⊠ (k ⊞ conω (value (pos 0) (pos 0))) in x ⊟ q ⊠ (k ⊞ conω (value (pos 0) (pos 1))) ≐ parts (r.a ⊕ q.b) (r.b ⊝ q.a ⊕ q.b)) tt

corner11 : (x q k : ℤ[ω]) → x -ω q *ω (k +ω value (pos 1) (pos 1)) ≡ less11 q (x -ω q *ω (k +ω value (pos 0) (pos 0)))
unfolding ◌+ω◌ ◌-ω◌ ◌*ω◌
corner11 =
    ringω 3 (λ x q k. let r = x ⊟ q ⊠ (k ⊞ conω (value (pos 0) (pos 0))) in x ⊟ q ⊠ (k ⊞ conω (value (pos 1) (pos 1))) ≐ parts (r.a ⊝ q.a ⊕ q.b) (r.b ⊝ q.a)) tt

pub best_corner_is : (q x : ℤ[ω]) → let r = corner q x 0 0 in best (best r (less10 q r)) (best (less01 q r) (less11 q r)) ≡ mod_q q x
unfolding mod_q corner
best_corner_is q x =
    ap₂ best (ap (best (corner q x 0 0)) (sym (corner10 x q (cell q x)))) (ap₂ best (sym (corner01 x q (cell q x))) (sym (corner11 x q (cell q x))))

-- ---- the first corner, as the code has it

-- the parts of x·conj(q)
abbrev left : ℤ[ω] → ℤ[ω] → ℤ
left q x = (x.a *ℤ (q.a -ℤ q.b)) +ℤ (x.b *ℤ q.b)

abbrev right : ℤ[ω] → ℤ[ω] → ℤ
right q x = (x.b *ℤ q.a) -ℤ (x.a *ℤ q.b)

parts_are : (q x : ℤ[ω]) → value (left q x) (right q x) ≡ x *ω conj q
unfolding ◌*ω◌
parts_are =
    ringω 2 (λ q x. parts (x.a ⊗ (q.a ⊝ q.b) ⊕ x.b ⊗ q.b) (x.b ⊗ q.a ⊝ x.a ⊗ q.b) ≐ x ⊠ parts (q.a ⊝ q.b) (⊖ q.b)) tt

corner00 : (x q k : ℤ[ω]) → x -ω k *ω q ≡ x -ω q *ω (k +ω value (pos 0) (pos 0))
unfolding ◌+ω◌ ◌-ω◌ ◌*ω◌
corner00 = ringω 3 (λ x q k. x ⊟ k ⊠ q ≐ x ⊟ q ⊠ (k ⊞ conω (value (pos 0) (pos 0)))) tt

pub first_corner_is : (q x : ℤ[ω]) → x -ω value (shr_z (left q x) (norm q)) (shr_z (right q x) (norm q)) *ω q ≡ corner q x 0 0
unfolding corner cell
first_corner_is q x =
    ap (λ (y : ℤ[ω]). x -ω value (shr_z y.a (norm q)) (shr_z y.b (norm q)) *ω q) (parts_are q x) ∙ corner00 x q (cell q x)

-- ---- the first corner is small, since α and β are below n

module _ (q x : ℤ[ω]) (nonzero : q ≢ 𝟘) where
  below : (y : ℤ) → nat_abs (pos (floor_rest y (norm q)) -ℤ (pos (norm q) *ℤ pos 0)) ≤ norm q
  below y =
      omega (arith, natAbs-- (pos (floor_rest y (norm q))) (pos (norm q) *ℤ pos 0), floor_rest_lt y (norm q) (norm_pos q nonzero))

  corner-norm : norm (corner q x 0 0) ≤ 3 * norm q
  corner-norm =
      le_of_mul-le-mul_right
      (omega (arith, corner_scaled q x nonzero 0 0, norm-bound (offset (norm q) (α q x) (β q x) (pos 0) (pos 0)) (norm q) (below _) (below _), mul_assoc 3 (norm q) (norm q)))
      (norm_pos q nonzero)

  pub corner_size : nat_abs q.a ≤ 4095 → nat_abs q.b ≤ 4095 → (nat_abs (corner q x 0 0).a ≤ 2 ^ 14) × (nat_abs (corner q x 0 0).b ≤ 2 ^ 14)
  corner_size h k =
      let n : norm (corner q x 0 0) ≤ 9 * (4095 * 4095) = omega (arith, corner-norm, norm-bound q 4095 h k) in
      (square_le (omega (arith, part_a (corner q x 0 0))), square_le (omega (arith, part_b (corner q x 0 0))))
