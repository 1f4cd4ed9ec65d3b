-- The remainder modulo q: `mod_q` computes it, it is the only one and that of its whole class, and small values are their own.
use mathlib.Core.Path.{◌≡◌, sym, ◌∙◌, ap, ap₂, subst}
use mathlib.Core.Logic.{◌≢◌}
use Prim.Native.Nat.{ℕ, ◌*◌, ◌≤◌, ◌<◌}
use native.Mathlib.Omega.{arith}
use native.Mathlib.Decide.{dec_le, ℕ_discrete}
use native.Mathlib.Nat.{mul-le-mul_right, mul-le-mul_left, mul_assoc, le_of_mul-le-mul_right}
use lib.IntN.{ℤ, pos, nat_abs, ◌+ℤ◌, ◌-ℤ◌, ◌*ℤ◌}
use lib.Signed.{shr_z}
use Rattle.integers.proofs.Ring.{ring, ◌⊕◌, ◌⊝◌, ◌⊗◌, ⊖◌, ◌⊜◌}
use Rattle.integers.proofs.Absolute.{square_le}
use Rattle.integers.proofs.Floor.{floor, floor_rest, floor_rest_lt}
use Rattle.eisenstein.specs.Values.{ℤ[ω], value, 𝟘, ◌+ω◌, ◌-ω◌, ◌*ω◌, norm, Congruent}
use Rattle.eisenstein.specs.Reduction.{AsGood, smaller_norm, Remainder, conj, cell, corner, mod_q}
use Rattle.eisenstein.specs.Promises.{ModQIsRemainder, RemainderUnique, RemainderNorm, SmallIsRemainder}
use Rattle.eisenstein.proofs.Solver.{ringω, parts, ◌≐◌, ◌⊞◌, ◌⊟◌, ◌⊠◌}
use Rattle.eisenstein.proofs.Laws.{less_multiple, in_class_is, congruent_refl, congruent_sym, congruent_trans, *ω-zero, +ω-zero}
use Rattle.eisenstein.proofs.Norms.{form, norm_form, norm-*, norm-conj, norm_zero, norm-bound, part_a, part_b, parallelogram}
use Rattle.eisenstein.proofs.TieRule.{as_good_norm, as_good_refl, as_good_trans, as_good_antisym, best_good, best_ind}
use Rattle.eisenstein.proofs.Cover.{Corner, c00, c10, c01, c11, offset, Near, some_near, IsCorner, only_corners}

pub norm_pos : (q : ℤ[ω]) → q ≢ 𝟘 → 0 < norm q
norm_pos q h = go (ℕ_discrete (norm q) 0)
  where
    go : Dec (norm q ≡ 0) → 0 < norm q
    go (yes e) = absurd (h (norm_zero q e))
    go (no e) = omega arith

-- what x·conj(q) leaves over the norm of q, at each part
abbrev pub α : ℤ[ω] → ℤ[ω] → ℕ
α q x = floor_rest (x *ω conj q).a (norm q)

abbrev pub β : ℤ[ω] → ℤ[ω] → ℕ
β q x = floor_rest (x *ω conj q).b (norm q)

-- (x − q·z)·conj(q), part by part
times_conj : (x q z : ℤ[ω]) → (x -ω q *ω z) *ω conj q ≡ value ((x *ω conj q).a -ℤ (form q *ℤ z.a)) ((x *ω conj q).b -ℤ (form q *ℤ z.b))
unfolding ◌-ω◌ ◌*ω◌
times_conj =
    ringω 3
    (λ x q z. let c = parts (q.a ⊝ q.b) (⊖ q.b) in let f = q.a ⊗ q.a ⊝ q.a ⊗ q.b ⊕ q.b ⊗ q.b in (x ⊟ q ⊠ z) ⊠ c ≐ parts ((x ⊠ c).a ⊝ f ⊗ z.a) ((x ⊠ c).b ⊝ f ⊗ z.b))
    tt

shift : (n k r z : ℤ) → ((n *ℤ k) +ℤ r) -ℤ (n *ℤ z) ≡ r -ℤ (n *ℤ (z -ℤ k))
shift = ring 4 (λ n k r z. n ⊗ k ⊕ r ⊝ n ⊗ z ⊜ r ⊝ n ⊗ (z ⊝ k)) tt

part_shift : (n : ℕ) → 0 < n → (X z : ℤ) → X -ℤ (pos n *ℤ z) ≡ pos (floor_rest X n) -ℤ (pos n *ℤ (z -ℤ shr_z X n))
part_shift n h X z =
    ap (λ (y : ℤ). y -ℤ (pos n *ℤ z)) (floor X n h) ∙ shift (pos n) (shr_z X n) (pos (floor_rest X n)) z

module _ (q x : ℤ[ω]) (nonzero : q ≢ 𝟘) where
  n>0 : 0 < norm q
  n>0 = norm_pos q nonzero

  -- the norm of a value of the class, times n
  scaled : (z : ℤ[ω]) → norm (x -ω q *ω z) * norm q ≡ norm (offset (norm q) (α q x) (β q x) (z.a -ℤ (cell q x).a) (z.b -ℤ (cell q x).b))
  unfolding cell
  scaled z =
      ap (λ (m : ℕ). norm (x -ω q *ω z) * m) (sym (norm-conj q))
      ∙ sym (norm-* (x -ω q *ω z) (conj q))
      ∙ ap norm
      (times_conj x q z
      ∙ ap (λ (f : ℤ). value ((x *ω conj q).a -ℤ (f *ℤ z.a)) ((x *ω conj q).b -ℤ (f *ℤ z.b))) (norm_form q)
      ∙ ap₂ value (part_shift (norm q) n>0 (x *ω conj q).a z.a) (part_shift (norm q) n>0 (x *ω conj q).b z.b))

  index_is : (k i : ℤ) → (k +ℤ i) -ℤ k ≡ i
  index_is = ring 2 (λ k i. k ⊕ i ⊝ k ⊜ i) tt

  pub corner_scaled : (i j : ℕ) → norm (corner q x i j) * norm q ≡ norm (offset (norm q) (α q x) (β q x) (pos i) (pos j))
  unfolding corner ◌+ω◌
  corner_scaled i j =
      scaled (cell q x +ω value (pos i) (pos j))
      ∙ ap₂ (λ (u v : ℤ). norm (offset (norm q) (α q x) (β q x) u v)) (index_is (cell q x).a (pos i)) (index_is (cell q x).b (pos j))

  -- `mod_q` is as good as each corner
  as_good_as : {i j : ℕ} → Corner i j → AsGood (mod_q q x) (corner q x i j)
  unfolding mod_q
  as_good_as c00 = as_good_trans (best_good _ _).0 (best_good (corner q x 0 0) (corner q x 1 0)).0
  as_good_as c10 = as_good_trans (best_good _ _).0 (best_good (corner q x 0 0) (corner q x 1 0)).1
  as_good_as c01 = as_good_trans (best_good _ _).1 (best_good (corner q x 0 1) (corner q x 1 1)).0
  as_good_as c11 = as_good_trans (best_good _ _).1 (best_good (corner q x 0 1) (corner q x 1 1)).1

  mod_q_in_class : Congruent q x (mod_q q x)
  unfolding mod_q corner
  mod_q_in_class = best_ind (Congruent q x) (best_ind (Congruent q x) (at 0 0) (at 1 0)) (best_ind (Congruent q x) (at 0 1) (at 1 1))
    where
      at : (i j : ℕ) → Congruent q x (corner q x i j)
      at i j = less_multiple q x (cell q x +ω value (pos i) (pos j))

  mod_q-norm : 3 * norm (mod_q q x) ≤ norm q
  mod_q-norm =
      le_of_mul-le-mul_right
      (omega (arith, near.near, corner_scaled near.i near.j, mul-le-mul_right (norm q) (as_good_norm (as_good_as near.corner)), mul_assoc 3 (norm (mod_q q x)) (norm q)))
      n>0
    where
      near : Near (norm q) (α q x) (β q x)
      near = some_near (norm q) (α q x) (β q x) (floor_rest_lt _ (norm q) n>0) (floor_rest_lt _ (norm q) n>0)

  -- a value of the class whose norm is at most a third of n is a corner
  add_back : (k z : ℤ) → z ≡ k +ℤ (z -ℤ k)
  add_back = ring 2 (λ k z. z ⊜ k ⊕ (z ⊝ k)) tt

  near_is_corner : (s : ℤ[ω]) → Congruent q x s → 3 * norm s ≤ norm q → AsGood (mod_q q x) s
  unfolding corner ◌+ω◌
  near_is_corner s c h =
      subst (AsGood (mod_q q x)) {x = corner q x k.i k.j} {y = s} (sym is_k) (as_good_as k.corner)
    where
      z : ℤ[ω]
      z = c.quotient

      k : IsCorner (z.a -ℤ (cell q x).a) (z.b -ℤ (cell q x).b)
      k =
          only_corners (norm q) (α q x) (β q x) (z.a -ℤ (cell q x).a) (z.b -ℤ (cell q x).b)
          (floor_rest_lt _ (norm q) n>0)
          (floor_rest_lt _ (norm q) n>0)
          (omega (arith, scaled z, mul-le-mul_right (norm q) h, mul_assoc 3 (norm s) (norm q), ap (λ (y : ℤ[ω]). norm y * norm q) (in_class_is c)))

      z_is : z ≡ cell q x +ω value (pos k.i) (pos k.j)
      z_is =
          ap₂ value (add_back (cell q x).a z.a ∙ ap (λ (u : ℤ). (cell q x).a +ℤ u) k.is_i)
          (add_back (cell q x).b z.b ∙ ap (λ (u : ℤ). (cell q x).b +ℤ u) k.is_j)

      is_k : s ≡ corner q x k.i k.j
      is_k = in_class_is c ∙ ap (λ (y : ℤ[ω]). x -ω q *ω y) z_is

  rival : (s : ℤ[ω]) → Congruent q x s → AsGood (mod_q q x) s
  rival s c = go (dec_le (3 * norm s) (norm q))
    where
      go : Dec (3 * norm s ≤ norm q) → AsGood (mod_q q x) s
      go (yes h) = near_is_corner s c h
      go (no h) = smaller_norm (omega (arith, mod_q-norm))

pub mod_q_is_remainder : ModQIsRemainder
mod_q_is_remainder q x h = record { in_class = mod_q_in_class q x h; as_good = rival q x h }

pub remainder_unique : RemainderUnique
remainder_unique q x r s h k = as_good_antisym (h.as_good s k.in_class) (k.as_good r h.in_class)

-- the values of a class have the same remainder
pub remainder_of_class : (q x y r : ℤ[ω]) → Congruent q x y → Remainder q y r → Remainder q x r
remainder_of_class q x y r c h = record {
  in_class = congruent_trans c h.in_class;
  as_good = λ s d. h.as_good s (congruent_trans (congruent_sym c) d);
}

pub mod_q_by_class : (q x r : ℤ[ω]) → q ≢ 𝟘 → Congruent q x r → Remainder q r r → mod_q q x ≡ r
mod_q_by_class q x r n c h = remainder_unique q x (mod_q q x) r (mod_q_is_remainder q x n) (remainder_of_class q x r r c h)

-- a remainder is its own
pub mod_q_twice : (q x : ℤ[ω]) → q ≢ 𝟘 → mod_q q (mod_q q x) ≡ mod_q q x
mod_q_twice q x n =
    let h = mod_q_is_remainder q x n in
    mod_q_by_class q (mod_q q x) (mod_q q x) n (congruent_refl q (mod_q q x)) (remainder_of_class q (mod_q q x) x (mod_q q x) (congruent_sym h.in_class) h)

pub remainder_norm : RemainderNorm
remainder_norm q x r h k =
    subst (λ (y : ℤ[ω]). 3 * norm y ≤ norm q) (remainder_unique q x (mod_q q x) r (mod_q_is_remainder q x h) k) (mod_q-norm q x h)

-- ---- small values

-- the difference of two values of a class is a multiple of q
pub difference : (x y : ℤ[ω]) → (x +ω y) -ω x ≡ y
unfolding ◌+ω◌ ◌-ω◌
difference = ringω 2 (λ x y. (x ⊞ y) ⊟ x ≐ y) tt

pub small_is_remainder : SmallIsRemainder
small_is_remainder q x h = record { in_class = congruent_refl q x; as_good = good }
  where
    far : (s z : ℤ[ω]) → x ≡ s +ω q *ω z → norm z ≢ 0 → AsGood x s
    far s z e f =
        smaller_norm
        (omega (arith, parallelogram x s, ap norm (ap (λ (y : ℤ[ω]). y -ω s) e ∙ difference s (q *ω z)), norm-* q z, mul-le-mul_left {m = 1} {n = norm z} (norm q) (omega arith)))

    good : (s : ℤ[ω]) → Congruent q x s → AsGood x s
    good s c = go (ℕ_discrete (norm c.quotient) 0)
      where
        go : Dec (norm c.quotient ≡ 0) → AsGood x s
        go (yes e) =
            subst (AsGood x) {x = x} {y = s}
            (c.equation ∙ ap (λ (z : ℤ[ω]). s +ω q *ω z) (norm_zero c.quotient e) ∙ ap (λ (y : ℤ[ω]). s +ω y) (*ω-zero q) ∙ +ω-zero s)
            (as_good_refl x)
        go (no e) = far s c.quotient c.equation e

-- ---- a remainder's parts are small where those of q are

part_size : (m v : ℕ) → 3 * (m * m) ≤ 4 * v → v ≤ 16769025 → m ≤ 5461
part_size m v h k = square_le (omega arith)

pub remainder_size : (q x r : ℤ[ω]) → q ≢ 𝟘 → nat_abs q.a ≤ 4095 → nat_abs q.b ≤ 4095 → Remainder q x r → (nat_abs r.a ≤ 5461) × (nat_abs r.b ≤ 5461)
remainder_size q x r h k l m =
    let n : norm r ≤ 16769025 = omega (arith, remainder_norm q x r h m, norm-bound q 4095 k l) in
    (part_size (nat_abs r.a) (norm r) (part_a r) n, part_size (nat_abs r.b) (norm r) (part_b r) n)
