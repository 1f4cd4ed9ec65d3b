-- Document 01, 'Reduction'.
use Rattle.std.specs.Prelude.{◌≡◌, Bool, cond, ◌&&◌, ◌||◌, ℕ, ◌%◌, ◌<◌, eqb, ltb, ℤ, pos, negsuc, nat_abs, neg_ℤ, ◌-ℤ◌, ◌<ℤ◌, ◌≤ℤ◌}
use Rattle.std.specs.Int.Signed.{lt_z, shr_z}
use Rattle.eisenstein.specs.Values.{ℤ[ω], value, ◌+ω◌, ◌-ω◌, ◌*ω◌, norm, Congruent, same_ℤ}

-- Modulo q: "the value of the same class with the smallest norm; of several, the one with the larger a, then the larger b".
-- r is at least as good as s:
pub data AsGood (r s : ℤ[ω]) : Type 0 where
  smaller_norm : norm r < norm s → AsGood r s
  larger_a : norm r ≡ norm s → s.a <ℤ r.a → AsGood r s
  larger_b : norm r ≡ norm s → s.a ≡ r.a → s.b ≤ℤ r.b → AsGood r s

-- r is the remainder of x modulo q:
pub record Remainder (q x r : ℤ[ω]) : Type 0 where
  pub in_class : Congruent q x r
  pub as_good : (s : ℤ[ω]) → Congruent q x s → AsGood r s

-- The remainder, computed: the best of the four values x − q·k whose k is a corner of the unit cell of Z[ω] that holds x/q.
-- x/q is x·conj(q) divided by the norm of q; shr_z divides by a natural number and rounds down.
abbrev pub conj : ℤ[ω] → ℤ[ω]
conj x = value (x.a -ℤ x.b) (neg_ℤ x.b)

unfoldable pub cell : ℤ[ω] → ℤ[ω] → ℤ[ω]
cell q x = value (shr_z (x *ω conj q).a (norm q)) (shr_z (x *ω conj q).b (norm q))

unfoldable pub corner : ℤ[ω] → ℤ[ω] → ℕ → ℕ → ℤ[ω]
corner q x i j = x -ω q *ω (cell q x +ω value (pos i) (pos j))

-- whether r is better than s
unfoldable pub better : ℤ[ω] → ℤ[ω] → Bool
better r s =
    ltb (norm r) (norm s)
    || (eqb (norm r) (norm s) && (lt_z s.a r.a || (same_ℤ s.a r.a && lt_z s.b r.b)))

unfoldable pub best : ℤ[ω] → ℤ[ω] → ℤ[ω]
best r s = cond (better s r) s r

unfoldable pub mod_q : ℤ[ω] → ℤ[ω] → ℤ[ω]
mod_q q x = best (best (corner q x 0 0) (corner q x 1 0)) (best (corner q x 0 1) (corner q x 1 1))

-- Modulo 2: "reduce each part to 0 or 1, then (1,1) becomes (−1,−1)".
unfoldable pub bit : ℤ → ℕ
bit z = nat_abs z % 2

unfoldable pub mod2 : ℤ[ω] → ℤ[ω]
mod2 x =
    cond (eqb (bit x.a) 1 && eqb (bit x.b) 1)
    (value (negsuc 0) (negsuc 0))
    (value (pos (bit x.a)) (pos (bit x.b)))
