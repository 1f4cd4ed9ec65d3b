-- `unbeaten` meets its contract: no step overflows, and each call tests the neighbour that is meant.
use mathlib.Core.Path.{◌≡◌, sym, ◌∙◌, ap, ap₂}
use mathlib.Core.Bool.{Bool}
use mathlib.Core.List.{List, [], ◌∷◌}
use Prim.Native.Nat.{ℕ, ◌^◌, ◌≤◌}
use native.Mathlib.Omega.{arith}
use lib.Dec.{T, lit<}
use lib.IntN.{ℤ, pos, nat_abs}
use mir.Syntax.{w16, w64}
use mir.Val.{to_z, of_z}
use mir.Facts.{to_z-of_z}
use Rattle.integers.proofs.Ring.{Expr, var, con, ◌⊕◌, ◌⊝◌, ◌⊗◌, ◌⊜◌, eval, holds, sound}
use Rattle.integers.proofs.Machine.{Leaf, given, sfits_within, meanings, reading, stored, safe, fits, exact, size_read, narrow_fits}
use Rattle.eisenstein.specs.Values.{ℤ[ω], value, norm, unit, ◌*ω◌}
use Rattle.eisenstein.proofs.Solver.{Exprω, parts, conω, ◌⊠◌}
use Rattle.eisenstein.proofs.Norms.{norm-bound, trace}
use Rattle.own_remainders.specs.Neighbours.{lead, within}
use Rattle.own_remainders.proofs.Neighbours.{traceᵉ, both_tested, beaten_0, beaten_2, decided_by_1}
use Rattle.own_remainders.proofs.unbeaten.Goals as goal
use Rattle.own_remainders.proofs.unbeaten.Goals.{After-from-n, then-as_good, else-as_good}

abbrev q : After-from-n → ℤ[ω]
q c = value c.args.q.a c.args.q.b

abbrev r : After-from-n → ℤ[ω]
r c = value c.args.r.a c.args.r.b

-- a part of q, as `norm` is handed it
narrow : (z : ℤ) → nat_abs z ≤ 4095 → to_z w16 (of_z w16 (to_z w64 (of_z w64 z))) ≡ z
narrow z h =
    let f = sfits_within {w = w64} z h (lit< tt) in
    to_z-of_z {w = w16} (narrow_fits f h (lit< tt)) ∙ to_z-of_z f

n_is : (c : After-from-n) → c.from-n.result ≡ pos (norm (q c))
n_is c = c.from-n.ensures ∙ ap pos (c.norm.ensures ∙ ap₂ (λ (u v : ℤ). norm (value u v)) (narrow c.args.q.a c.requires.2) (narrow c.args.q.b c.requires.3))

-- the numbers that the code starts from, and n after them
abbrev ρ : After-from-n → List Leaf
ρ c =
    given c.args.r.a (2 ^ 31) c.requires.0
    ∷ given c.args.r.b (2 ^ 31) c.requires.1
    ∷ given c.args.q.a 4095 c.requires.2
    ∷ given c.args.q.b 4095 c.requires.3
    ∷ record {
      code = c.from-n.result;
      meant = pos (norm (q c));
      bound = 2 ^ 26;
      is = n_is c;
      small = omega (arith, norm-bound (q c) 4095 c.requires.2 c.requires.3);
    }
    ∷ []

abbrev a : Expr
a = var 0

abbrev b : Expr
b = var 1

abbrev c' : Expr
c' = var 2

abbrev d : Expr
d = var 3

abbrev n : Expr
n = var 4

abbrev 0' : Expr
0' = con (pos 0)

abbrev e : Expr
e = c' ⊕ c' ⊝ d

abbrev x : Expr
x = a ⊗ e ⊕ b ⊗ (d ⊕ d ⊝ c')

abbrev y : Expr
y = b ⊗ e ⊝ a ⊗ (c' ⊕ d)

-- q times unit k
abbrev w : ℕ → Exprω
w k = parts c' d ⊠ conω (unit k)

abbrev read : After-from-n → Expr → ℤ
read c f = reading w64 f (stored w64 (ρ c) f)

abbrev test : After-from-n → ℕ → Bool
test c k = both_tested (q c) (r c) k

-- a call's test of t and (u, v), as the code has them, is that of r less and plus q times unit k
is_test : (c : After-from-n) (k : ℕ) (t u v : Expr) → T (safe w64 (ρ c) t) → T (safe w64 (ρ c) u) → T (safe w64 (ρ c) v) → T (holds (t ⊜ traceᵉ (parts a b) (w k))) → T (holds (u ⊜ (w k).a)) → T (holds (v ⊜ (w k).b)) → within (read c t) (read c n) (lead (read c u) (read c v)) ≡ test c k
unfolding ◌*ω◌
is_test c k t u v t-safe u-safe v-safe t-holds u-holds v-holds =
    ap₂ (λ (y m : ℤ). within y m (lead (read c u) (read c v))) (is t (traceᵉ (parts a b) (w k)) t-safe t-holds) (exact w64 (ρ c) n tt)
    ∙ ap₂ (λ (a b : ℤ). within (trace (r c) (q c *ω unit k)) (pos (norm (q c))) (lead a b)) (is u (w k).a u-safe u-holds) (is v (w k).b v-safe v-holds)
  where
    is : (f g : Expr) → T (safe w64 (ρ c) f) → T (holds (f ⊜ g)) → read c f ≡ eval (meanings (ρ c)) g
    is f g s h = exact w64 (ρ c) f s ∙ sound (meanings (ρ c)) (f ⊜ g) h

-- the norm, as each call is handed it
n_small : (c : After-from-n) → nat_abs (read c n) ≤ 2 ^ 26
n_small c = size_read w64 (ρ c) n (2 ^ 26) tt tt

test_0 : (c : After-from-n) → within (read c x) (read c n) (lead c.args.q.a c.args.q.b) ≡ test c 0
unfolding unit
test_0 c =
    ap₂ (λ (a b : ℤ). within (read c x) (read c n) (lead a b)) (sym (exact w64 (ρ c) c' tt)) (sym (exact w64 (ρ c) d tt))
    ∙ is_test c 0 x c' d tt tt tt tt tt tt

test_2 : (c : After-from-n) → within (read c y) (read c n) (lead (read c (0' ⊝ d)) (read c (c' ⊝ d))) ≡ test c 2
unfolding unit
test_2 c = is_test c 2 y (0' ⊝ d) (c' ⊝ d) tt tt tt tt tt tt

test_1 : (c : After-from-n) → within (read c (x ⊕ y)) (read c n) (lead (read c (c' ⊝ d)) (read c c')) ≡ test c 1
unfolding unit
test_1 c = is_test c 1 (x ⊕ y) (c' ⊝ d) c' tt tt tt tt tt tt

pub overflow_mul-x : goal.overflow_mul-x
overflow_mul-x c = fits w64 (ρ (goal.at.overflow_mul-x c).After-from-n) (a ⊗ e) tt

pub overflow_mul-x-2 : goal.overflow_mul-x-2
overflow_mul-x-2 c = fits w64 (ρ (goal.at.overflow_mul-x-2 c).After-from-n) (b ⊗ (d ⊕ d ⊝ c')) tt

pub overflow_add-x-2 : goal.overflow_add-x-2
overflow_add-x-2 c = fits w64 (ρ (goal.at.overflow_add-x-2 c).After-from-n) x tt

pub overflow_mul-y : goal.overflow_mul-y
overflow_mul-y c = fits w64 (ρ (goal.at.overflow_mul-y c).After-from-n) (b ⊗ e) tt

pub overflow_mul-y-2 : goal.overflow_mul-y-2
overflow_mul-y-2 c = fits w64 (ρ (goal.at.overflow_mul-y-2 c).After-from-n) (a ⊗ (c' ⊕ d)) tt

pub overflow_sub-y : goal.overflow_sub-y
overflow_sub-y c = fits w64 (ρ (goal.at.overflow_sub-y c).After-from-n) y tt

pub as_good-requires : goal.as_good-requires
as_good-requires c = n_small (goal.at.as_good-requires c).After-from-n

pub as_good-requires-then-as_good : goal.as_good-requires-then-as_good
as_good-requires-then-as_good c = n_small (goal.at.as_good-requires-then-as_good c).After-from-n

pub overflow_add-x-then-as_good-2 : goal.overflow_add-x-then-as_good-2
overflow_add-x-then-as_good-2 c = fits w64 (ρ (goal.at.overflow_add-x-then-as_good-2 c).After-from-n) (x ⊕ y) tt

pub as_good-requires-then-as_good-2 : goal.as_good-requires-then-as_good-2
as_good-requires-then-as_good-2 c = n_small (goal.at.as_good-requires-then-as_good-2 c).After-from-n

pub returns-then-as_good-2 : goal.returns-then-as_good-2
returns-then-as_good-2 c =
    let s = (goal.at.returns-then-as_good-2 c).After-from-n in
    elim c.if-as_good.branch [
      | then-as_good w ↦ c.as_good-then-as_good-2.ensures
          ∙ test_1 s
          ∙ decided_by_1 (q s) (r s) s.requires.4
          (sym (c.as_good.ensures ∙ test_0 s) ∙ w.if-as_good.true)
          (sym (w.as_good-then-as_good.ensures ∙ test_2 s) ∙ sym w.value-is ∙ c.if-as_good-2.true)
      | else-as_good w ↦ cc (w.value-is, w.if-as_good.false, c.if-as_good-2.true)
    ]

pub returns-else-as_good-2 : goal.returns-else-as_good-2
returns-else-as_good-2 c =
    let s = (goal.at.returns-else-as_good-2 c).After-from-n in
    c.if-as_good-2.false
    ∙ elim c.if-as_good.branch [
      | then-as_good w ↦ sym (beaten_2 (q s) (r s) s.requires.4 (sym (w.as_good-then-as_good.ensures ∙ test_2 s) ∙ sym w.value-is ∙ c.if-as_good-2.false))
      | else-as_good w ↦ sym (beaten_0 (q s) (r s) s.requires.4 (sym (c.as_good.ensures ∙ test_0 s) ∙ w.if-as_good.false))
    ]
