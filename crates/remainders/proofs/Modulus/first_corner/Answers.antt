-- `Modulus::first_corner` meets its contract: no step overflows, and the parts are those of the first corner.
use mathlib.Core.Path.{◌≡◌, sym, ◌∙◌, ap₂, subst}
use mathlib.Core.List.{List, [], ◌∷◌}
use Prim.Native.Nat.{◌≤◌, ◌<◌, ◌^◌}
use native.Mathlib.Omega.{arith}
use lib.Dec.{T, leb, leb→le, lt→ltb, lit<}
use lib.IntN.{ℤ, pos, nat_abs, ◌*ℤ◌}
use lib.Signed.{◌<ℤ◌, lt_z_yes, mag, shr_z}
use mir.Syntax.{w64}
use mir.Val.{to_z, of_z}
use mir.Facts.{to_z-of_z}
use Rattle.integers.proofs.Ring.{Expr, var, ◌⊕◌, ◌⊝◌, ◌⊗◌, eval}
use Rattle.integers.proofs.Floor.{shr_z_times}
use Rattle.integers.proofs.Machine.{Leaf, given, meanings, reading, stored, limit, safe, fits, exact, size, size_read, sfits_within}
use Rattle.eisenstein.specs.declared.Wide.{Wide}
use Rattle.eisenstein.specs.Values.{ℤ[ω], value, norm, ◌-ω◌, ◌*ω◌}
use Rattle.eisenstein.proofs.Norms.{norm-bound, part_a_le, part_b_le}
use Rattle.eisenstein.proofs.Remainders.{norm_pos}
use Rattle.remainders.specs.declared.Modulus.{Modulus}
use Rattle.remainders.proofs.Corners.{first_corner_is, corner_size}
use Rattle.remainders.proofs.Moduli.{value_of, leaves}
use Rattle.remainders.proofs.Modulus.first_corner.Goals as goal
use Rattle.remainders.proofs.Modulus.first_corner.Goals.{After-floor_quotient-w}

-- what is required of x
abbrev Small : Wide → Type 0
Small x = (nat_abs x.a ≤ 2 ^ 40) × (nat_abs x.b ≤ 2 ^ 40)

abbrev ρ : (m : Modulus) (x : Wide) → Small x → List Leaf
ρ m x s = given x.a (2 ^ 40) s.0 ∷ given x.b (2 ^ 40) s.1 ∷ leaves m

abbrev a : Expr
a = var 0

abbrev b : Expr
b = var 1

abbrev c' : Expr
c' = var 2

abbrev d : Expr
d = var 3

abbrev n : Expr
n = var 4

abbrev left : Expr
left = a ⊗ (c' ⊝ d) ⊕ b ⊗ d

abbrev right : Expr
right = b ⊗ c' ⊝ a ⊗ d

module _ (m : Modulus) (x : Wide) (s : Small x) where
  -- the norm, as a call is handed it
  n_is : to_z w64 (of_z w64 m.norm) ≡ pos (norm (value_of m))
  n_is = exact w64 (ρ m x s) n tt

  n_positive : pos 0 <ℤ to_z w64 (of_z w64 m.norm)
  n_positive =
      subst (λ (y : ℤ). pos 0 <ℤ y) (sym n_is) (lt_z_yes {a = pos 0} {b = pos (norm (value_of m))} (lt→ltb 0 (norm (value_of m)) (norm_pos (value_of m) m.nonzero)))

  -- the quotient r of e by the norm, as a call returns it, times a part p of the modulus
  abbrev product : (e : Expr) → T (safe w64 (ρ m x s) e) → T (leb (limit (ρ m x s) e) (2 ^ 54)) → (p : ℤ) {r : ℤ} → r ≡ shr_z (reading w64 e (stored w64 (ρ m x s) e)) (nat_abs (to_z w64 (of_z w64 m.norm))) → mag r < 2 ^ 63 → nat_abs p ≤ 4095 → nat_abs p ≤ norm (value_of m) → Leaf
  product e t l p {r} is f g h = record {
    code = to_z w64 (of_z w64 r) *ℤ to_z w64 (of_z w64 p);
    meant = shr_z (eval (meanings (ρ m x s)) e) (norm (value_of m)) *ℤ p;
    bound = 2 ^ 55;
    is = ap₂ ◌*ℤ◌ (to_z-of_z {w = w64} (record { sfits = f }) ∙ is ∙ ap₂ (λ (y n : ℤ). shr_z y (nat_abs n)) (exact w64 (ρ m x s) e t) n_is) (to_z-of_z {w = w64} (sfits_within p g (lit< tt)));
    small = omega (arith, shr_z_times (eval (meanings (ρ m x s)) e) p h, size w64 (ρ m x s) e t, leb→le (limit (ρ m x s) e) (2 ^ 54) l, norm-bound (value_of m) 4095 m.c_in_range m.d_in_range);
  }

abbrev ρ' : After-floor_quotient-w → List Leaf
ρ' f =
    let m = f.args.self in
    let x = f.args.x in
    let s = f.requires in
    let z = f.floor_quotient-z in
    let w = f.floor_quotient-w in
    given x.a (2 ^ 40) s.0
    ∷ given x.b (2 ^ 40) s.1
    ∷ product m x s left tt tt m.c z.ensures z.type_inv m.c_in_range (part_a_le (value_of m))
    ∷ product m x s left tt tt m.d z.ensures z.type_inv m.d_in_range (part_b_le (value_of m))
    ∷ product m x s right tt tt m.c w.ensures w.type_inv m.c_in_range (part_a_le (value_of m))
    ∷ product m x s right tt tt m.d w.ensures w.type_inv m.d_in_range (part_b_le (value_of m))
    ∷ []

abbrev zc : Expr
zc = var 2

abbrev zd : Expr
zd = var 3

abbrev wc : Expr
wc = var 4

abbrev wd : Expr
wd = var 5

abbrev first_a : Expr
first_a = a ⊝ (zc ⊝ wd)

abbrev first_b : Expr
first_b = b ⊝ (zd ⊕ wc ⊝ wd)

pub overflow_mul-x : goal.overflow_mul-x
overflow_mul-x c = fits w64 (ρ c.args.self c.args.x c.requires) (a ⊗ (c' ⊝ d)) tt

pub overflow_mul-x-2 : goal.overflow_mul-x-2
overflow_mul-x-2 c = fits w64 (ρ c.args.self c.args.x c.requires) (b ⊗ d) tt

pub overflow_add-x : goal.overflow_add-x
overflow_add-x c = fits w64 (ρ c.args.self c.args.x c.requires) left tt

pub floor_quotient-z-requires : goal.floor_quotient-z-requires
floor_quotient-z-requires c = (size_read w64 (ρ c.args.self c.args.x c.requires) left (2 ^ 60) tt tt, n_positive c.args.self c.args.x c.requires)

pub overflow_mul-x-3 : goal.overflow_mul-x-3
overflow_mul-x-3 c = fits w64 (ρ c.args.self c.args.x c.requires) (b ⊗ c') tt

pub overflow_mul-x-4 : goal.overflow_mul-x-4
overflow_mul-x-4 c = fits w64 (ρ c.args.self c.args.x c.requires) (a ⊗ d) tt

pub overflow_sub-x : goal.overflow_sub-x
overflow_sub-x c = fits w64 (ρ c.args.self c.args.x c.requires) right tt

pub floor_quotient-w-requires : goal.floor_quotient-w-requires
floor_quotient-w-requires c = (size_read w64 (ρ c.args.self c.args.x c.requires) right (2 ^ 60) tt tt, n_positive c.args.self c.args.x c.requires)

pub overflow_mul-wd : goal.overflow_mul-wd
overflow_mul-wd c = fits w64 (ρ' (goal.at.overflow_mul-wd c).After-floor_quotient-w) wd tt

pub overflow_mul-result : goal.overflow_mul-result
overflow_mul-result c = fits w64 (ρ' (goal.at.overflow_mul-result c).After-floor_quotient-w) zc tt

pub overflow_sub-result : goal.overflow_sub-result
overflow_sub-result c = fits w64 (ρ' (goal.at.overflow_sub-result c).After-floor_quotient-w) (zc ⊝ wd) tt

pub overflow_sub-result-2 : goal.overflow_sub-result-2
overflow_sub-result-2 c = fits w64 (ρ' (goal.at.overflow_sub-result-2 c).After-floor_quotient-w) first_a tt

pub overflow_mul-result-2 : goal.overflow_mul-result-2
overflow_mul-result-2 c = fits w64 (ρ' (goal.at.overflow_mul-result-2 c).After-floor_quotient-w) zd tt

pub overflow_mul-result-3 : goal.overflow_mul-result-3
overflow_mul-result-3 c = fits w64 (ρ' (goal.at.overflow_mul-result-3 c).After-floor_quotient-w) wc tt

pub overflow_add-result : goal.overflow_add-result
overflow_add-result c = fits w64 (ρ' (goal.at.overflow_add-result c).After-floor_quotient-w) (zd ⊕ wc) tt

pub overflow_sub-result-3 : goal.overflow_sub-result-3
overflow_sub-result-3 c = fits w64 (ρ' (goal.at.overflow_sub-result-3 c).After-floor_quotient-w) (zd ⊕ wc ⊝ wd) tt

pub overflow_sub-result-4 : goal.overflow_sub-result-4
overflow_sub-result-4 c = fits w64 (ρ' (goal.at.overflow_sub-result-4 c).After-floor_quotient-w) first_b tt

pub returns : goal.returns
unfolding ◌-ω◌ ◌*ω◌
returns c =
    let ρ'' = ρ' (goal.at.returns c).After-floor_quotient-w in
    let m = c.args.self in
    let x = value c.args.x.a c.args.x.b in
    let e = ap₂ value (exact w64 ρ'' first_a tt) (exact w64 ρ'' first_b tt) ∙ first_corner_is (value_of m) x in
    let (h, k) = corner_size (value_of m) x m.nonzero m.c_in_range m.d_in_range in
    (e, subst (λ (r : ℤ[ω]). nat_abs r.a ≤ 2 ^ 14) (sym e) h, subst (λ (r : ℤ[ω]). nat_abs r.b ≤ 2 ^ 14) (sym e) k)
