-- `Modulus::best_corner` meets its contract: no step overflows, and each corner is what is meant.
use mathlib.Core.Path.{refl, ◌∙◌, ap₂}
use mathlib.Core.List.{List, ◌∷◌}
use Prim.Native.Nat.{◌^◌}
use borrow.Author.Rules.{rules}
use lib.IntN.{ℤ, pos}
use mir.Syntax.{w64}
use Rattle.integers.proofs.Ring.{Expr, var, ◌⊕◌, ◌⊝◌, ◌⊗◌}
use Rattle.integers.proofs.Machine.{Leaf, given, reading, stored, fits, exact}
use Rattle.eisenstein.specs.Values.{ℤ[ω], value, norm}
use Rattle.eisenstein.specs.Reduction.{best}
use Rattle.eisenstein.proofs.Pairs.{pair_read}
use Rattle.remainders.proofs.Candidates.{Excess, excess_read, excess_00, excess_10, excess_01, excess_11, differ, picked}
use Rattle.remainders.proofs.Moduli.{value_of, leaves}
use Rattle.remainders.proofs.Modulus.best_corner.Goals as goal
use Rattle.remainders.proofs.Modulus.best_corner.Goals.{Start}

abbrev q : Start → ℤ[ω]
q s = value_of s.args.self

abbrev r : Start → ℤ[ω]
r s = value s.args.r.a s.args.r.b

abbrev ρ : Start → List Leaf
ρ s = given s.args.r.a (2 ^ 14) s.requires.0 ∷ given s.args.r.b (2 ^ 14) s.requires.1 ∷ leaves s.args.self

abbrev u : Expr
u = var 0

abbrev v : Expr
v = var 1

abbrev c' : Expr
c' = var 2

abbrev d : Expr
d = var 3

abbrev n : Expr
n = var 4

abbrev e : Expr
e = c' ⊕ c' ⊝ d

abbrev x : Expr
x = u ⊗ e ⊕ v ⊗ (d ⊕ d ⊝ c')

abbrev y : Expr
y = v ⊗ e ⊝ u ⊗ (c' ⊕ d)

abbrev read : Start → Expr → ℤ
read s f = reading w64 f (stored w64 (ρ s) f)

-- the excess of each corner over the first one
first : (s : Start) → Excess (norm (r s)) (value (read s u) (read s v)) (pos 0)
first s = excess_read (ap₂ value (exact w64 (ρ s) u tt) (exact w64 (ρ s) v tt)) refl (excess_00 (r s) (q s))

second : (s : Start) → Excess (norm (r s)) (value (read s (u ⊝ c')) (read s (v ⊝ d))) (read s (n ⊝ x))
second s =
    excess_read (ap₂ value (exact w64 (ρ s) (u ⊝ c') tt) (exact w64 (ρ s) (v ⊝ d) tt)) (exact w64 (ρ s) (n ⊝ x) tt) (excess_10 (r s) (q s))

third : (s : Start) → Excess (norm (r s)) (value (read s (u ⊕ d)) (read s (v ⊝ c' ⊕ d))) (read s (n ⊝ y))
third s =
    excess_read (ap₂ value (exact w64 (ρ s) (u ⊕ d) tt) (exact w64 (ρ s) (v ⊝ c' ⊕ d) tt)) (exact w64 (ρ s) (n ⊝ y) tt) (excess_01 (r s) (q s))

fourth : (s : Start) → Excess (norm (r s)) (value (read s (u ⊝ c' ⊕ d)) (read s (v ⊝ c'))) (read s (n ⊝ x ⊝ y))
fourth s =
    excess_read (ap₂ value (exact w64 (ρ s) (u ⊝ c' ⊕ d) tt) (exact w64 (ρ s) (v ⊝ c') tt)) (exact w64 (ρ s) (n ⊝ x ⊝ y) tt) (excess_11 (r s) (q s))

pub overflow_mul-x : goal.overflow_mul-x
overflow_mul-x c = fits w64 (ρ (goal.at.overflow_mul-x c).Start) (u ⊗ e) tt

pub overflow_mul-x-2 : goal.overflow_mul-x-2
overflow_mul-x-2 c = fits w64 (ρ (goal.at.overflow_mul-x-2 c).Start) (v ⊗ (d ⊕ d ⊝ c')) tt

pub overflow_add-x-2 : goal.overflow_add-x-2
overflow_add-x-2 c = fits w64 (ρ (goal.at.overflow_add-x-2 c).Start) x tt

pub overflow_mul-y : goal.overflow_mul-y
overflow_mul-y c = fits w64 (ρ (goal.at.overflow_mul-y c).Start) (v ⊗ e) tt

pub overflow_mul-y-2 : goal.overflow_mul-y-2
overflow_mul-y-2 c = fits w64 (ρ (goal.at.overflow_mul-y-2 c).Start) (u ⊗ (c' ⊕ d)) tt

pub overflow_sub-y : goal.overflow_sub-y
overflow_sub-y c = fits w64 (ρ (goal.at.overflow_sub-y c).Start) y tt

pub overflow_sub-self : goal.overflow_sub-self
overflow_sub-self c = fits w64 (ρ (goal.at.overflow_sub-self c).Start) (n ⊝ x) tt

pub best-lower-requires : goal.best-lower-requires
best-lower-requires c = let s = (goal.at.best-lower-requires c).Start in differ (first s) (second s)

pub overflow_sub-third-2 : goal.overflow_sub-third-2
overflow_sub-third-2 c = fits w64 (ρ (goal.at.overflow_sub-third-2 c).Start) (n ⊝ y) tt

pub overflow_sub-self-2 : goal.overflow_sub-self-2
overflow_sub-self-2 c = fits w64 (ρ (goal.at.overflow_sub-self-2 c).Start) (n ⊝ x) tt

pub overflow_sub-self-3 : goal.overflow_sub-self-3
overflow_sub-self-3 c = fits w64 (ρ (goal.at.overflow_sub-self-3 c).Start) (n ⊝ x ⊝ y) tt

pub best-upper-requires : goal.best-upper-requires
best-upper-requires c = let s = (goal.at.best-upper-requires c).Start in differ (third s) (fourth s)

pub best-found-requires : goal.best-found-requires
best-found-requires c =
    let s = (goal.at.best-found-requires c).Start in
    differ
    (excess_read c.best-lower.ensures.0 c.best-lower.ensures.1 (picked (Excess (norm (r s))) (first s) (second s)))
    (excess_read c.best-upper.ensures.0 c.best-upper.ensures.1 (picked (Excess (norm (r s))) (third s) (fourth s)))

pub returns : goal.returns
returns c =
    let ρ' = ρ (goal.at.returns c).Start in
    pair_read {w = w64} (search rules) (search rules)
    ∙ c.best-found.ensures.0
    ∙ ap₂ best
    (c.best-lower.ensures.0 ∙ ap₂ best (ap₂ value (exact w64 ρ' u tt) (exact w64 ρ' v tt)) (ap₂ value (exact w64 ρ' (u ⊝ c') tt) (exact w64 ρ' (v ⊝ d) tt)))
    (c.best-upper.ensures.0 ∙ ap₂ best (ap₂ value (exact w64 ρ' (u ⊕ d) tt) (exact w64 ρ' (v ⊝ c' ⊕ d) tt)) (ap₂ value (exact w64 ρ' (u ⊝ c' ⊕ d) tt) (exact w64 ρ' (v ⊝ c') tt)))
