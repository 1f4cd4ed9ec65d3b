-- The arrays of each kind, by its number.
use mathlib.Core.Path.{◌≡◌, refl, sym, ◌∙◌, ap, subst}
use mathlib.Core.Bool.{Bool, true, false, cond, ◌||◌}
use mathlib.Core.List.{List, [], ◌∷◌}
use mathlib.Core.Logic.{◌≢◌, ◌⊎◌, inl, inr}
use Prim.Native.Nat.{ℕ, zero, suc, ◌≤◌, ◌<◌}
use native.Mathlib.Decide.{ℕ_discrete}
use borrow.Author.Tests.{ne_eqb}
use lib.Dec.{T, lit≤, lit<, ltb, eqb, eqb→eq}
use lib.ListN.{length, get_or}
use mir.Facts.{or_yes}
use Rattle.array_sets.specs.declared.ArraySet.{ArraySet}
use Rattle.array_sets.specs.declared.ArraySet.TheVariants.{F, G, ReducedModulo2, ReducedModuloQ}
use Rattle.std.specs.Prelude.{Result, Ok, Err, is_ok}
use Rattle.refusals.specs.declared.Refusal.{Refusal}
use Rattle.heads.specs.declared.kinds.Kind.{Kind}
use Rattle.heads.specs.Kinds.{arrays_of, made_of_arrays, bundle_kind, known_kind, number_of_kind, KindOf}

pub public_arrays : (kind : ℕ) → kind ≡ 1 → arrays_of kind ≡ ReducedModuloQ ∷ []
unfolding arrays_of
public_arrays kind e = ap arrays_of e

pub private_arrays : (kind : ℕ) → kind ≡ 2 → arrays_of kind ≡ F ∷ ReducedModulo2 ∷ ReducedModuloQ ∷ G ∷ []
unfolding arrays_of
private_arrays kind e = ap arrays_of e

pub sealed_arrays : (kind : ℕ) → kind ≡ 3 → arrays_of kind ≡ ReducedModuloQ ∷ []
unfolding arrays_of
sealed_arrays kind e = ap arrays_of e

pub short_arrays : (kind : ℕ) → kind ≡ 5 → arrays_of kind ≡ ReducedModuloQ ∷ []
unfolding arrays_of
short_arrays kind e = ap arrays_of e

-- what is left after the tests for kinds 1, 2 and 3
abbrev from_5 : ℕ → List ArraySet
from_5 kind = cond (eqb kind 5) (ReducedModuloQ ∷ []) []

abbrev from_3 : ℕ → List ArraySet
from_3 kind = cond (eqb kind 3) (ReducedModuloQ ∷ []) (from_5 kind)

abbrev from_2 : ℕ → List ArraySet
from_2 kind = cond (eqb kind 2) (F ∷ ReducedModulo2 ∷ ReducedModuloQ ∷ G ∷ []) (from_3 kind)

pub no_arrays : (kind : ℕ) → kind ≢ 1 → kind ≢ 2 → kind ≢ 3 → kind ≢ 5 → arrays_of kind ≡ []
unfolding arrays_of
no_arrays kind e1 e2 e3 e5 =
    ap (λ (t : Bool). cond t (ReducedModuloQ ∷ []) (from_2 kind)) (ne_eqb kind 1 e1)
    ∙ ap (λ (t : Bool). cond t (F ∷ ReducedModulo2 ∷ ReducedModuloQ ∷ G ∷ []) (from_3 kind)) (ne_eqb kind 2 e2)
    ∙ ap (λ (t : Bool). cond t (ReducedModuloQ ∷ []) (from_5 kind)) (ne_eqb kind 3 e3)
    ∙ ap (λ (t : Bool). cond t (ReducedModuloQ ∷ []) []) (ne_eqb kind 5 e5)

-- what holds of each kind with its arrays, and of every number with none, holds of any number with its arrays
by_kind : (P : ℕ → List ArraySet → Type 0) → P 1 (arrays_of 1) → P 2 (arrays_of 2) → P 3 (arrays_of 3) → P 5 (arrays_of 5) → ((kind : ℕ) → P kind []) → (kind : ℕ) → P kind (arrays_of kind)
by_kind P p1 p2 p3 p5 none kind = go (ℕ_discrete kind 1) (ℕ_discrete kind 2) (ℕ_discrete kind 3) (ℕ_discrete kind 5)
  where
    at : (k : ℕ) → P k (arrays_of k) → kind ≡ k → P kind (arrays_of kind)
    at k h e = subst (λ (n : ℕ). P n (arrays_of n)) (sym e) h

    go : Dec (kind ≡ 1) → Dec (kind ≡ 2) → Dec (kind ≡ 3) → Dec (kind ≡ 5) → P kind (arrays_of kind)
    go (yes e) d f g = at 1 p1 e
    go (no e) (yes d) f g = at 2 p2 d
    go (no e) (no d) (yes f) g = at 3 p3 f
    go (no e) (no d) (no f) (yes g) = at 5 p5 g
    go (no e) (no d) (no f) (no g) = subst (P kind) (sym (no_arrays kind e d f g)) (none kind)

-- every kind but the second holds remainders only
pub remainders_only : (kind k : ℕ) → kind ≢ 2 → get_or (arrays_of kind) k ReducedModuloQ ≡ ReducedModuloQ
unfolding arrays_of
remainders_only kind k =
    by_kind (λ n l. n ≢ 2 → get_or l k ReducedModuloQ ≡ ReducedModuloQ) (λ _. single k) (λ n. absurd (n refl)) (λ _. single k) (λ _. single k) (λ n _. refl) kind
  where
    single : (k : ℕ) → get_or (ReducedModuloQ ∷ []) k ReducedModuloQ ≡ ReducedModuloQ
    single zero = refl
    single (suc k) = refl

-- the third array of kind 2 is of remainders, and there is no fifth
pub private_remainders : (k : ℕ) → k ≢ 0 → k ≢ 1 → k ≢ 3 → get_or (F ∷ ReducedModulo2 ∷ ReducedModuloQ ∷ G ∷ []) k ReducedModuloQ ≡ ReducedModuloQ
private_remainders zero e0 e1 e3 = absurd (e0 refl)
private_remainders (suc zero) e0 e1 e3 = absurd (e1 refl)
private_remainders (suc (suc zero)) e0 e1 e3 = refl
private_remainders (suc (suc (suc zero))) e0 e1 e3 = absurd (e3 refl)
private_remainders (suc (suc (suc (suc k)))) e0 e1 e3 = refl

-- a file holds at most four arrays
pub at_most_four : (kind : ℕ) → length (arrays_of kind) ≤ 4
unfolding arrays_of
at_most_four = by_kind (λ n l. length l ≤ 4) (lit≤ tt) (lit≤ tt) (lit≤ tt) (lit≤ tt) (λ n. lit≤ tt)

-- a kind fits into its byte of a head
of_arrays_small : (kind : ℕ) → T (made_of_arrays kind) → kind < 256
unfolding arrays_of
of_arrays_small = by_kind (λ n l. T (ltb 0 (length l)) → n < 256) (λ _. lit< tt) (λ _. lit< tt) (λ _. lit< tt) (λ _. lit< tt) (λ n h. absurd h)

pub kind_small : (kind : ℕ) → T (known_kind kind) → kind < 256
kind_small kind t = go (or_yes (made_of_arrays kind) (eqb kind bundle_kind) t)
  where
    go : T (made_of_arrays kind) ⊎ T (eqb kind bundle_kind) → kind < 256
    go (inl h) = of_arrays_small kind h
    go (inr h) = subst (λ (k : ℕ). k < 256) (sym (eqb→eq kind bundle_kind h)) (lit< tt)

-- ---- the kinds, each with its number

pub kind_known : (kind : Kind) → known_kind (number_of_kind kind) ≡ true
unfolding arrays_of
kind_known Kind.Public = refl
kind_known Kind.Private = refl
kind_known Kind.Sealed = refl
kind_known Kind.Bundle = refl
kind_known Kind.Short = refl

pub number_small : (kind : Kind) → number_of_kind kind < 256
number_small kind = kind_small (number_of_kind kind) (rw (kind_known kind) tt)

-- a number is known where it is found to be a kind's
pub kind_found : (number : ℕ) (r : Result Kind Refusal) → KindOf number r → is_ok r ≡ known_kind number
kind_found number (Ok kind) h = rw (← h) (sym (kind_known kind))
kind_found number (Err e) h = sym h.1

-- there are five kinds
pub no_kind : (kind : ℕ) → kind ≢ 1 → kind ≢ 2 → kind ≢ 3 → kind ≢ 4 → kind ≢ 5 → known_kind kind ≡ false
no_kind kind e1 e2 e3 e4 e5 =
    ap (λ (l : List ArraySet). ltb 0 (length l) || eqb kind bundle_kind) (no_arrays kind e1 e2 e3 e5) ∙ ne_eqb kind bundle_kind e4

-- a kind of arrays is known
pub of_arrays_known : (kind : ℕ) → T (made_of_arrays kind) → T (known_kind kind)
of_arrays_known kind t = go (made_of_arrays kind) t
  where
    go : (b : Bool) → T b → T (b || eqb kind bundle_kind)
    go true t = tt
    go false t = absurd t
