-- A solver for identities of the ring Z[ω]: the solver of ℤ at both parts.
-- One use: `assoc : (x y z : ℤ[ω]) → (x *ω y) *ω z ≡ x *ω (y *ω z)`, under `unfolding ◌*ω◌`, is `ringω 3 (λ x y z. (x ⊠ y) ⊠ z ≐ x ⊠ (y ⊠ z)) tt`.
use mathlib.Core.Path.{◌≡◌, ap₂}
use mathlib.Core.Bool.{Bool, ◌&&◌}
use mathlib.Core.List.{List, [], ◌∷◌, ◌++◌}
use Prim.Native.Nat.{ℕ, zero, suc}
use lib.Dec.{T}
use lib.IntN.{ℤ}
use mir.Facts.{and_yes}
use Rattle.integers.proofs.Ring.{Expr, var, con, ◌⊕◌, ◌⊝◌, ◌⊗◌, ◌⊜◌, eval, holds, sound}
use Rattle.eisenstein.specs.Values.{ℤ[ω], value}

pub record Exprω : Type 0 where
  pub a : Expr
  pub b : Expr

infixl 60 ◌⊞◌ ◌⊟◌
infixl 70 ◌⊠◌
infix 40 ◌≐◌
abbrev pub parts : Expr → Expr → Exprω
parts a b = record { a = a; b = b }

abbrev pub ◌⊞◌ : Exprω → Exprω → Exprω
x ⊞ y = parts (x.a ⊕ y.a) (x.b ⊕ y.b)

abbrev pub ◌⊟◌ : Exprω → Exprω → Exprω
x ⊟ y = parts (x.a ⊝ y.a) (x.b ⊝ y.b)

abbrev pub ◌⊠◌ : Exprω → Exprω → Exprω
x ⊠ y = parts (x.a ⊗ y.a ⊝ x.b ⊗ y.b) (x.a ⊗ y.b ⊕ x.b ⊗ y.a ⊝ x.b ⊗ y.b)

abbrev pub conω : ℤ[ω] → Exprω
conω x = parts (con x.a) (con x.b)

pub record Equationω : Type 0 where
  pub left : Exprω
  pub right : Exprω

abbrev pub ◌≐◌ : Exprω → Exprω → Equationω
x ≐ y = record { left = x; right = y }

abbrev pub evalω : List ℤ → Exprω → ℤ[ω]
evalω ρ x = value (eval ρ x.a) (eval ρ x.b)

abbrev pub holdsω : Equationω → Bool
holdsω e = holds (e.left.a ⊜ e.right.a) && holds (e.left.b ⊜ e.right.b)

abbrev pub Funω : ℕ → Type 0
Funω zero = Equationω
Funω (suc n) = Exprω → Funω n

-- value k of a list has the variables 2k and 2k + 1
abbrev pub equationω : (n i : ℕ) → Funω n → Equationω
equationω zero i e = e
equationω (suc n) i f = equationω n (suc (suc i)) (f (parts (var i) (var (suc i))))

abbrev pub Identityω : ℕ → List ℤ → Equationω → Type 0
Identityω zero ρ e = evalω ρ e.left ≡ evalω ρ e.right
Identityω (suc n) ρ e = (x : ℤ[ω]) → Identityω n (ρ ++ (x.a ∷ x.b ∷ [])) e

identityω : (n : ℕ) (ρ : List ℤ) (e : Equationω) → T (holdsω e) → Identityω n ρ e
identityω zero ρ e t =
    let h = and_yes (holds (e.left.a ⊜ e.right.a)) (holds (e.left.b ⊜ e.right.b)) t in
    ap₂ value (sound ρ (e.left.a ⊜ e.right.a) h.0) (sound ρ (e.left.b ⊜ e.right.b) h.1)
identityω (suc n) ρ e t = λ x. identityω n (ρ ++ (x.a ∷ x.b ∷ [])) e t

pub ringω : (n : ℕ) (f : Funω n) → T (holdsω (equationω n 0 f)) → Identityω n [] (equationω n 0 f)
ringω n f t = identityω n [] (equationω n 0 f) t
