-- Document 01, 'The ring': the values of Z[ω], their sum, product and norm, the six units, and classes modulo q.
use Rattle.std.specs.Prelude.{◌≡◌, Bool, false, ◌&&◌, List, [], ◌∷◌, ℕ, eqb, get_or, ℤ, pos, negsuc, nat_abs, ◌+ℤ◌, ◌-ℤ◌, ◌*ℤ◌}

-- "A value a + bω is the pair (a, b) of its parts."
pub record ℤ[ω] : Type 0 where
  pub a : ℤ
  pub b : ℤ

abbrev pub value : ℤ → ℤ → ℤ[ω]
value a b = record { a = a; b = b }

abbrev pub 𝟘 : ℤ[ω]
𝟘 = value (pos 0) (pos 0)

infixl 6 ◌+ω◌ ◌-ω◌
infixl 7 ◌*ω◌
unfoldable pub ◌+ω◌ : ℤ[ω] → ℤ[ω] → ℤ[ω]
x +ω y = value (x.a +ℤ y.a) (x.b +ℤ y.b)

unfoldable pub ◌-ω◌ : ℤ[ω] → ℤ[ω] → ℤ[ω]
x -ω y = value (x.a -ℤ y.a) (x.b -ℤ y.b)

-- "The product of (a, b) and (c, d) is (ac − bd, ad + bc − bd)."
unfoldable pub ◌*ω◌ : ℤ[ω] → ℤ[ω] → ℤ[ω]
x *ω y = value ((x.a *ℤ y.a) -ℤ (x.b *ℤ y.b)) (((x.a *ℤ y.b) +ℤ (x.b *ℤ y.a)) -ℤ (x.b *ℤ y.b))

-- "Its norm is a² − ab + b²": never negative, so a natural number.
unfoldable pub norm : ℤ[ω] → ℕ
norm x = nat_abs (((x.a *ℤ x.a) -ℤ (x.a *ℤ x.b)) +ℤ (x.b *ℤ x.b))

-- "The six units are numbered 0 to 5."
abbrev pub units : List ℤ[ω]
units =
    value (pos 1) (pos 0)
    ∷ value (pos 1) (pos 1)
    ∷ value (pos 0) (pos 1)
    ∷ value (negsuc 0) (pos 0)
    ∷ value (negsuc 0) (negsuc 0)
    ∷ value (pos 0) (negsuc 0)
    ∷ []

unfoldable pub unit : ℕ → ℤ[ω]
unit k = get_or units k 𝟘

-- x and y are of the same class modulo q.
pub record Congruent (q x y : ℤ[ω]) : Type 0 where
  pub quotient : ℤ[ω]
  pub equation : x ≡ y +ω q *ω quotient

-- Whether two values are the same.
unfoldable pub same_ℤ : ℤ → ℤ → Bool
same_ℤ (pos m) (pos n) = eqb m n
same_ℤ (pos m) (negsuc n) = false
same_ℤ (negsuc m) (pos n) = false
same_ℤ (negsuc m) (negsuc n) = eqb m n

unfoldable pub same : ℤ[ω] → ℤ[ω] → Bool
same x y = same_ℤ x.a y.a && same_ℤ x.b y.b
