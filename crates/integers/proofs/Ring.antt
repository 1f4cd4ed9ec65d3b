-- A solver for identities of the ring ℤ. An expression is brought to a Horner form, `hrn a p` being a + x₀·p with `a` in the later variables; an identity holds where the form of the difference of its two sides is zero, which antt computes.
-- One use: `square : (a b : ℤ) → (a +ℤ b) *ℤ (a +ℤ b) ≡ ((a *ℤ a) +ℤ (num 2 *ℤ (a *ℤ b))) +ℤ (b *ℤ b)` is `ring 2 (λ a b. (a ⊕ b) ⊗ (a ⊕ b) ⊜ a ⊗ a ⊕ con (pos 2) ⊗ (a ⊗ b) ⊕ b ⊗ b) tt`.
use mathlib.Core.Path.{◌≡◌, refl, sym, ◌∙◌, ap}
use mathlib.Core.Bool.{Bool, false, ◌&&◌}
use mathlib.Core.List.{List, [], ◌∷◌, ◌++◌}
use Prim.Native.Nat.{ℕ, zero, suc}
use lib.Dec.{T, eqb, eqb→eq}
use lib.IntN.{ℤ, pos, negsuc, neg_ℤ, ◌+ℤ◌, ◌-ℤ◌, ◌*ℤ◌, +ℤ_assoc, +ℤ_comm, +ℤ_idl, +ℤ_idr, *ℤ-zero, *ℤ_comm, neg_ℤ-+ℤ, -ℤ-+ℤ_cancel}
use mir.Facts.{and_yes}
use Rattle.integers.proofs.Laws.{distrib_right, distrib_left, *ℤ_assoc, exchange, *ℤ_neg}

infixl 60 ◌⊕◌ ◌⊝◌
infixl 70 ◌⊗◌
infix 80 ⊖◌
infix 40 ◌⊜◌
pub data Expr : Type 0 where
  var : ℕ → Expr
  con : ℤ → Expr
  ◌⊕◌ : Expr → Expr → Expr
  ◌⊝◌ : Expr → Expr → Expr
  ◌⊗◌ : Expr → Expr → Expr
  ⊖◌ : Expr → Expr

pub record Equation : Type 0 where
  pub left : Expr
  pub right : Expr

abbrev pub ◌⊜◌ : Expr → Expr → Equation
a ⊜ b = record { left = a; right = b }

-- ---- the value of an expression where variable i is the i-th number of a list

abbrev pub at : List ℤ → ℕ → ℤ
at [] i = pos 0
at (x ∷ ρ) zero = x
at (x ∷ ρ) (suc i) = at ρ i

abbrev pub eval : List ℤ → Expr → ℤ
eval ρ (var i) = at ρ i
eval ρ (con c) = c
eval ρ (a ⊕ b) = eval ρ a +ℤ eval ρ b
eval ρ (a ⊝ b) = eval ρ a -ℤ eval ρ b
eval ρ (a ⊗ b) = eval ρ a *ℤ eval ρ b
eval ρ (⊖ a) = neg_ℤ (eval ρ a)

-- ---- Horner forms

pub data Form : Type 0 where
  cst : ℤ → Form
  hrn : Form → Form → Form

head : List ℤ → ℤ
head [] = pos 0
head (x ∷ ρ) = x

tail : List ℤ → List ℤ
tail [] = []
tail (x ∷ ρ) = ρ

value : List ℤ → Form → ℤ
value ρ (cst c) = c
value ρ (hrn a p) = value (tail ρ) a +ℤ (head ρ *ℤ value ρ p)

abbrev variable : ℕ → Form
variable zero = hrn (cst (pos 0)) (cst (pos 1))
variable (suc i) = hrn (variable i) (cst (pos 0))

abbrev addc : ℤ → Form → Form
addc c (cst d) = cst (c +ℤ d)
addc c (hrn a p) = hrn (addc c a) p

abbrev add : Form → Form → Form
add (cst c) q = addc c q
add (hrn a p) (cst d) = hrn (addc d a) p
add (hrn a p) (hrn b q) = hrn (add a b) (add p q)

abbrev neg : Form → Form
neg (cst c) = cst (neg_ℤ c)
neg (hrn a p) = hrn (neg a) (neg p)

abbrev mulc : ℤ → Form → Form
mulc c (cst d) = cst (c *ℤ d)
mulc c (hrn a p) = hrn (mulc c a) (mulc c p)

-- f at each coefficient of the powers of x₀
abbrev each : (Form → Form) → Form → Form
each f (cst d) = hrn (f (cst d)) (cst (pos 0))
each f (hrn b q) = hrn (f b) (each f q)

abbrev mul : Form → Form → Form
mul (cst c) q = mulc c q
mul (hrn a p) q = add (each (λ r. mul a r) q) (hrn (cst (pos 0)) (mul p q))

abbrev form : Expr → Form
form (var i) = variable i
form (con c) = cst c
form (a ⊕ b) = add (form a) (form b)
form (a ⊝ b) = add (form a) (neg (form b))
form (a ⊗ b) = mul (form a) (form b)
form (⊖ a) = neg (form a)

abbrev is_zero_ℤ : ℤ → Bool
is_zero_ℤ (pos n) = eqb n 0
is_zero_ℤ (negsuc n) = false

abbrev is_zero : Form → Bool
is_zero (cst c) = is_zero_ℤ c
is_zero (hrn a p) = is_zero a && is_zero p

abbrev pub holds : Equation → Bool
holds e = is_zero (form (e.left ⊝ e.right))

-- ---- each operation on forms has the value of the operation on numbers

*-one : (x : ℤ) → x *ℤ pos 1 ≡ x
*-one x = *ℤ_comm x (pos 1) ∙ one-* x
  where
    one-* : (x : ℤ) → pos 1 *ℤ x ≡ x
    one-* (pos n) = ap pos (native.Mathlib.Nat.one-mul n)
    one-* (negsuc n) = ap (λ (m : ℕ). neg_ℤ (pos m)) (native.Mathlib.Nat.one-mul (suc n))

variable_value : (ρ : List ℤ) (i : ℕ) → value ρ (variable i) ≡ at ρ i
unfolding value head tail
variable_value [] zero = ap (λ (x : ℤ). pos 0 +ℤ x) (*-one (pos 0))
variable_value [] (suc i) = ap (λ (x : ℤ). x +ℤ (pos 0 *ℤ pos 0)) (variable_value [] i)
variable_value (x ∷ ρ) zero = +ℤ_idl (x *ℤ pos 1) ∙ *-one x
variable_value (x ∷ ρ) (suc i) = ap (λ (y : ℤ). value ρ (variable i) +ℤ y) (*ℤ-zero x) ∙ +ℤ_idr (value ρ (variable i)) ∙ variable_value ρ i

addc_value : (ρ : List ℤ) (c : ℤ) (p : Form) → value ρ (addc c p) ≡ c +ℤ value ρ p
unfolding value
addc_value ρ c (cst d) = refl
addc_value ρ c (hrn a p) =
    ap (λ (y : ℤ). y +ℤ (head ρ *ℤ value ρ p)) (addc_value (tail ρ) c a) ∙ +ℤ_assoc c (value (tail ρ) a) (head ρ *ℤ value ρ p)

add_value : (ρ : List ℤ) (p q : Form) → value ρ (add p q) ≡ value ρ p +ℤ value ρ q
unfolding value
add_value ρ (cst c) q = addc_value ρ c q
add_value ρ (hrn a p) (cst d) =
    ap (λ (y : ℤ). y +ℤ (head ρ *ℤ value ρ p)) (addc_value (tail ρ) d a) ∙ +ℤ_assoc d (value (tail ρ) a) (head ρ *ℤ value ρ p)
    ∙ +ℤ_comm d (value (tail ρ) a +ℤ (head ρ *ℤ value ρ p))
add_value ρ (hrn a p) (hrn b q) =
    cc (add_value (tail ρ) a b, add_value ρ p q)
    ∙ ap (λ (y : ℤ). (value (tail ρ) a +ℤ value (tail ρ) b) +ℤ y) (distrib_left (head ρ) (value ρ p) (value ρ q))
    ∙ exchange (value (tail ρ) a) (value (tail ρ) b) (head ρ *ℤ value ρ p) (head ρ *ℤ value ρ q)

neg_value : (ρ : List ℤ) (p : Form) → value ρ (neg p) ≡ neg_ℤ (value ρ p)
unfolding value
neg_value ρ (cst c) = refl
neg_value ρ (hrn a p) =
    cc (neg_value (tail ρ) a, neg_value ρ p, *ℤ_neg (head ρ) (value ρ p))
    ∙ sym (neg_ℤ-+ℤ (value (tail ρ) a) (head ρ *ℤ value ρ p))

-- a factor passes x₀
past : (c x v : ℤ) → x *ℤ (c *ℤ v) ≡ c *ℤ (x *ℤ v)
past c x v = sym (*ℤ_assoc x c v) ∙ ap (λ (y : ℤ). y *ℤ v) (*ℤ_comm x c) ∙ *ℤ_assoc c x v

mulc_value : (ρ : List ℤ) (c : ℤ) (p : Form) → value ρ (mulc c p) ≡ c *ℤ value ρ p
unfolding value
mulc_value ρ c (cst d) = refl
mulc_value ρ c (hrn a p) =
    cc (mulc_value (tail ρ) c a, mulc_value ρ c p, past c (head ρ) (value ρ p))
    ∙ sym (distrib_left c (value (tail ρ) a) (head ρ *ℤ value ρ p))

each_value : (ρ : List ℤ) (f : Form → Form) (v : ℤ) → ((r : Form) → value (tail ρ) (f r) ≡ v *ℤ value (tail ρ) r) → (q : Form) → value ρ (each f q) ≡ v *ℤ value ρ q
unfolding value
each_value ρ f v h (cst d) =
    ap (λ (y : ℤ). y +ℤ (head ρ *ℤ pos 0)) (h (cst d)) ∙ ap (λ (y : ℤ). (v *ℤ d) +ℤ y) (*ℤ-zero (head ρ)) ∙ +ℤ_idr (v *ℤ d)
each_value ρ f v h (hrn b q) =
    cc (h b, each_value ρ f v h q, past v (head ρ) (value ρ q))
    ∙ sym (distrib_left v (value (tail ρ) b) (head ρ *ℤ value ρ q))

mul_value : (ρ : List ℤ) (p q : Form) → value ρ (mul p q) ≡ value ρ p *ℤ value ρ q
unfolding value
mul_value ρ (cst c) q = mulc_value ρ c q
mul_value ρ (hrn a p) q =
    add_value ρ (each (λ r. mul a r) q) (hrn (cst (pos 0)) (mul p q))
    ∙ cc (each_value ρ (λ r. mul a r) (value (tail ρ) a) (λ r. mul_value (tail ρ) a r) q, +ℤ_idl (head ρ *ℤ value ρ (mul p q)), mul_value ρ p q, *ℤ_assoc (head ρ) (value ρ p) (value ρ q))
    ∙ sym (distrib_right (value (tail ρ) a) (head ρ *ℤ value ρ p) (value ρ q))

form_value : (ρ : List ℤ) (e : Expr) → value ρ (form e) ≡ eval ρ e
unfolding value
form_value ρ (var i) = variable_value ρ i
form_value ρ (con c) = refl
form_value ρ (a ⊕ b) = add_value ρ (form a) (form b) ∙ cc (form_value ρ a, form_value ρ b)
form_value ρ (a ⊝ b) = add_value ρ (form a) (neg (form b)) ∙ cc (form_value ρ a, form_value ρ b, neg_value ρ (form b))
form_value ρ (a ⊗ b) = mul_value ρ (form a) (form b) ∙ cc (form_value ρ a, form_value ρ b)
form_value ρ (⊖ a) = neg_value ρ (form a) ∙ ap neg_ℤ (form_value ρ a)

is_zero_ℤ_zero : (c : ℤ) → T (is_zero_ℤ c) → c ≡ pos 0
is_zero_ℤ_zero (pos n) t = ap pos (eqb→eq n 0 t)
is_zero_ℤ_zero (negsuc n) t = absurd t

is_zero_value : (ρ : List ℤ) (p : Form) → T (is_zero p) → value ρ p ≡ pos 0
unfolding value
is_zero_value ρ (cst c) t = is_zero_ℤ_zero c t
is_zero_value ρ (hrn a p) t =
    cc (is_zero_value (tail ρ) a (and_yes (is_zero a) (is_zero p) t).0, is_zero_value ρ p (and_yes (is_zero a) (is_zero p) t).1, *ℤ-zero (head ρ), +ℤ_idl (pos 0))

pub difference_zero : (a b : ℤ) → a -ℤ b ≡ pos 0 → a ≡ b
difference_zero a b h = sym (-ℤ-+ℤ_cancel a b) ∙ ap (λ (x : ℤ). x +ℤ b) h ∙ +ℤ_idl b

pub sound : (ρ : List ℤ) (e : Equation) → T (holds e) → eval ρ e.left ≡ eval ρ e.right
sound ρ e t =
    difference_zero (eval ρ e.left) (eval ρ e.right)
    (sym (form_value ρ (e.left ⊝ e.right)) ∙ is_zero_value ρ (form (e.left ⊝ e.right)) t)

-- ---- an identity in n variables, as a function on expressions

abbrev pub Fun : ℕ → Type 0
Fun zero = Equation
Fun (suc n) = Expr → Fun n

abbrev pub equation : (n i : ℕ) → Fun n → Equation
equation zero i e = e
equation (suc n) i f = equation n (suc i) (f (var i))

abbrev pub Identity : ℕ → List ℤ → Equation → Type 0
Identity zero ρ e = eval ρ e.left ≡ eval ρ e.right
Identity (suc n) ρ e = (x : ℤ) → Identity n (ρ ++ (x ∷ [])) e

identity : (n : ℕ) (ρ : List ℤ) (e : Equation) → T (holds e) → Identity n ρ e
identity zero ρ e t = sound ρ e t
identity (suc n) ρ e t = λ x. identity n (ρ ++ (x ∷ [])) e t

pub ring : (n : ℕ) (f : Fun n) → T (holds (equation n 0 f)) → Identity n [] (equation n 0 f)
ring n f t = identity n [] (equation n 0 f) t
