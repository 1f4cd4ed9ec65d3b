-- A value is its own remainder modulo q exactly if it is as good as its six neighbours, which differ from it by q times a unit.
use mathlib.Core.Path.{◌≡◌, refl, sym, ◌∙◌, ap, ap₂, subst}
use mathlib.Core.Bool.{Bool, true, false, not, ◌&&◌, ◌||◌}
use mathlib.Core.Logic.{◌⊎◌, inl, inr, ⊎_elim, ◌≢◌}
use mathlib.Core.List.{[], ◌∷◌}
use Prim.Native.Nat.{ℕ, zero, suc, ◌+◌, ◌*◌, ◌≤◌, ◌<◌}
use native.Mathlib.Omega.{arith}
use native.Mathlib.Decide.{dec_lt, dec_le}
use native.Mathlib.Nat.{mul-le-mul, mul-le-mul_left, mul_assoc, le_of_mul-le-mul_right}
use borrow.Author.Tests.{lt-ltb, le-leb}
use lib.Dec.{T, eqb}
use lib.IntN.{ℤ, pos, negsuc, neg_ℤ, nat_abs, ◌+ℤ◌, ◌-ℤ◌, ◌*ℤ◌}
use lib.Signed.{◌≤ℤ◌, ◌<ℤ◌, lt_z, le_z, lt_z_yes, lt_z_no, le_z_yes}
use mir.Facts.{and_yes, yes_and, or_yes, not_T, eqb_yes}
use Rattle.integers.proofs.Ring.{Expr, var, sound, ring, con, ◌⊕◌, ◌⊝◌, ◌⊗◌, ⊖◌, ◌⊜◌}
use Rattle.integers.proofs.Absolute.{square, square_le}
use Rattle.integers.proofs.Tests.{every, every_at}
use Rattle.integers.proofs.Order.{above, below, orders, less_or_equal, eq_parts, parts-+, parts--, above_pos, below_pos, above_neg, below_neg}
use Rattle.own_remainders.specs.Neighbours.{lead, within}
use Rattle.eisenstein.specs.Values.{ℤ[ω], value, 𝟘, ◌+ω◌, ◌-ω◌, ◌*ω◌, norm, unit, same, Congruent}
use Rattle.eisenstein.specs.Reduction.{AsGood, smaller_norm, larger_a, larger_b, Remainder, mod_q}
use Rattle.eisenstein.proofs.Solver.{Exprω, parts, ringω, conω, ◌≐◌, ◌⊞◌, ◌⊟◌, ◌⊠◌}
use Rattle.eisenstein.proofs.Laws.{less_multiple, in_class_is, congruent_refl}
use Rattle.eisenstein.proofs.Norms.{form, norm_form, norm-*, part_a, part_b, parallelogram, trace, norm_difference}
use Rattle.eisenstein.proofs.TieRule.{as_good_norm, as_good_refl, as_good_antisym}
use Rattle.eisenstein.proofs.Equality.{same_true, same_false}
use Rattle.eisenstein.proofs.Remainders.{norm_pos, mod_q_is_remainder, remainder_norm, difference}

-- ---- one neighbour

-- whether r is as good as r − w, w = (a, b), by the trace t and the norm n
abbrev as_good : (t n a b : ℤ) → Bool
as_good t n a b = lt_z t n || (not (lt_z n t) && (lt_z (pos 0) a || (not (lt_z a (pos 0)) && le_z (pos 0) b)))

-- the norm of r − w is that of r, less the trace, plus that of w
norm_less : (r w : ℤ[ω]) → norm (r -ω w) + (above (trace r w) + below (pos (norm w))) ≡ norm r + (above (pos (norm w)) + below (trace r w))
norm_less r w =
    omega (arith, eq_parts (norm_difference r w), parts-+ (pos (norm r)) (pos (norm w) -ℤ trace r w), parts-- (pos (norm w)) (trace r w), above_pos (norm (r -ω w)), below_pos (norm (r -ω w)), above_pos (norm r), below_pos (norm r))

-- x − y compares with x as 0 does with y
part_less : (x y : ℤ) → above (x -ℤ y) + (below x + (above y + below (pos 0))) ≡ below (x -ℤ y) + (above x + (below y + above (pos 0)))
part_less x y = omega (arith, parts-- x y, above_pos 0, below_pos 0)

less_zero : (x y : ℤ) → pos 0 ≡ y → x -ℤ y ≡ x
less_zero x y e = ap (λ (z : ℤ). x -ℤ z) (sym e) ∙ ring 1 (λ x. x ⊝ con (pos 0) ⊜ x) tt x

yes_or : (p q : Bool) → T p ⊎ T q → T (p || q)
yes_or true q h = tt
yes_or false q (inl t) = absurd t
yes_or false q (inr t) = t

yes_lt_z : (a b : ℤ) → a <ℤ b → T (lt_z a b)
yes_lt_z a b h = h.lt

yes_le_z : (a b : ℤ) → a ≤ℤ b → T (le_z a b)
yes_le_z a b h = h.le

no_lt_z : (a b : ℤ) → b ≤ℤ a → T (not (lt_z a b))
no_lt_z a b h = not_T (lt_z a b) (λ t. let k : a <ℤ b = lt_z_yes t in omega (arith, orders))

-- ---- two neighbours at once: r − w and r + w

same_truth : (p q : Bool) → (T p → T q) → (T q → T p) → p ≡ q
same_truth true true f g = refl
same_truth true false f g = absurd (f tt)
same_truth false true f g = absurd (g tt)
same_truth false false f g = refl

-- the test of one neighbour, where the tie rule is for r, and where it is against it
abbrev test : (t n : ℤ) → Bool → Bool
test t n wins = lt_z t n || (not (lt_z n t) && wins)

test_won : (t n : ℤ) → t ≤ℤ n → T (test t n true)
test_won t n h = yes_or (lt_z t n) (not (lt_z n t) && true) (inr (yes_and (not (lt_z n t)) true (no_lt_z n t h) tt))

test_lost : (t n : ℤ) → t <ℤ n → T (test t n false)
test_lost t n h = yes_or (lt_z t n) (not (lt_z n t) && false) (inl (yes_lt_z t n h))

won_test : (t n : ℤ) → T (test t n true) → t ≤ℤ n
won_test t n h =
    ⊎_elim (λ l. let k : t <ℤ n = lt_z_yes l in omega (arith, orders))
    (λ l. lt_z_no (and_yes (not (lt_z n t)) true l).0)
    (or_yes (lt_z t n) (not (lt_z n t) && true) h)

lost_test : (t n : ℤ) → T (test t n false) → t <ℤ n
lost_test t n h =
    ⊎_elim lt_z_yes (λ l. absurd (and_yes (not (lt_z n t)) false l).1) (or_yes (lt_z t n) (not (lt_z n t) && false) h)

module _ (t n : ℤ) where
  -- the tie rule is for r against r − w, and against it for r + w
  first_won : within t n (pos 1) ≡ (test t n true && test (neg_ℤ t) n false)
  first_won =
      same_truth (within t n (pos 1)) (test t n true && test (neg_ℤ t) n false)
      (λ h.
      let (k, l) = and_yes (not (lt_z t (pos 1 -ℤ n))) (lt_z t (n +ℤ pos 1)) h in
      let k' : (pos 1 -ℤ n) ≤ℤ t = lt_z_no k in
      let l' : t <ℤ (n +ℤ pos 1) = lt_z_yes l in
      yes_and (test t n true) (test (neg_ℤ t) n false)
      (test_won t n (omega (arith, orders, parts-+ n (pos 1), above_pos 1, below_pos 1)))
      (test_lost (neg_ℤ t) n (omega (arith, orders, parts-- (pos 1) n, above_pos 1, below_pos 1, above_neg t, below_neg t))))
      (λ h.
      let (k, l) = and_yes (test t n true) (test (neg_ℤ t) n false) h in
      let k' = won_test t n k in
      let l' = lost_test (neg_ℤ t) n l in
      yes_and (not (lt_z t (pos 1 -ℤ n))) (lt_z t (n +ℤ pos 1))
      (no_lt_z t (pos 1 -ℤ n) (omega (arith, orders, l', parts-- (pos 1) n, above_pos 1, below_pos 1, above_neg t, below_neg t)))
      (yes_lt_z t (n +ℤ pos 1) (omega (arith, orders, k', parts-+ n (pos 1), above_pos 1, below_pos 1))))

  -- and the other way round
  second_won : within t n (pos 0) ≡ (test t n false && test (neg_ℤ t) n true)
  second_won =
      same_truth (within t n (pos 0)) (test t n false && test (neg_ℤ t) n true)
      (λ h.
      let (k, l) = and_yes (not (lt_z t (pos 0 -ℤ n))) (lt_z t (n +ℤ pos 0)) h in
      let k' : (pos 0 -ℤ n) ≤ℤ t = lt_z_no k in
      let l' : t <ℤ (n +ℤ pos 0) = lt_z_yes l in
      yes_and (test t n false) (test (neg_ℤ t) n true)
      (test_lost t n (omega (arith, orders, parts-+ n (pos 0), above_pos 0, below_pos 0)))
      (test_won (neg_ℤ t) n (omega (arith, orders, parts-- (pos 0) n, above_pos 0, below_pos 0, above_neg t, below_neg t))))
      (λ h.
      let (k, l) = and_yes (test t n false) (test (neg_ℤ t) n true) h in
      let k' = lost_test t n k in
      let l' = won_test (neg_ℤ t) n l in
      yes_and (not (lt_z t (pos 0 -ℤ n))) (lt_z t (n +ℤ pos 0))
      (no_lt_z t (pos 0 -ℤ n) (omega (arith, orders, l', parts-- (pos 0) n, above_pos 0, below_pos 0, above_neg t, below_neg t)))
      (yes_lt_z t (n +ℤ pos 0) (omega (arith, orders, k', parts-+ n (pos 0), above_pos 0, below_pos 0))))

  both_sides : (a b : ℤ) → value a b ≢ 𝟘 → within t n (lead a b) ≡ (as_good t n a b && as_good (neg_ℤ t) n (neg_ℤ a) (neg_ℤ b))
  both_sides (pos zero) (pos zero) h = absurd (h refl)
  both_sides (pos zero) (pos (suc b)) h = rw (lt-ltb 0 (suc b) (omega arith), le-leb 0 (suc b) (omega arith)) first_won
  both_sides (pos zero) (negsuc b) h = rw (le-leb 0 (suc b) (omega arith)) second_won
  both_sides (pos (suc a)) b h = rw (lt-ltb 0 (suc a) (omega arith)) first_won
  both_sides (negsuc a) b h = rw (lt-ltb 0 (suc a) (omega arith)) second_won

-- ---- what the test of one neighbour tells

module _ (r w : ℤ[ω]) where
  t : ℤ
  t = trace r w

  n : ℤ
  n = pos (norm w)

  -- the test where the norms of r and r − w are equal
  last : Bool
  last = not (lt_z w.a (pos 0)) && le_z (pos 0) w.b

  -- the test passes only where r is as good as r − w
  test_good : T (as_good (trace r w) (pos (norm w)) w.a w.b) → AsGood r (r -ω w)
  unfolding t n last ◌-ω◌
  test_good h =
      ⊎_elim (λ l. let k : t <ℤ n = lt_z_yes l in smaller_norm (omega (arith, orders, norm_less r w)))
      (λ l. let (k, m) = and_yes (not (lt_z n t)) (lt_z (pos 0) w.a || last) l in at_most (lt_z_no k) (dec_lt (norm r) (norm (r -ω w))) m)
      (or_yes (lt_z t n) (not (lt_z n t) && (lt_z (pos 0) w.a || last)) h)
    where
      by_a : norm r ≡ norm (r -ω w) → pos 0 <ℤ w.a → AsGood r (r -ω w)
      by_a e k = larger_a e (omega (arith, orders, part_less r.a w.a))

      by_b : norm r ≡ norm (r -ω w) → T last → AsGood r (r -ω w)
      by_b e l =
          let (p, m) = and_yes (not (lt_z w.a (pos 0))) (le_z (pos 0) w.b) l in
          let k : pos 0 ≤ℤ w.b = le_z_yes m in
          ⊎_elim (by_a e)
          (λ f. larger_b e (less_zero r.a w.a f) (omega (arith, orders, part_less r.b w.b)))
          (less_or_equal (lt_z_no p))

      at_most : t ≤ℤ n → Dec (norm r < norm (r -ω w)) → T (lt_z (pos 0) w.a || last) → AsGood r (r -ω w)
      at_most k (yes l) m = smaller_norm l
      at_most k (no l) m =
          let e : norm r ≡ norm (r -ω w) = omega (arith, orders, norm_less r w) in
          ⊎_elim (λ p. by_a e (lt_z_yes p)) (by_b e) (or_yes (lt_z (pos 0) w.a) last m)

  -- and it passes there
  good_test : AsGood r (r -ω w) → T (as_good (trace r w) (pos (norm w)) w.a w.b)
  unfolding t n last ◌-ω◌
  good_test g = yes_or (lt_z t n) (not (lt_z n t) && (lt_z (pos 0) w.a || last)) (go g)
    where
      equal : norm r ≡ norm (r -ω w) → T (lt_z (pos 0) w.a) ⊎ T last → T (not (lt_z n t) && (lt_z (pos 0) w.a || last))
      equal e k =
          yes_and (not (lt_z n t)) (lt_z (pos 0) w.a || last)
          (no_lt_z n t (omega (arith, orders, norm_less r w)))
          (yes_or (lt_z (pos 0) w.a) last k)

      go : AsGood r (r -ω w) → T (lt_z t n) ⊎ T (not (lt_z n t) && (lt_z (pos 0) w.a || last))
      go (smaller_norm h) = inl (yes_lt_z t n (omega (arith, orders, norm_less r w)))
      go (larger_a e h) =
          inr (equal e (inl (yes_lt_z (pos 0) w.a (omega (arith, orders, part_less r.a w.a)))))
      go (larger_b e f h) =
          inr (equal e
          (inr (yes_and (not (lt_z w.a (pos 0))) (le_z (pos 0) w.b)
          (no_lt_z w.a (pos 0) (omega (arith, orders, eq_parts f, part_less r.a w.a)))
          (yes_le_z (pos 0) w.b (omega (arith, orders, part_less r.b w.b))))))

-- ---- all six

data Digit : ℤ → Type 0 where
  none : Digit (pos 0)
  plus : Digit (pos 1)
  minus : Digit (negsuc 0)

digit : (x : ℤ) (v : ℕ) → v ≤ 1 → 3 * (nat_abs x * nat_abs x) ≤ 4 * v → Digit x
digit x v h k = of x (square_le {a = nat_abs x} {b = 1} (omega arith))
  where
    of : (x : ℤ) → nat_abs x ≤ 1 → Digit x
    of (pos zero) l = none
    of (pos (suc zero)) l = plus
    of (pos (suc (suc n))) l = absurd (omega arith)
    of (negsuc zero) l = minus
    of (negsuc (suc n)) l = absurd (omega arith)

-- a value whose norm is at most 1 is zero or a unit
zero_or_unit : (P : ℤ[ω] → Type 0) → P 𝟘 → ((k : ℕ) → k < 6 → P (unit k)) → (z : ℤ[ω]) → norm z ≤ 1 → P z
unfolding unit norm
zero_or_unit P p f z h = by (digit z.a (norm z) h (part_a z)) (digit z.b (norm z) h (part_b z)) h
  where
    by : {x y : ℤ} → Digit x → Digit y → norm (value x y) ≤ 1 → P (value x y)
    by none none m = p
    by none plus m = f 2 (omega arith)
    by none minus m = f 5 (omega arith)
    by plus none m = f 0 (omega arith)
    by plus plus m = f 1 (omega arith)
    by plus minus m = absurd (omega arith)
    by minus none m = f 3 (omega arith)
    by minus plus m = absurd (omega arith)
    by minus minus m = f 4 (omega arith)

norm-unit : (k : ℕ) → k < 6 → norm (unit k) ≡ 1
unfolding unit norm
norm-unit k h = eqb_yes (every_at (λ k. eqb (norm (unit k)) 1) 6 all_one k h)
  where
    all_one : T (every (λ k. eqb (norm (unit k)) 1) 6)
    all_one = tt

less_nothing : (x q : ℤ[ω]) → x -ω q *ω 𝟘 ≡ x
unfolding ◌-ω◌ ◌*ω◌
less_nothing = ringω 2 (λ x q. x ⊟ q ⊠ conω 𝟘 ≐ x) tt

opposite : (x q z : ℤ[ω]) → x -ω q *ω (𝟘 -ω z) ≡ x +ω q *ω z
unfolding ◌+ω◌ ◌-ω◌ ◌*ω◌
opposite = ringω 3 (λ x q z. x ⊟ q ⊠ (conω 𝟘 ⊟ z) ≐ x ⊞ q ⊠ z) tt

-- the trace as an expression of the solver
abbrev pub traceᵉ : Exprω → Exprω → Expr
traceᵉ r w = r.a ⊗ (w.a ⊕ w.a ⊝ w.b) ⊕ r.b ⊗ (w.b ⊕ w.b ⊝ w.a)

opposite_multiple : (q z : ℤ[ω]) → q *ω (𝟘 -ω z) ≡ value (neg_ℤ (q *ω z).a) (neg_ℤ (q *ω z).b)
unfolding ◌-ω◌ ◌*ω◌
opposite_multiple = ringω 2 (λ q z. let w = q ⊠ z in q ⊠ (conω 𝟘 ⊟ z) ≐ parts (⊖ w.a) (⊖ w.b)) tt

opposite_trace : (r w : ℤ[ω]) → trace r (value (neg_ℤ w.a) (neg_ℤ w.b)) ≡ neg_ℤ (trace r w)
opposite_trace r w =
    ring 4 (λ a b c d. traceᵉ (parts a b) (parts (⊖ c) (⊖ d)) ⊜ ⊖ (traceᵉ (parts a b) (parts c d))) tt r.a r.b w.a w.b

between : (z : ℤ) (n : ℕ) → above z ≤ n + below z → below z ≤ n + above z → nat_abs z ≤ n
unfolding above below
between (pos k) n h l = omega arith
between (negsuc k) n h l = omega arith

-- the squares of the three traces add up to six times the product of the norms
trace_squares : (q r : ℤ[ω]) → let x = trace r (q *ω unit 0) in let y = trace r (q *ω unit 1) in let z = trace r (q *ω unit 2) in ((x *ℤ x) +ℤ (y *ℤ y)) +ℤ (z *ℤ z) ≡ pos 6 *ℤ (form r *ℤ form q)
unfolding ◌*ω◌ unit
trace_squares q r =
    sound (q.a ∷ q.b ∷ r.a ∷ r.b ∷ []) (x ⊗ x ⊕ y ⊗ y ⊕ z ⊗ z ⊜ con (pos 6) ⊗ (formᵉ r' ⊗ formᵉ q')) tt
  where
    q' : Exprω
    q' = parts (var 0) (var 1)

    r' : Exprω
    r' = parts (var 2) (var 3)

    formᵉ : Exprω → Expr
    formᵉ x = x.a ⊗ x.a ⊝ x.a ⊗ x.b ⊕ x.b ⊗ x.b

    x : Expr
    x = traceᵉ r' (q' ⊠ conω (unit 0))

    y : Expr
    y = traceᵉ r' (q' ⊠ conω (unit 1))

    z : Expr
    z = traceᵉ r' (q' ⊠ conω (unit 2))

-- the test of neighbour k, which differs from r by a value of norm n
abbrev test_by : (q r : ℤ[ω]) (k n : ℕ) → Bool
test_by q r k n = as_good (trace r (q *ω unit k)) (pos n) (q *ω unit k).a (q *ω unit k).b

abbrev tested : ℤ[ω] → ℤ[ω] → ℕ → Bool
tested q r k = test_by q r k (norm q)

-- the test of two neighbours, r − q·unit and r + q·unit
abbrev pub both_tested : ℤ[ω] → ℤ[ω] → ℕ → Bool
both_tested q r k = let w = q *ω unit k in within (trace r w) (pos (norm q)) (lead w.a w.b)

both_true : (p q : Bool) → (p && q) ≡ true → (p ≡ true) × (q ≡ true)
both_true true true e = (refl, refl)
both_true true false e = (refl, e)
both_true false q e = absurd (subst (λ (t : Bool). T (not t)) e tt)

one_false : (p q : Bool) → (p && q) ≡ false → (p ≡ false) ⊎ (q ≡ false)
one_false true q e = inr e
one_false false q e = inl refl

module _ (q r : ℤ[ω]) (nonzero : q ≢ 𝟘) where
  neighbour_norm : (k : ℕ) → k < 6 → norm (q *ω unit k) ≡ norm q
  neighbour_norm k h = omega (arith, norm-* q (unit k), ap (λ (m : ℕ). norm q * m) (norm-unit k h))

  neighbour_nonzero : (k : ℕ) → k < 6 → q *ω unit k ≢ 𝟘
  unfolding norm
  neighbour_nonzero k h e = omega (arith, norm_pos q nonzero, neighbour_norm k h, ap norm e)

  -- the test of two neighbours is that of each
  each_tested : (j k : ℕ) → j < 6 → unit k ≡ 𝟘 -ω unit j → both_tested q r j ≡ (tested q r j && tested q r k)
  each_tested j k h e =
      both_sides (trace r w) (pos (norm q)) w.a w.b (neighbour_nonzero j h)
      ∙ ap (λ (t : ℤ). tested q r j && as_good t (pos (norm q)) (neg_ℤ w.a) (neg_ℤ w.b)) (sym (opposite_trace r w))
      ∙ ap (λ (v : ℤ[ω]). tested q r j && as_good (trace r v) (pos (norm q)) v.a v.b) (sym (ap (λ (z : ℤ[ω]). q *ω z) e ∙ opposite_multiple q (unit j)))
    where
      w : ℤ[ω]
      w = q *ω unit j

  -- a remainder passes each test
  beaten : (k : ℕ) → k < 6 → tested q r k ≡ false → same (mod_q q r) r ≡ false
  beaten k h e =
      same_false (mod_q q r) r
      (λ f. subst T e
      (subst (λ (n : ℕ). T (test_by q r k n)) (neighbour_norm k h)
      (good_test r (q *ω unit k)
      (subst (λ (s : ℤ[ω]). AsGood s (r -ω q *ω unit k)) f ((mod_q_is_remainder q r nonzero).as_good (r -ω q *ω unit k) (less_multiple q r (unit k)))))))

  module _ (good : (k : ℕ) → k < 6 → T (tested q r k)) where
    as_good_lem : (k : ℕ) → k < 6 → AsGood r (r -ω q *ω unit k)
    as_good_lem k h =
        test_good r (q *ω unit k)
        (subst (λ (n : ℕ). T (test_by q r k n)) (sym (neighbour_norm k h)) (good k h))

    -- a trace is at most the norm of q
    trace_bound : (j k : ℕ) → j < 6 → k < 6 → unit k ≡ 𝟘 -ω unit j → nat_abs (trace r (q *ω unit j)) * nat_abs (trace r (q *ω unit j)) ≤ norm q * norm q
    trace_bound j k h l e = mul-le-mul bound bound
      where
        w : ℤ[ω]
        w = q *ω unit j

        above_w : norm r ≤ norm (r +ω w)
        above_w =
            subst (λ (s : ℤ[ω]). norm r ≤ norm s) {x = r -ω q *ω unit k} {y = r +ω w} (ap (λ (z : ℤ[ω]). r -ω q *ω z) e ∙ opposite r q (unit j)) (as_good_norm (as_good_lem k l))

        bound : nat_abs (trace r w) ≤ norm q
        bound =
            let p : norm r ≤ norm (r -ω w) = as_good_norm (as_good_lem j h) in
            between (trace r w) (norm q) (omega (arith, norm_less r w, neighbour_norm j h, above_pos (norm w), below_pos (norm w))) (omega (arith, above_w, norm_less r w, neighbour_norm j h, above_pos (norm w), below_pos (norm w), parallelogram r w))

    -- so twice the norm of r is at most the norm of q
    half : 2 * norm r ≤ norm q
    unfolding ◌-ω◌ unit
    half =
        le_of_mul-le-mul_right
        (omega (arith, squares, trace_bound 0 3 (omega arith) (omega arith) refl, trace_bound 1 4 (omega arith) (omega arith) refl, trace_bound 2 5 (omega arith) (omega arith) refl, mul_assoc 2 (norm r) (norm q)))
        (norm_pos q nonzero)
      where
        size : ℕ → ℕ
        size k = nat_abs (trace r (q *ω unit k))

        squares : size 0 * size 0 + size 1 * size 1 + size 2 * size 2 ≡ 6 * (norm r * norm q)
        squares =
            ap nat_abs
            (sym (ap₂ ◌+ℤ◌ (ap₂ ◌+ℤ◌ (square (trace r (q *ω unit 0))) (square (trace r (q *ω unit 1)))) (square (trace r (q *ω unit 2))))
            ∙ trace_squares q r
            ∙ ap₂ (λ (x y : ℤ). pos 6 *ℤ (x *ℤ y)) (norm_form r) (norm_form q))

    -- three times the norm of its remainder is too, so the two differ by q times zero or a unit, and r is as good as those
    own : mod_q q r ≡ r
    own = as_good_antisym (m.as_good r (congruent_refl q r)) (subst (AsGood r) (sym (in_class_is c)) (near (dec_le (norm z) 1)))
      where
        m : Remainder q r (mod_q q r)
        m = mod_q_is_remainder q r nonzero

        c : Congruent q r (mod_q q r)
        c = m.in_class

        z : ℤ[ω]
        z = c.quotient

        near : Dec (norm z ≤ 1) → AsGood r (r -ω q *ω z)
        near (yes h) =
            zero_or_unit (λ z. AsGood r (r -ω q *ω z)) (subst (AsGood r) (sym (less_nothing r q)) (as_good_refl r)) as_good_lem z h
        near (no h) =
            absurd
            (omega (arith, half, norm_pos q nonzero, remainder_norm q r (mod_q q r) nonzero m, parallelogram r (mod_q q r), ap norm (ap (λ (y : ℤ[ω]). y -ω mod_q q r) c.equation ∙ difference (mod_q q r) (q *ω z)), norm-* q z, mul-le-mul_left {m = 2} {n = norm z} (norm q) (omega arith)))

  -- a value that passes all tests is a remainder
  unbeaten : tested q r 0 ≡ true → tested q r 1 ≡ true → tested q r 2 ≡ true → tested q r 3 ≡ true → tested q r 4 ≡ true → tested q r 5 ≡ true → same (mod_q q r) r ≡ true
  unbeaten h₀ h₁ h₂ h₃ h₄ h₅ = same_true (own good)
    where
      good : (k : ℕ) → k < 6 → T (tested q r k)
      good zero h = subst T (sym h₀) tt
      good (suc zero) h = subst T (sym h₁) tt
      good (suc (suc zero)) h = subst T (sym h₂) tt
      good (suc (suc (suc zero))) h = subst T (sym h₃) tt
      good (suc (suc (suc (suc zero)))) h = subst T (sym h₄) tt
      good (suc (suc (suc (suc (suc zero))))) h = subst T (sym h₅) tt
      good (suc (suc (suc (suc (suc (suc k)))))) h = absurd (omega arith)

  both_beaten : (j k : ℕ) → j < 6 → k < 6 → unit k ≡ 𝟘 -ω unit j → both_tested q r j ≡ false → same (mod_q q r) r ≡ false
  both_beaten j k h l e f = ⊎_elim (beaten j h) (beaten k l) (one_false (tested q r j) (tested q r k) (sym (each_tested j k h e) ∙ f))

  both_passed : (j k : ℕ) → j < 6 → unit k ≡ 𝟘 -ω unit j → both_tested q r j ≡ true → (tested q r j ≡ true) × (tested q r k ≡ true)
  both_passed j k h e f = both_true (tested q r j) (tested q r k) (sym (each_tested j k h e) ∙ f)

  -- so three tests of two neighbours decide, one after another
  pub beaten_0 : both_tested q r 0 ≡ false → same (mod_q q r) r ≡ false
  unfolding ◌-ω◌ unit
  beaten_0 = both_beaten 0 3 (omega arith) (omega arith) refl

  pub beaten_2 : both_tested q r 2 ≡ false → same (mod_q q r) r ≡ false
  unfolding ◌-ω◌ unit
  beaten_2 = both_beaten 2 5 (omega arith) (omega arith) refl

  pub decided_by_1 : both_tested q r 0 ≡ true → both_tested q r 2 ≡ true → both_tested q r 1 ≡ same (mod_q q r) r
  unfolding ◌-ω◌ unit
  decided_by_1 e f = by (both_tested q r 1) refl
    where
      by : (t : Bool) → both_tested q r 1 ≡ t → both_tested q r 1 ≡ same (mod_q q r) r
      by false g = g ∙ sym (both_beaten 1 4 (omega arith) (omega arith) refl g)
      by true g =
          let (h₀, h₃) = both_passed 0 3 (omega arith) refl e in
          let (h₂, h₅) = both_passed 2 5 (omega arith) refl f in
          let (h₁, h₄) = both_passed 1 4 (omega arith) refl g in
          g ∙ sym (unbeaten h₀ h₁ h₂ h₃ h₄ h₅)
