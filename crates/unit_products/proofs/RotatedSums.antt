-- The rotations of an array that stands twice, what they add to the sums, and how large those get.
use mathlib.Core.Path.{◌≡◌, refl, sym, ◌∙◌, ap, ap₂, subst}
use mathlib.Core.List.{List, [], ◌∷◌}
use mathlib.Core.Logic.{◌⊎◌, inl, inr}
use Prim.Native.Nat.{ℕ, ◌+◌, ◌-◌, ◌*◌, ◌%◌, ◌^◌, ◌≤◌, ◌<◌}
use native.Mathlib.Omega.{arith}
use native.Mathlib.Decide.{dec_le}
use native.Mathlib.Nat.{le_trans, mod-eq_of_lt, mod-eq-sub-mod}
use lib.Dec.{lit≤}
use lib.IntN.{ℤ, pos, nat_abs, ◌+ℤ◌}
use lib.ListN.{length, get_or, get_or-eq_default}
use Rattle.integers.proofs.Absolute.{natAbs-+}
use Rattle.eisenstein.specs.Values.{ℤ[ω], value, 𝟘, ◌+ω◌}
use Rattle.eisenstein.proofs.Laws.{+ω_assoc, +ω_comm, +ω-zero}
use Rattle.polynomials.specs.Polynomials.{Polynomial, coefficient, sum}
use Rattle.polynomials.proofs.Eisenstein.{sum_same, sum-split}
use Rattle.arrays.specs.Arrays.{AllWithin, Small}
use Rattle.arrays.proofs.Changing.{Changed}
use Rattle.arrays.proofs.Scans.{sum_none, sum_more}
use Rattle.unit_operands.specs.Repeated.{Twice}
use Rattle.unit_products.specs.Rotations.{run, runs, number_at, six_at, Places, Filled, Added, Summed, Rotated}

-- ---- an array that stands twice

module _ {y t : List ℤ} (h : Twice y t) where
  -- number k of it, from some place before the second y on
  pub twice_at : (k m : ℕ) → m < length y → (k ≡ m) ⊎ (k ≡ length y + m) → get_or t k (pos 0) ≡ get_or y m (pos 0)
  twice_at k m p (inl e) = ap (λ (i : ℕ). get_or t i (pos 0)) e ∙ h.first m p
  twice_at k m p (inr e) = ap (λ (i : ℕ). get_or t i (pos 0)) e ∙ h.second m p

  pub run_is : (n j i : ℕ) → length y ≡ 2 * n → j < n → i < n → run n t j i ≡ coefficient y ((i + (n - j)) % n)
  unfolding coefficient
  run_is n j i l p q = go (dec_le n (i + (n - j)))
    where
      go : Dec (n ≤ i + (n - j)) → run n t j i ≡ coefficient y ((i + (n - j)) % n)
      go (yes w) =
          let e : (i + (n - j)) % n ≡ i + (n - j) - n = mod-eq-sub-mod w ∙ mod-eq_of_lt (omega arith) in
          ap₂ value (twice_at _ (2 * ((i + (n - j)) % n)) (omega arith) (inr (omega arith))) (twice_at _ (2 * ((i + (n - j)) % n) + 1) (omega arith) (inr (omega arith)))
      go (no w) =
          let e : (i + (n - j)) % n ≡ i + (n - j) = mod-eq_of_lt (omega arith) in
          ap₂ value (twice_at _ (2 * ((i + (n - j)) % n)) (omega arith) (inl (omega arith))) (twice_at _ (2 * ((i + (n - j)) % n) + 1) (omega arith) (inl (omega arith)))

  pub twice_below : Small y → AllWithin 5461 t
  twice_below s k = go (dec_le (length y) k) (dec_le (2 * length y) k)
    where
      at : (m : ℕ) → get_or t k (pos 0) ≡ get_or y m (pos 0) → nat_abs (get_or t k (pos 0)) ≤ 5461
      at m e = subst (λ (z : ℤ). nat_abs z ≤ 5461) (sym e) (s m)

      go : Dec (length y ≤ k) → Dec (2 * length y ≤ k) → nat_abs (get_or t k (pos 0)) ≤ 5461
      go (no p) q = at k (h.first k (omega arith))
      go (yes p) (no q) = at (k - length y) (twice_at k (k - length y) (omega arith) (inr (omega arith)))
      go (yes p) (yes q) = subst (λ (z : ℤ). nat_abs z ≤ 5461) (sym (get_or-eq_default t (pos 0) (omega (arith, h.long)))) (lit≤ tt)

-- ---- numbers added at each place, as a polynomial

pub changed_added : {g : ℕ → ℤ} {l₀ l : List ℤ} {k : ℕ} → Changed (λ m i. get_or m i (pos 0)) (λ i. get_or l₀ i (pos 0) +ℤ g i) l₀ l k → length l₀ ≤ k → Added g l₀ l
changed_added h p = record { long = h.long; inside = λ i q. h.new i (omega arith) }

pub changed_filled : {g : ℕ → ℤ} {l₀ l : List ℤ} {k : ℕ} → Changed (λ m i. get_or m i (pos 0)) g l₀ l k → length l₀ ≤ k → Filled g l₀ l
changed_filled h p = record { long = h.long; inside = λ i q. h.new i (omega arith) }

module _ {g : ℕ → ℤ} {b : ℕ} (small : (k : ℕ) → nat_abs (g k) ≤ b) where
  pub added_summed : {n : ℕ} {l l' : List ℤ} → length l ≡ 2 * n → Added g l l' → Summed n (λ i. value (g (2 * i)) (g (2 * i + 1))) b l l'
  unfolding coefficient ◌+ω◌
  added_summed {n} {l} {l'} e h = record {
    long = h.long;
    sums = λ i p. ap₂ value (h.inside (2 * i) (omega arith)) (h.inside (2 * i + 1) (omega arith));
    grown = λ k. go k (dec_le (length l) k);
  }
    where
      go : (k : ℕ) → Dec (length l ≤ k) → nat_abs (get_or l' k (pos 0)) ≤ nat_abs (get_or l k (pos 0)) + b
      go k (no p) = subst (λ (z : ℤ). nat_abs z ≤ nat_abs (get_or l k (pos 0)) + b) (sym (h.inside k (omega arith))) (le_trans (natAbs-+ (get_or l k (pos 0)) (g k)) (omega (arith, small k)))
      go k (yes p) = subst (λ (z : ℤ). nat_abs z ≤ nat_abs (get_or l k (pos 0)) + b) (sym (get_or-eq_default l' (pos 0) (omega (arith, h.long)))) (omega arith)

-- ---- sums one after another

pub summed_none : {n b : ℕ} {x : Polynomial} (l : List ℤ) → ((i : ℕ) → i < n → coefficient l i ≡ coefficient l i +ω x i) → Summed n x b l l
summed_none l h = record { long = refl; sums = h; grown = λ k. omega arith }

pub summed_more : {n b c : ℕ} {x y : Polynomial} {l₀ l l' : List ℤ} (d : ℕ) (z : Polynomial) → Summed n x b l₀ l → Summed n y c l l' → b + c ≤ d → ((i : ℕ) → x i +ω y i ≡ z i) → Summed n z d l₀ l'
summed_more {x = x} {y = y} {l₀ = l₀} {l = l} d z h g s e = record {
  long = g.long ∙ h.long;
  sums = λ i p. g.sums i p ∙ ap (λ (w : ℤ[ω]). w +ω y i) (h.sums i p) ∙ +ω_assoc (coefficient l₀ i) (x i) (y i) ∙ ap (λ (w : ℤ[ω]). coefficient l₀ i +ω w) (e i);
  grown = λ k. omega (arith, g.grown k, h.grown k);
}

-- ---- rotations one after another

sum_six : (x : Polynomial) (m : ℕ) → sum m x +ω (x m +ω x (m + 1) +ω x (m + 2) +ω x (m + 3) +ω x (m + 4) +ω x (m + 5)) ≡ sum (m + 6) x
unfolding sum
sum_six x m =
    ap (λ (z : ℤ[ω]). sum m x +ω (z +ω x (m + 1) +ω x (m + 2) +ω x (m + 3) +ω x (m + 4) +ω x (m + 5))) (ap x {x = m} {y = m + 0} (omega arith) ∙ sym (+ω-zero (x (m + 0))) ∙ +ω_comm (x (m + 0)) 𝟘)
    ∙ sym (sum-split m 6 x)

module _ (n : ℕ) (t : List ℤ) (small : AllWithin 5461 t) where
  run_added : (j : ℕ) {l l' : List ℤ} → length l ≡ 2 * n → Added (λ k. get_or t (2 * (n - j) + k) (pos 0)) l l' → Summed n (run n t j) 5461 l l'
  run_added j e h = added_summed {g = λ k. get_or t (2 * (n - j) + k) (pos 0)} (λ k. small (2 * (n - j) + k)) e h

  pub none_summed : (f : ℕ → ℕ) (m : ℕ) (l : List ℤ) → m ≡ 0 → Rotated n t f m l l
  none_summed f m l e = subst (λ (m : ℕ). Rotated n t f m l l) (sym e) (summed_none l (λ i p. sym (+ω-zero (coefficient l i)) ∙ ap (λ (z : ℤ[ω]). coefficient l i +ω z) (sum_none (λ k. run n t (f k) i))))

  -- one more
  pub one_summed : (f : ℕ → ℕ) (m m' : ℕ) (l₀ l l' : List ℤ) → length l₀ ≡ 2 * n → m' ≡ m + 1 → Rotated n t f m l₀ l → Added (λ k. get_or t (2 * (n - f m) + k) (pos 0)) l l' → Rotated n t f m' l₀ l'
  one_summed f m m' l₀ l l' e q h g =
      subst (λ (k : ℕ). Rotated n t f k l₀ l') (sym q)
      (summed_more ((m + 1) * 5461) (λ i. sum (m + 1) (λ k. run n t (f k) i)) h (run_added (f m) (h.long ∙ e) g) (omega arith) (λ i. sym (sum_more (λ k. run n t (f k) i) m)))

  -- six more
  pub six_below : (starts : List ℕ) (k : ℕ) → nat_abs (six_at t starts k) ≤ 6 * 5461
  six_below starts k =
      let x : ℤ = number_at t starts k 0 in
      let y : ℤ = number_at t starts k 1 in
      let z : ℤ = number_at t starts k 2 in
      let w : ℤ = number_at t starts k 3 in
      let u : ℤ = number_at t starts k 4 in
      let v : ℤ = number_at t starts k 5 in
      let at : (i : ℕ) → nat_abs (number_at t starts k i) ≤ 5461 = λ i. small (get_or starts i 0 + k) in
      omega (arith, natAbs-+ (x +ℤ y +ℤ z +ℤ w +ℤ u) v, natAbs-+ (x +ℤ y +ℤ z +ℤ w) u, natAbs-+ (x +ℤ y +ℤ z) w, natAbs-+ (x +ℤ y) z, natAbs-+ x y, at 0, at 1, at 2, at 3, at 4, at 5)

  -- where six rotations begin
  abbrev pub six_starts : (ℕ → ℕ) → ℕ → List ℕ
  six_starts f m =
      2 * (n - f m) ∷ 2 * (n - f (m + 1)) ∷ 2 * (n - f (m + 2)) ∷ 2 * (n - f (m + 3)) ∷ 2 * (n - f (m + 4)) ∷ 2 * (n - f (m + 5)) ∷ []

  pub six_summed : (f : ℕ → ℕ) (m : ℕ) (l₀ l l' : List ℤ) → length l₀ ≡ 2 * n → Rotated n t f m l₀ l → Added (six_at t (six_starts f m)) l l' → Rotated n t f (m + 6) l₀ l'
  unfolding ◌+ω◌
  six_summed f m l₀ l l' e h g =
      summed_more ((m + 6) * 5461) (λ i. sum (m + 6) (λ k. run n t (f k) i)) h
      (added_summed {g = six_at t (six_starts f m)} {b = 6 * 5461} (six_below (six_starts f m)) (h.long ∙ e) g)
      (omega arith) (λ i. sum_six (λ k. run n t (f k) i) m)

  -- the same places under another name
  pub rotated_same : {f g : ℕ → ℕ} {m : ℕ} {l₀ l : List ℤ} → ((k : ℕ) → k < m → f k ≡ g k) → Rotated n t f m l₀ l → Rotated n t g m l₀ l
  rotated_same {m = m} {l₀ = l₀} e h = record {
    long = h.long;
    sums = λ i p. h.sums i p ∙ ap (λ (z : ℤ[ω]). coefficient l₀ i +ω z) (sum_same m (λ k q. ap (λ (j : ℕ). run n t j i) (e k q)));
    grown = h.grown;
  }

  -- all that a unit brings: by sixes, and then the rest
  pub unit_summed : {u : ℤ[ω]} {x : Polynomial} (places : List ℕ) (count r : ℕ) {l₀ l l' : List ℤ} → n ≤ 1024 → Places n u x places count → r ≤ count → Rotated n t (λ m. get_or places m 0) r l₀ l → Rotated n t (λ m. get_or places (r + m) 0) (count - r) l l' → Summed n (runs n t u x) (2 ^ 23) l₀ l'
  unit_summed {u} {x} places count r q k p h g =
      summed_more (2 ^ 23) (runs n t u x) h g (omega (arith, k.few))
      (λ i.
      sym (sum-split r (count - r) (λ m. run n t (get_or places m 0) i))
      ∙ ap (λ (m : ℕ). sum m (λ m. run n t (get_or places m 0) i)) {x = r + (count - r)} {y = count} (omega arith)
      ∙ k.sums (λ j. run n t j i))
