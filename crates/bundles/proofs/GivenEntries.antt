-- Entries that are handed over as stops and numbers, and handed out as such.
use mathlib.Core.Path.{◌≡◌, refl, sym, ◌∙◌, ap, ap₂}
use mathlib.Core.List.{List, [], ◌∷◌, ◌++◌}
use Prim.Native.Nat.{ℕ, zero, suc, ◌+◌, ◌*◌, ◌<◌}
use native.Mathlib.Omega.{arith}
use native.Mathlib.Nat.{mul-zero, mul-suc}
use lib.Dec.{lit≤}
use lib.IntN.{ℤ}
use lib.ListN.{length, get_or, take, drop, length-append, length-drop, take-append-drop}
use lib.Seq.{take_at, drop_at, drop-drop, length-take-le}
use Rattle.refusals.specs.Outcomes.{Passes}
use Rattle.refusals.proofs.Checks.{done_holds}
use Rattle.parameters.specs.Sets.{ParameterSet}
use Rattle.parameters.proofs.AcceptedParameters.{Accepted, modulus_nonzero}
use Rattle.polynomials.specs.Polynomials.{coefficient, reduced_q}
use Rattle.arrays.specs.Arrays.{Small}
use Rattle.arrays.proofs.Sizes.{reduced_q-small}
use Rattle.files.proofs.Lists.{fitting_small}
use Rattle.bundles.specs.Bundles.{Entry, entry_is, stops_of, array_of, numbers_of}
use Rattle.bundles.specs.Calls.{arrays_checks, entries_given}
use Rattle.bundles.specs.Promises.{Stops16}
use Rattle.bundles.proofs.StoredEntries.{FittingEntries}

-- each array has 2N numbers
abbrev pub Full : ℕ → List Entry → Type 0
Full N [] = Unit {0}
Full N (e ∷ es) = (length e.array ≡ 2 * N) × Full N es

-- ---- handed over

pub given_stops : (N : ℕ) (stops : List ℕ) (numbers : List ℤ) → stops_of (entries_given N stops numbers) ≡ stops
unfolding entries_given
given_stops N [] numbers = refl
given_stops N (s ∷ stops) numbers = ap (λ (r : List ℕ). s ∷ r) (given_stops N stops (drop (2 * N) numbers))

pub given_count : (N : ℕ) (stops : List ℕ) (numbers : List ℤ) → length (entries_given N stops numbers) ≡ length stops
unfolding entries_given
given_count N [] numbers = refl
given_count N (s ∷ stops) numbers = ap suc (given_count N stops (drop (2 * N) numbers))

rest_long : (N k : ℕ) (numbers : List ℤ) → length numbers ≡ 2 * N * suc k → length (drop (2 * N) numbers) ≡ 2 * N * k
rest_long N k numbers e = length-drop (2 * N) numbers ∙ omega (arith, e, mul-suc (2 * N) k)

pub given_full : (N : ℕ) (stops : List ℕ) (numbers : List ℤ) → length numbers ≡ 2 * N * length stops → Full N (entries_given N stops numbers)
unfolding entries_given
given_full N [] numbers e = tt
given_full N (s ∷ stops) numbers e =
    (length-take-le (2 * N) numbers (omega (arith, e, mul-suc (2 * N) (length stops))), given_full N stops (drop (2 * N) numbers) (rest_long N (length stops) numbers e))

pub given_numbers : (N : ℕ) (stops : List ℕ) (numbers : List ℤ) → length numbers ≡ 2 * N * length stops → numbers_of (entries_given N stops numbers) ≡ numbers
unfolding entries_given numbers_of
given_numbers N [] [] e = refl
given_numbers N [] (z ∷ numbers) e = absurd (omega arith)
given_numbers N (s ∷ stops) numbers e =
    ap (λ (r : List ℤ). take (2 * N) numbers ++ r) (given_numbers N stops (drop (2 * N) numbers) (rest_long N (length stops) numbers e)) ∙ take-append-drop (2 * N) numbers

-- entry k is stop k and the next 2N numbers
pub given_entry : (N : ℕ) (stops : List ℕ) (numbers : List ℤ) (k : ℕ) → k < length stops → get_or (entries_given N stops numbers) k (entry_is 0 []) ≡ entry_is (get_or stops k 0) (take (2 * N) (drop (2 * N * k) numbers))
unfolding entries_given
given_entry N [] numbers k h = absurd (omega arith)
given_entry N (s ∷ stops) numbers zero h = ap (λ (i : ℕ). entry_is s (take (2 * N) (drop i numbers))) (sym (mul-zero (2 * N)))
given_entry N (s ∷ stops) numbers (suc k) h =
    let e : 2 * N + 2 * N * k ≡ 2 * N * suc k = omega (arith, mul-suc (2 * N) k) in
    given_entry N stops (drop (2 * N) numbers) k (omega arith)
    ∙ ap (λ (l : List ℤ). entry_is (get_or stops k 0) (take (2 * N) l)) (drop-drop (2 * N * k) (2 * N) numbers ∙ ap (λ (i : ℕ). drop i numbers) e)

pub given_array : (N : ℕ) (stops : List ℕ) (numbers : List ℤ) (k : ℕ) → k < length stops → array_of (entries_given N stops numbers) k ≡ take (2 * N) (drop (2 * N * k) numbers)
given_array N stops numbers k h = ap (λ (e : Entry). e.array) (given_entry N stops numbers k h)

-- ---- handed out, and over again

pub numbers_count : (N : ℕ) (es : List Entry) → Full N es → length (numbers_of es) ≡ 2 * N * length es
unfolding numbers_of
numbers_count N [] f = omega arith
numbers_count N (e ∷ es) f = length-append e.array (numbers_of es) ∙ omega (arith, f.0, numbers_count N es f.1, mul-suc (2 * N) (length es))

pub given_again : (N : ℕ) (es : List Entry) → Full N es → entries_given N (stops_of es) (numbers_of es) ≡ es
unfolding entries_given numbers_of
given_again N [] f = refl
given_again N (e ∷ es) f =
    ap₂ (λ (x : List ℤ) (r : List Entry). record { stop = e.stop; array = x } ∷ r) (take_at e.array (numbers_of es) (2 * N) f.0)
    (ap (entries_given N (stops_of es)) (drop_at e.array (numbers_of es) (2 * N) f.0) ∙ given_again N es f.1)

-- ---- arrays that are reduced, under parameters that are accepted, are small

-- the first array and the others
first_small : (p : ParameterSet) (e : Entry) (es : List Entry) → Accepted p → length e.array ≡ 2 * p.N → Passes (arrays_checks p (e ∷ es)) → Small e.array × Passes (arrays_checks p es)
unfolding arrays_checks
first_small p e es ok full c =
    let k = done_holds 12 (reduced_q p.N p.q (coefficient e.array)) _ _ _ c in
    (reduced_q-small p.N p.q e.array ok.q_small (modulus_nonzero p ok) full k.0, k.1)

pub fitting_entries : (p : ParameterSet) (es : List Entry) → Accepted p → Stops16 (stops_of es) → Full p.N es → Passes (arrays_checks p es) → FittingEntries p.N es
fitting_entries p [] ok s f c = tt
fitting_entries p (e ∷ es) ok s f c =
    let k = first_small p e es ok f.0 c in
    (record { stop_small = s 0; full = f.0; fitting = fitting_small e.array k.0 }, fitting_entries p es ok (λ i. s (suc i)) f.1 k.1)

pub small_numbers : (p : ParameterSet) (es : List Entry) → Accepted p → Full p.N es → Passes (arrays_checks p es) → Small (numbers_of es)
unfolding numbers_of
small_numbers p [] ok f c = λ k. lit≤ tt
small_numbers p (e ∷ es) ok f c = let k = first_small p e es ok f.0 c in joined e.array (numbers_of es) k.0 (small_numbers p es ok f.1 k.1)
  where
    joined : (l m : List ℤ) → Small l → Small m → Small (l ++ m)
    joined [] m a b k = b k
    joined (z ∷ l) m a b zero = a 0
    joined (z ∷ l) m a b (suc k) = joined l m (λ i. a (suc i)) b k
