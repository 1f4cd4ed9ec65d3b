-- Blocks of one width, put one after another over a list.
use mathlib.Core.Path.{◌≡◌, sym, ◌∙◌, ap, ap₂}
use mathlib.Core.List.{List, [], ◌∷◌, ◌++◌, append_assoc, append-nil}
use Prim.Native.Nat.{ℕ, zero, suc, ◌+◌, ◌*◌, ◌≤◌, ◌<◌}
use native.Mathlib.Numerals.{add-one}
use native.Mathlib.Omega.{arith}
use native.Mathlib.Nat.{mul-suc}
use lib.IntN.{ℤ}
use lib.ListN.{length, get_or, take, drop, length-append, drop_of_length-le}
use lib.Seq.{take_at, drop_at, drop-drop}
use Rattle.bundles.specs.Bundles.{Entry, array_of, numbers_of, entry_length, entry_bytes, entries_bytes}
use Rattle.bundles.proofs.GivenEntries.{Full}
use Rattle.bundles.proofs.StoredEntries.{entry_bytes_length}

-- one block more
pub put_next : {A : Type 0} (w k n : ℕ) (old done now block : List A) → now ≡ done ++ drop (w * k) old → length done ≡ w * k → n ≡ w → take (w * k) now ++ (block ++ drop n (drop (w * k) now)) ≡ (done ++ block) ++ drop (w * (k + 1)) old
put_next {A} w k n old done now block e long same =
    let next : w * k + n ≡ w * (k + 1) = omega (arith, same, ap (λ (i : ℕ). w * i) (add-one k), mul-suc w k) in
    ap₂ ◌++◌ (ap (take (w * k)) e ∙ take_at done (drop (w * k) old) (w * k) long)
    (ap (λ (l : List A). block ++ drop n l) (ap (drop (w * k)) e ∙ drop_at done (drop (w * k) old) (w * k) long)
    ∙ ap (λ (l : List A). block ++ l) (drop-drop n (w * k) old ∙ ap (λ (i : ℕ). drop i old) next))
    ∙ sym (append_assoc done block (drop (w * (k + 1)) old))

-- nothing is left
pub put_all : {A : Type 0} (w k : ℕ) (old done now : List A) → now ≡ done ++ drop (w * k) old → length old ≡ w * k → now ≡ done
put_all {A} w k old done now e long = e ∙ ap (λ (l : List A). done ++ l) (drop_of_length-le old {i = w * k} (omega (arith, long))) ∙ append-nil done

abbrev none : Entry
none = record { stop = 0; array = [] }

-- ---- the numbers of the first entries

first_numbers : (es : List Entry) (k : ℕ) → k < length es → numbers_of (take (suc k) es) ≡ numbers_of (take k es) ++ array_of es k
unfolding numbers_of
first_numbers [] k h = absurd (omega arith)
first_numbers (e ∷ es) zero h = append-nil e.array
first_numbers (e ∷ es) (suc k) h = ap (λ (l : List ℤ). e.array ++ l) (first_numbers es k (omega arith)) ∙ sym (append_assoc e.array (numbers_of (take k es)) (array_of es k))

pub numbers_next : (es : List Entry) (k : ℕ) → k < length es → numbers_of (take (k + 1) es) ≡ numbers_of (take k es) ++ array_of es k
numbers_next es k h = ap (λ (i : ℕ). numbers_of (take i es)) (add-one k) ∙ first_numbers es k h

pub numbers_before : (N : ℕ) (es : List Entry) (k : ℕ) → Full N es → k ≤ length es → length (numbers_of (take k es)) ≡ 2 * N * k
unfolding numbers_of
numbers_before N es zero f h = omega arith
numbers_before N [] (suc k) f h = absurd (omega arith)
numbers_before N (e ∷ es) (suc k) f h = length-append e.array (numbers_of (take k es)) ∙ omega (arith, f.0, numbers_before N es k f.1 (omega arith), mul-suc (2 * N) k)

-- ---- the bytes of the first entries

pub bytes_before_lem : (N : ℕ) (es : List Entry) (k : ℕ) → Full N es → k ≤ length es → length (entries_bytes (take k es)) ≡ entry_length N * k
unfolding entries_bytes
bytes_before_lem N es zero f h = omega arith
bytes_before_lem N [] (suc k) f h = absurd (omega arith)
bytes_before_lem N (e ∷ es) (suc k) f h =
    length-append (entry_bytes e) (entries_bytes (take k es)) ∙ omega (arith, entry_bytes_length N e f.0, bytes_before_lem N es k f.1 (omega arith), mul-suc (entry_length N) k)

first_bytes : (es : List Entry) (k : ℕ) → k < length es → entries_bytes (take (suc k) es) ≡ entries_bytes (take k es) ++ entry_bytes (get_or es k none)
unfolding entries_bytes
first_bytes [] k h = absurd (omega arith)
first_bytes (e ∷ es) zero h = append-nil (entry_bytes e)
first_bytes (e ∷ es) (suc k) h =
    ap (λ (l : List ℕ). entry_bytes e ++ l) (first_bytes es k (omega arith)) ∙ sym (append_assoc (entry_bytes e) (entries_bytes (take k es)) (entry_bytes (get_or es k none)))

pub bytes_next : (es : List Entry) (k : ℕ) → k < length es → entries_bytes (take (k + 1) es) ≡ entries_bytes (take k es) ++ entry_bytes (get_or es k none)
bytes_next es k h = ap (λ (i : ℕ). entries_bytes (take i es)) (add-one k) ∙ first_bytes es k h
