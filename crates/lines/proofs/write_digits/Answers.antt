-- `write_digits` meets its contract.
use mathlib.Core.Path.{◌≡◌, refl, ◌∙◌}
use mathlib.Core.List.{List, [], ◌∷◌, ◌++◌}
use Prim.Native.Nat.{ℕ, zero, suc, ◌+◌, ◌*◌, ◌/◌, ◌%◌, ◌≤◌, ◌<◌}
use native.Mathlib.Nat.{zero-add}
use native.Mathlib.Numerals.{add-one}
use native.Mathlib.Omega.{arith}
use lib.ListN.{length, get_or, set, take, drop, length-append}
use lib.Seq.{sets, sets-eq, length-take-le, take_all}
use Rattle.integers.proofs.Stores.{go_on}
use Rattle.lines.specs.Lines.{decimal, hex_digit, hex}
use Rattle.lines.proofs.Written.{hex_length}
use Rattle.lines.proofs.write_digits.Goals as goal

-- one more byte
hex-next : (l : List ℕ) (i : ℕ) → i < length l → hex (take (suc i) l) ≡ hex (take i l) ++ (hex_digit (get_or l i 0 / 16) ∷ hex_digit (get_or l i 0 % 16) ∷ [])
unfolding hex
hex-next [] i h = absurd (omega arith)
hex-next (b ∷ rest) zero h = refl
hex-next (b ∷ rest) (suc i) h = rw (hex-next rest i (omega arith))

-- the two stores of a turn
turn : (m start line : List ℕ) (i a b : ℕ) → i < length m → line ≡ sets start 2 (hex (take i m)) → a ≡ hex_digit (get_or m i 0 / 16) → b ≡ hex_digit (get_or m i 0 % 16) → set (set line (2 + 2 * i) a) (3 + 2 * i) b ≡ sets start 2 (hex (take (i + 1) m))
turn m start line i a b h e p q =
    let k : 3 + 2 * i ≡ suc (2 + 2 * i) = omega arith in
    rw (e, p, q, k, add-one, hex-next) (go_on (hex (take i m)) (_ ∷ _ ∷ []) start 2 _ (omega (arith, hex_length (take i m), length-take-le i m (omega arith))))

-- the line of a message
abbrev whole : List ℕ → List ℕ
whole m = 48 ∷ 32 ∷ hex m ++ (10 ∷ [])

whole_length : (m : List ℕ) → 2 + 2 * length m + 1 ≡ length (whole m)
whole_length m = omega (arith, length-append (hex m) (10 ∷ []), hex_length m)

-- the last store
ended : (m start line : List ℕ) (i : ℕ) → 2 + 2 * length m < length start → length m ≤ i → line ≡ sets start 0 (48 ∷ 32 ∷ hex (take i m)) → set line (2 + 2 * length m) 10 ≡ whole m ++ drop (2 + 2 * length m + 1) start
ended m start line i h p e =
    rw (e, take_all, whole_length)
    (go_on (48 ∷ 32 ∷ hex m) (10 ∷ []) start 0 _ (omega (arith, hex_length m)) ∙ (simp zero-add at (sets-eq (whole m) start 0 (omega (arith, whole_length m)))))

pub loop-i-init : goal.loop-i-init
unfolding hex
loop-i-init c = refl

pub loop-i-preserved : goal.loop-i-preserved
loop-i-preserved c = turn _ _ _ _ _ _ c.loop-i-test.true c.loop-i.invariant c.hex_digit.ensures c.hex_digit-in-loop-i.ensures

pub returns : goal.returns
unfolding decimal
returns c = (whole_length c.args.message.now, ended _ _ _ _ (omega arith) c.loop-i-test.false c.loop-i.invariant)
