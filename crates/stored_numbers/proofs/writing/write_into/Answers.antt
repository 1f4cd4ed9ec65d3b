-- `write_into` meets its contract. The loop's invariant: the bytes of the numbers passed are stored from the first byte on.
use mathlib.Core.Path.{◌≡◌, refl, sym, ◌∙◌, ap}
use mathlib.Core.List.{List, [], ◌∷◌, ◌++◌, append-nil}
use Prim.Native.Nat.{ℕ, zero, suc, ◌+◌, ◌*◌, ◌≤◌, ◌<◌}
use native.Mathlib.Numerals.{add-one}
use native.Mathlib.Omega.{arith}
use native.Mathlib.Nat.{le_trans}
use lib.Dec.{lit≤}
use lib.IntN.{ℤ, pos, nat_abs}
use lib.ListN.{length, get_or, set, take, drop_of_length-le}
use lib.Seq.{sets, sets-eq, length-take-le, take_all}
use mir.Syntax.{w16, w32}
use mir.Val.{to_z, of_z}
use mir.Facts.{to_z-of_z}
use Rattle.heads.specs.Heads.{bytes16, bits16}
use Rattle.files.specs.Files.{bytes_of}
use Rattle.heads.proofs.Handed.{read_32}
use Rattle.std.specs.Int.{to_be_bytes}
use Rattle.heads.proofs.Numbers.{Fits16, fits_small, bits_machine, bits_lt, machine_bytes}
use Rattle.files.proofs.Lists.{bytes_length}
use Rattle.integers.proofs.Stores.{go_on}
use Rattle.stored_numbers.proofs.writing.write_into.Goals as goal

-- one more number
bytes_next : (l : List ℤ) (i : ℕ) → i < length l → bytes_of (take (suc i) l) ≡ bytes_of (take i l) ++ bytes16 (bits16 (get_or l i (pos 0)))
unfolding bytes_of bytes16
bytes_next [] i h = absurd (omega arith)
bytes_next (z ∷ rest) zero h = refl
bytes_next (z ∷ rest) (suc i) h = rw (bytes_next rest i (omega arith))

-- the two stores of a turn
turn : (l : List ℤ) (start bytes two : List ℕ) (i : ℕ) → i < length l → bytes ≡ sets start 0 (bytes_of (take i l)) → two ≡ bytes16 (bits16 (get_or l i (pos 0))) → set (set bytes (2 * i) (get_or two 0 0)) (2 * i + 1) (get_or two 1 0) ≡ sets start 0 (bytes_of (take (i + 1) l))
unfolding bytes16
turn l start bytes two i h e p =
    rw (e, p, add-one, add-one, bytes_next) (go_on (bytes_of (take i l)) (_ ∷ _ ∷ []) start 0 _ (omega (arith, bytes_length (take i l), length-take-le i l (omega arith))))

-- all numbers are written
ended : (l : List ℤ) (start bytes : List ℕ) (i : ℕ) → length start ≡ 2 * length l → length l ≤ i → bytes ≡ sets start 0 (bytes_of (take i l)) → bytes ≡ bytes_of l
ended l start bytes i n h e =
    e
    ∙ ap (λ (x : List ℤ). sets start 0 (bytes_of x)) (take_all i l h)
    ∙ sets-eq (bytes_of l) start 0 (omega (arith, bytes_length l))
    ∙ ap (λ (x : List ℕ). bytes_of l ++ x) (drop_of_length-le start {i = 0 + length (bytes_of l)} (omega (arith, bytes_length l)))
    ∙ append-nil (bytes_of l)

pub loop-i-init : goal.loop-i-init
unfolding bytes_of
loop-i-init c = refl

pub loop-i-preserved : goal.loop-i-preserved
loop-i-preserved c =
    let element : ℤ = get_or c.args.numbers.now c.loop-i.i (pos 0) in
    let small : nat_abs element ≤ 5461 = c.requires.1 c.loop-i.i in
    let fits : Fits16 element = fits_small element small in
    let read : to_z w16 (of_z w16 (to_z w32 (of_z w32 element))) ≡ element = ap (λ (z : ℤ). to_z w16 (of_z w16 z)) (read_32 element (le_trans small (lit≤ tt))) ∙ to_z-of_z fits in
    let bits : of_z w16 (to_z w16 (of_z w16 (to_z w32 (of_z w32 element)))) ≡ bits16 element = ap (of_z w16) read ∙ sym (bits_machine element) in
    turn _ _ _ _ _ c.loop-i-test.true c.loop-i.invariant (c.to_be_bytes.ensures ∙ ap (to_be_bytes w16) bits ∙ machine_bytes (bits_lt fits))

pub returns : goal.returns
returns c = ended _ _ _ _ c.requires.0 c.loop-i-test.false c.loop-i.invariant
