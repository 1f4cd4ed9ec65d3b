-- Packing and unpacking undo each other.
use mathlib.Core.Path.{◌≡◌, refl, sym, ◌∙◌, ap, subst}
use mathlib.Core.Bool.{Bool, false, not, ◌&&◌}
use mathlib.Core.List.{List}
use Prim.Native.Nat.{ℕ, ◌*◌, ◌<◌}
use lib.Dec.{T, eqb, eqb→eq}
use lib.IntN.{ℤ}
use lib.ListN.{length}
use mir.Facts.{and_yes}
use Rattle.integers.proofs.Tests.{equal_2}
use Rattle.refusals.specs.Outcomes.{done}
use Rattle.refusals.proofs.Checks.{passed, holds_passed, none_left, done_passed, done_holds, done_value}
use Rattle.eisenstein.specs.Values.{ℤ[ω]}
use Rattle.eisenstein.specs.Reduction.{mod2}
use Rattle.parameters.specs.Sets.{outside}
use Rattle.polynomials.specs.Polynomials.{Polynomial, coefficient, array, reduced2}
use Rattle.polynomials.proofs.Arrays.{coefficient-array, array_length, array_same, array_coefficients}
use Rattle.polynomials.proofs.Members.{reduced2_at, at_reduced2}
use Rattle.packing.specs.Messages.{message_bytes, packed, spare_bit_set, unpacked}
use Rattle.packing.proofs.RoundTrips.{packed_reduced, packed_unpacks, unpacked_packs, unpacked_length, unpacked_spare, unpacked-same, is_unset}
use Rattle.message_packing.specs.Calls.{packing_checks, packing}
use Rattle.message_unpacking.specs.Calls.{unpacking_checks, unpacking}
use Rattle.message_unpacking.specs.Promises.{UnpackingUndoesPacking, PackingUndoesUnpacking}

reduced2-same : (N : ℕ) {m m' : Polynomial} → ((i : ℕ) → i < N → m i ≡ m' i) → T (reduced2 N m) → T (reduced2 N m')
reduced2-same N {m} {m'} h t =
    at_reduced2 N m' (λ i l. subst (λ (x : ℤ[ω]). mod2 x ≡ x) (h i l) (reduced2_at N m t i l))

not_set : (t : Bool) → t ≡ false → T (not t)
not_set t e = subst (λ (u : Bool). T (not u)) (sym e) tt

pub unpacking_undoes_packing : UnpackingUndoesPacking
unfolding packing packing_checks unpacking unpacking_checks
unpacking_undoes_packing N message m bytes e =
    let p = done_passed 1 (outside 3 1024 N) _ _ _ e in
    let q = done_holds 7 (eqb (length message) (message_bytes N) && eqb (2 * N) (2 * N)) _ _ _ p.1 in
    let r = done_passed 15 (spare_bit_set N message) _ _ _ q.1 in
    let v : array N (packed message) ≡ m = done_value _ _ r.1 in
    let n : length message ≡ message_bytes N = eqb→eq _ _ (and_yes (eqb (length message) (message_bytes N)) (eqb (2 * N) (2 * N)) q.0).0 in
    let same : (i : ℕ) → i < N → packed message i ≡ coefficient m i = λ i l. sym (coefficient-array N (packed message) i l) ∙ ap (λ (x : List ℤ). coefficient x i) v in
    passed 1 _ _ p.0
    ∙ holds_passed 7 (eqb (message_bytes N) (message_bytes N) && eqb (length m) (2 * N)) _ _ (equal_2 {a = message_bytes N} refl (ap length (sym v) ∙ array_length N (packed message)))
    ∙ holds_passed 11 (reduced2 N (coefficient m)) _ _ (reduced2-same N same (packed_reduced N message))
    ∙ none_left _
    ∙ ap done (unpacked-same N (λ i l. sym (same i l)) ∙ packed_unpacks N message bytes n (not_set (spare_bit_set N message) r.0))

pub packing_undoes_unpacking : PackingUndoesUnpacking
unfolding packing packing_checks unpacking unpacking_checks
packing_undoes_unpacking N m message e =
    let p = done_passed 1 (outside 3 1024 N) _ _ _ e in
    let q = done_holds 7 (eqb (message_bytes N) (message_bytes N) && eqb (length m) (2 * N)) _ _ _ p.1 in
    let r = done_holds 11 (reduced2 N (coefficient m)) _ _ _ q.1 in
    let v : unpacked N (coefficient m) ≡ message = done_value _ _ r.1 in
    let n : length m ≡ 2 * N = eqb→eq _ _ (and_yes (eqb (message_bytes N) (message_bytes N)) (eqb (length m) (2 * N)) q.0).1 in
    passed 1 _ _ p.0
    ∙ holds_passed 7 (eqb (length message) (message_bytes N) && eqb (2 * N) (2 * N)) _ _ (equal_2 {b = 2 * N} (ap length (sym v) ∙ unpacked_length N (coefficient m)) refl)
    ∙ passed 15 _ _ (is_unset (spare_bit_set N message) (subst (λ (l : List ℕ). T (not (spare_bit_set N l))) v (unpacked_spare N (coefficient m))))
    ∙ none_left _
    ∙ ap done (array_same N (λ i l. ap (λ (x : List ℕ). packed x i) (sym v) ∙ unpacked_packs N (coefficient m) r.0 i l) ∙ array_coefficients N m n)
