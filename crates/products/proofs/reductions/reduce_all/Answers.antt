-- `reduce_all` meets its contract.
use mathlib.Core.Path.{◌≡◌, refl, sym, ◌∙◌, ap, subst}
use mathlib.Core.List.{List}
use Prim.Native.Nat.{ℕ, ◌+◌, ◌*◌, ◌^◌, ◌≤◌, ◌<◌}
use native.Mathlib.Omega.{arith}
use borrow.Author.Rules.{rules}
use lib.IntN.{ℤ, pos, nat_abs}
use lib.ListN.{length, get_or}
use lib.Signed.{nat_abs-le}
use mir.Syntax.{w32}
use mir.Val.{SFits, to_z, of_z}
use mir.Facts.{to_z-of_z}
use Rattle.eisenstein.proofs.Pairs.{pair_read}
use Rattle.arrays.proofs.Changing.{stored_next, stored_all}
use Rattle.arrays.proofs.Sizes.{small_64, coefficient_read}
use Rattle.products.proofs.reductions.reduce_all.Goals as goal

-- a number of the array, read as one of 64 bits
number_read : (l : List ℤ) (k : ℕ) {z : ℤ} → SFits w32 (get_or l k (pos 0)) → z ≡ to_z w32 (of_z w32 (get_or l k (pos 0))) → (z ≡ get_or l k (pos 0)) × (nat_abs z ≤ 2 ^ 31)
number_read l k f e = let s = e ∙ to_z-of_z f in (s, subst (λ (y : ℤ). nat_abs y ≤ 2 ^ 31) (sym s) (nat_abs-le (get_or l k (pos 0)) f.sfits))

pub loop-i-preserved : goal.loop-i-preserved
loop-i-preserved g c m h =
    let x = c.loop-i.x in
    let i = c.loop-i.i in
    let v = c.loop-i.invariant m h in
    let inside : 2 * i + 1 < length x = omega (arith, v.long) in
    let a : (c.from.result ≡ get_or x (2 * i) (pos 0)) × (nat_abs c.from.result ≤ 2 ^ 31) = number_read x (2 * i) (search rules) c.from.ensures in
    let b : (c.from-in-loop-i.result ≡ get_or x (2 * i + 1) (pos 0)) × (nat_abs c.from-in-loop-i.result ≤ 2 ^ 31) = number_read x (2 * i + 1) (search rules) c.from-in-loop-i.ensures in
    let r = c.remainder-r in
    stored_next v refl inside (pair_read {w = w32} {a = r.result.a} {b = r.result.b} (search rules) (search rules) ∙ h _ _ r.result (small_64 c.from.result a.1 tt) (small_64 c.from-in-loop-i.result b.1 tt) r.ensures ∙ ap m (coefficient_read x i a b ∙ v.old i (omega arith)))

pub returns : goal.returns
returns g c m h = stored_all c.args.n (c.loop-i.invariant m h) c.requires.room.1 (omega arith)
