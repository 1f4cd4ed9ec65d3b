-- `starts_of` meets its contract. The loop's invariant: the runs that the classes so far bring are listed.
use mathlib.Core.Path.{◌≡◌, refl, sym, ◌∙◌, ap, subst}
use mathlib.Core.List.{List}
use Prim.Native.Nat.{ℕ, ◌+◌, ◌-◌, ◌*◌, ◌≤◌, ◌<◌}
use native.Mathlib.Omega.{arith}
use lib.ListN.{length, get_or, set, length-set}
use lib.Seq.{get_or-set_same}
use Rattle.class_products.specs.Steps.{Starts, row_start, row_starts}
use Rattle.class_products.proofs.StartsOf.{row_start_most, starts_none, starts_kept, starts_more, starts_same}
use Rattle.class_products.proofs.starts.starts_of.Goals as goal
use Rattle.class_products.proofs.starts.starts_of.Goals.{Start, then-c-ne0, else-c-ne0}

abbrev class : Start → ℕ → ℕ
class s j = get_or s.args.classes.now j 0

-- where a row begins, and a run at most
begins : (n c : ℕ) {rows : List ℕ} → rows ≡ row_starts n → get_or rows c 0 ≡ row_start n c
unfolding row_start
begins n c e = ap (λ (l : List ℕ). get_or l c 0) e

most : (n c j : ℕ) {rows : List ℕ} → n ≤ 1024 → rows ≡ row_starts n → get_or rows c 0 + (n - j) ≤ 5 * 1024
most n c j p e = omega (arith, row_start_most n c, begins n c e)

pub loop-j-init : goal.loop-j-init
loop-j-init c = (omega arith, refl, starts_none (length c.args.classes.now) (class (goal.at.loop-j-init c).Start) c.args.starts.now)

pub loop-j-preserved : goal.loop-j-preserved
loop-j-preserved c =
    let n : ℕ = length c.args.classes.now in
    let x = class (goal.at.loop-j-preserved c).Start in
    let j : ℕ = c.loop-j.j in
    let k : ℕ = c.from-c.result in
    let v : ℕ = get_or c.row_starts-rows.result k 0 + (n - j) in
    let listed = set c.loop-j.starts c.loop-j.count v in
    let kept = starts_kept n x c.loop-j.starts v c.loop-j.invariant.2 in
    let long = length-set c.loop-j.starts c.loop-j.count v ∙ c.loop-j.invariant.1 in
    let room : c.loop-j.count < length c.loop-j.starts = omega (arith, c.loop-j.invariant.0, c.loop-j.invariant.1, c.requires.1) in
    let written = get_or-set_same c.loop-j.starts c.loop-j.count v 0 room ∙ ap (λ (b : ℕ). b + (n - j)) (begins n k c.row_starts-rows.ensures ∙ ap (row_start n) c.from-c.ensures) in
    elim c.if-c-ne0.branch [
      | then-c-ne0 w ↦ (omega (arith, w.count-is, c.loop-j.invariant.0), long, subst (Starts n (j + 1) x listed) (sym w.count-is) (starts_more n x listed (omega arith) kept written (λ e. w.if-c-ne0.true (c.from-c.ensures ∙ e))))
      | else-c-ne0 w ↦ (omega (arith, w.count-is, c.loop-j.invariant.0), long, subst (Starts n (j + 1) x listed) (sym w.count-is) (starts_same n x listed kept (sym c.from-c.ensures ∙ w.if-c-ne0.false)))
    ]
