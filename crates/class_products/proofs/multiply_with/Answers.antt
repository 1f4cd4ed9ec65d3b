-- `multiply_with` meets its contract.
use mathlib.Core.Path.{◌≡◌, ◌∙◌, ap, subst}
use Prim.Native.Nat.{ℕ, ◌+◌}
use native.Mathlib.Omega.{arith}
use lib.ListN.{length, get_or, take}
use lib.Seq.{get_or-take, length-take-le}
use Rattle.polynomials.specs.Polynomials.{coefficient}
use Rattle.polynomials.proofs.Arrays.{array_same}
use Rattle.classes.proofs.Standing.{class_of_a_value}
use Rattle.class_products.specs.Steps.{class_at, Rows, Starts, Sums}
use Rattle.classes.specs.Classes.{sum}
use Rattle.class_products.proofs.RunSums.{sum_same}
use Rattle.class_products.proofs.Products.{sums_are}
use Rattle.class_products.proofs.multiply_with.Goals as goal

pub lay_rows-requires : goal.lay_rows-requires
lay_rows-requires c = let h = c.classes_of.ensures in
    record { classes_bound = (omega (arith, h.0, c.requires.arrays.0), omega (arith, h.0, c.requires.room)); classes = λ k p. omega (arith, h.1 k (omega (arith, h.0)), (class_of_a_value (coefficient c.args.y.now k)).0) }

pub starts_of-count-requires : goal.starts_of-count-requires
starts_of-count-requires c = let h = c.classes_of-2.ensures in
    (omega (arith, h.0, c.classes_of.ensures.0, c.requires.arrays.0), omega (arith, h.0, c.classes_of.ensures.0, c.requires.room), λ k p. omega (arith, h.1 k (omega (arith, h.0)), (class_of_a_value (coefficient c.args.x.now k)).0))

pub returns : goal.returns
returns c =
    let n : ℕ = length c.args.classes.now in
    let h = c.classes_of in
    let r = c.lay_rows in
    let g = c.classes_of-2 in
    let t = c.starts_of-count in
    let a = c.add_runs in
    let starts = t.new.starts in
    let e : length h.new.classes ≡ n = h.ensures.0 in
    let laid : Rows n (λ k. get_or h.new.classes k 0) r.new.rows = subst (λ (m : ℕ). Rows m (λ k. get_or h.new.classes k 0) r.new.rows) e r.ensures.1 in
    let listed : Starts n n (λ j. get_or g.new.classes j 0) starts t.result = subst (λ (m : ℕ). Starts m m (λ j. get_or g.new.classes j 0) starts t.result) (g.ensures.0 ∙ e) t.ensures.1 in
    let long : length (take t.result starts) ≡ t.result = length-take-le t.result starts (omega (arith, listed.few, t.ensures.0, c.requires.room.2)) in
    let added : Sums r.new.rows starts t.result a.new.sums = λ k p. a.ensures.1 k p ∙ ap (λ (m : ℕ). sum m (class_at r.new.rows (take t.result starts) k)) long ∙ sum_same t.result (λ i q. ap (λ (b : ℕ). get_or r.new.rows (b + k) 0) (get_or-take t.result starts i 0 q)) in
    c.write_remainders.ensures
    ∙ array_same n (λ k p.
    sums_are n (coefficient c.args.x.now) (coefficient c.args.y.now) g.new.classes h.new.classes r.new.rows starts a.new.sums t.result (λ j q. g.ensures.1 j (omega (arith, e))) h.ensures.1 laid listed added (omega (arith, a.ensures.0, c.requires.sums.0)) k p)
