-- `join` meets its contract.
use Prim.Native.Nat.{ℕ, ◌<◌, ◌+◌, ◌-◌, ◌*◌, ◌^◌, ◌≤◌}
use native.Mathlib.Omega.{arith}
use borrow.Author.Rules.{rules}
use lib.IntN.{nat_abs}
use lib.ListN.{get_or}
use Rattle.halved_products.specs.Steps.{Added, Subtracted}
use Rattle.halved_products.proofs.Joining.{num, join_is, size_first, size_last, size_both, size_old, second}
use Rattle.halved_products.proofs.Putting.{put_by, at_default}
use Rattle.halved_products.proofs.halves.join.Goals as goal
use Rattle.halved_products.proofs.halves.join.Goals.{After-combine, After-combine-2}

less_first : (c : After-combine) → Subtracted (4 * c.args.n) 0 (4 * c.args.h) c.args.w.now c.combine.new.x
less_first c = put_by c.combine.ensures (λ i v p e. search rules)

less_last : (c : After-combine-2) → Subtracted (4 * c.args.n) (4 * c.args.h) (4 * (c.args.n - c.args.h)) c.combine.new.x c.combine-2.new.x
less_last c =
    let n = c.args.n in
    let h = c.args.h in
    let w = c.args.w.now in
    let b = c.combine.new.x in
    let bound = c.requires.n_bound in
    let s : Subtracted (4 * n) 0 (4 * h) w b = put_by c.combine.ensures (λ i v p e. search rules) in
    put_by c.combine-2.ensures (λ k v p e.
    let middle : nat_abs (num b (4 * n + k)) ≤ 2 ^ 61 = size_first n h w b bound.1 s c.requires.by_index k (omega arith) in
    let last : nat_abs (num b (4 * h + k)) ≤ 2 ^ 61 = size_last n h w b bound.1 bound.2 s c.requires.by_index k p in
    search rules)

pub combine-requires-2-clause-callable : goal.combine-requires-2-clause-callable
combine-requires-2-clause-callable c d k p =
    let n = c.args.n in
    let h = c.args.h in
    let w = c.args.w.now in
    let b = c.combine.new.x in
    let bound = c.requires.n_bound in
    let s = less_first (goal.at.combine-requires-2-clause-callable c).After-combine in
    let middle : nat_abs (get_or b (4 * n + k) d) ≤ 2 ^ 61 = at_default b (4 * n + k) d (omega arith) (size_first n h w b bound.1 s c.requires.by_index k (omega arith)) in
    let last : nat_abs (get_or b (4 * h + k) d) ≤ 2 ^ 61 = at_default b (4 * h + k) d (omega arith) (size_last n h w b bound.1 bound.2 s c.requires.by_index k p) in
    search rules

-- the middle product is so small then that it can be added to the others
sizes : (c : After-combine-2) (k : ℕ) → k < 4 * c.args.h → (nat_abs (num c.combine-2.new.x (2 * c.args.h + k)) ≤ 2 ^ 61) × (nat_abs (num c.combine-2.new.x (4 * c.args.n + k)) ≤ 2 ^ 61)
sizes c k p =
    let n = c.args.n in
    let h = c.args.h in
    let w = c.args.w.now in
    let b = c.combine.new.x in
    let m = c.combine-2.new.x in
    let bound = c.requires.n_bound in
    let s : Subtracted (4 * n) 0 (4 * h) w b = put_by c.combine.ensures (λ i v p e. search rules) in
    let t = less_last c in
    (size_old n h w b m bound.1 bound.2 bound.3 s t c.requires.by_index m (2 * h + k) (second n h w b m bound.1 bound.2 bound.3 s t (2 * h + k) (omega arith)) (omega arith), size_both n h w b m bound.1 bound.2 bound.3 s t c.requires.by_index k p)

pub combine-requires-3-clause-callable : goal.combine-requires-3-clause-callable
combine-requires-3-clause-callable c d k p =
    let n = c.args.n in
    let h = c.args.h in
    let m = c.combine-2.new.x in
    let both = sizes (goal.at.combine-requires-3-clause-callable c).After-combine-2 k p in
    let outer : nat_abs (get_or m (2 * h + k) d) ≤ 2 ^ 61 = at_default m (2 * h + k) d (omega arith) both.0 in
    let middle : nat_abs (get_or m (4 * n + k) d) ≤ 2 ^ 61 = at_default m (4 * n + k) d (omega arith) both.1 in
    search rules

pub returns : goal.returns
returns c =
    let n = c.args.n in
    let h = c.args.h in
    let bound = c.requires.n_bound in
    let u : Added (2 * h) (4 * n) (4 * h) c.combine-2.new.x c.combine-3.new.x = put_by c.combine-3.ensures (λ k v p e. let both = sizes (goal.at.returns c).After-combine-2 k p in search rules) in
    join_is n h c.args.w.now c.combine.new.x c.combine-2.new.x bound.1 bound.2 bound.3 (less_first (goal.at.returns c).After-combine) (less_last (goal.at.returns c).After-combine-2) c.combine-3.new.x u
