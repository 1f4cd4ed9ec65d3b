-- The steps of a reader, where an entry stands and where none does.
use Rattle.std.specs.Prelude.{None, Some}
use mathlib.Core.Path.{◌≡◌, ap}
use mathlib.Core.Bool.{Bool, true, false, cond}
use mathlib.Core.List.{List, []}
use Prim.Native.Nat.{ℕ, ◌+◌, ◌*◌, ◌≤◌, ◌<◌}
use borrow.Author.Tests.{le-leb, lt-leb, leb-true}
use lib.ListN.{length, take, drop}
use Rattle.refusals.specs.Outcomes.{Outcome, refused, outcome, Passes}
use Rattle.heads.specs.Heads.{head_of}
use Rattle.bundles.specs.Bundles.{entry_length, entry_start, stop_length, stop_in, stored_at}
use Rattle.bundles.specs.Calls.{bundle_checks}
use Rattle.bundles.specs.Steps.{stands_at, stop_at, part_at, next_at, start_after, start_of}

module _ (file : List ℕ) (at : ℕ) where
  pub stands : at + entry_length (head_of file).N ≤ length file → stands_at file at ≡ true
  unfolding stands_at
  stands h = le-leb (at + entry_length (head_of file).N) (length file) h

  pub stands_not : length file < at + entry_length (head_of file).N → stands_at file at ≡ false
  unfolding stands_at
  stands_not h = lt-leb (at + entry_length (head_of file).N) (length file) h

  pub ends_within : stands_at file at ≡ true → at + entry_length (head_of file).N ≤ length file
  unfolding stands_at
  ends_within e = leb-true (at + entry_length (head_of file).N) (length file) e

  -- past the end
  module _ (e : stands_at file at ≡ false) where
    pub stop_past : stop_at file at ≡ None
    unfolding stop_at
    stop_past = ap (λ (t : Bool). cond t (Some (stored_at (head_of file).N file at).stop) None) e

    pub part_past : part_at file at ≡ []
    unfolding part_at
    part_past = ap (λ (t : Bool). cond t (stored_at (head_of file).N file at).part []) e

    pub next_past : next_at file at ≡ at
    unfolding next_at
    next_past = ap (λ (t : Bool). cond t (at + entry_length (head_of file).N) at) e

  -- what is handed out, and where the next entry stands
  module _ (e : stands_at file at ≡ true) where
    pub stop_here : stop_at file at ≡ Some (stop_in file at)
    unfolding stop_at stored_at
    stop_here = ap (λ (t : Bool). cond t (Some (stop_in file at)) None) e

    pub part_here : part_at file at ≡ take (4 * (head_of file).N) (drop (at + stop_length) file)
    unfolding part_at stored_at
    part_here = ap (λ (t : Bool). cond t (take (4 * (head_of file).N) (drop (at + stop_length) file)) []) e

    pub next_here : next_at file at ≡ at + entry_length (head_of file).N
    unfolding next_at
    next_here = ap (λ (t : Bool). cond t (at + entry_length (head_of file).N) at) e

-- where a reader begins
module _ (file : List ℕ) where
  pub starts : Passes (bundle_checks file) → start_of file ≡ entry_start (head_of file).N 0
  unfolding start_of
  starts e = ap (λ (o : Outcome (Unit {0})). start_after o file) e

  pub starts_past : {n : ℕ} → outcome (bundle_checks file) (tt {0}) ≡ refused n → start_of file ≡ length file
  unfolding start_of
  starts_past e = ap (λ (o : Outcome (Unit {0})). start_after o file) e
