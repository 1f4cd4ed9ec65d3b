-- The steps of a reader: "hands out for each the stop and the part of the bundle that is its sealed array", "a step past the last entry says so".
-- Any bytes and any place have their step; in a bundle that is accepted the steps from its start on are its entries.
use Rattle.std.specs.Prelude.{None, Option, Some}
use Rattle.std.specs.Prelude.{Bool, cond, List, [], ◌∷◌, ℕ, zero, suc, ◌+◌, leb, length}
use Rattle.refusals.specs.Outcomes.{Outcome, done, refused, outcome}
use Rattle.heads.specs.Heads.{head_of}
use Rattle.bundles.specs.Bundles.{entry_length, entry_start, Stored, stored_at}
use Rattle.bundles.specs.Calls.{bundle_checks}

-- Whether an entry stands at a byte: it ends within the file.
unfoldable pub stands_at : List ℕ → ℕ → Bool
stands_at file at = leb (at + entry_length (head_of file).N) (length file)

unfoldable pub stop_at : List ℕ → ℕ → Option ℕ
stop_at file at = cond (stands_at file at) (Some (stored_at (head_of file).N file at).stop) None

unfoldable pub part_at : List ℕ → ℕ → List ℕ
part_at file at = cond (stands_at file at) (stored_at (head_of file).N file at).part []

-- The next entry stands directly behind this one; past the end a reader stays where it is.
unfoldable pub next_at : List ℕ → ℕ → ℕ
next_at file at = cond (stands_at file at) (at + entry_length (head_of file).N) at

-- Where a reader begins: at the first entry, or past the end of a file that is refused.
abbrev pub start_after : Outcome (Unit {0}) → List ℕ → ℕ
start_after (done _) file = entry_start (head_of file).N 0
start_after (refused _) file = length file

unfoldable pub start_of : List ℕ → ℕ
start_of file = start_after (outcome (bundle_checks file) tt) file

-- What a step hands out, and what n steps from a byte on hand out, one after another.
pub record Handed : Type 0 where
  pub stop : Option ℕ
  pub part : List ℕ

abbrev pub past : Handed
past = record { stop = None; part = [] }

abbrev pub handed : Stored → Handed
handed e = record { stop = Some e.stop; part = e.part }

-- Where a reader is after k steps.
unfoldable pub place_after : List ℕ → (at k : ℕ) → ℕ
place_after file at zero = at
place_after file at (suc k) = next_at file (place_after file at k)

unfoldable pub walk : List ℕ → (at n : ℕ) → List Handed
walk file at zero = []
walk file at (suc n) = record { stop = stop_at file at; part = part_at file at } ∷ walk file (next_at file at) n
