-- A bundle whose head, count and length are right: where its entries stand.
use mathlib.Core.Path.{◌≡◌, sym, ◌∙◌, ap}
use mathlib.Core.Bool.{true, false}
use mathlib.Core.List.{List}
use Prim.Native.Nat.{ℕ, ◌+◌, ◌*◌, ◌≤◌, ◌<◌}
use native.Mathlib.Numerals.{add-one}
use native.Mathlib.Omega.{arith}
use native.Mathlib.Nat.{mul-le-mul_left}
use lib.ListN.{length, take, drop, length-drop}
use lib.Seq.{length-take-le}
use Rattle.refusals.specs.Outcomes.{Passes}
use Rattle.refusals.proofs.Checks.{done_all, done_holds}
use Rattle.parameters.specs.Sets.{parameter_checks}
use Rattle.heads.specs.Kinds.{bundle_kind}
use Rattle.heads.specs.Heads.{head_of}
use Rattle.head_reading.specs.Calls.{head_checks}
use Rattle.files.specs.Files.{numbers_from}
use Rattle.bundles.specs.Bundles.{array_of, stop_length, entry_length, entry_start, count_of, entries_of}
use Rattle.bundles.specs.Calls.{right_length, bundle_head_checks, count_checks}
use Rattle.bundles.specs.Steps.{stands_at, part_at, next_at}
use Rattle.bundles.proofs.Lengths.{entry_length_lem, next_start, Right, right}
use Rattle.bundles.proofs.Entries.{array-is}
use Rattle.bundles.proofs.Steps.{stands, stands_not, part_here, next_here}

pub record Counted (file : List ℕ) : Type 0 where
  pub at_head : Passes (head_checks bundle_kind file)
  pub accepted : Passes (parameter_checks (head_of file))
  pub right_length_lem : Right (head_of file).N (count_of file) (length file)

pub counted : (file : List ℕ) → Passes (count_checks file) → Counted file
unfolding count_checks
counted file e =
    let k = done_all (bundle_head_checks file) _ _ _ e in
    let h = done_all (head_checks bundle_kind file) (parameter_checks (head_of file)) _ _ k.0 in
    record {
      at_head = h.0;
      accepted = h.1;
      right_length_lem = right (head_of file).N (count_of file) (length file) (done_holds 7 (right_length (head_of file).N (count_of file) (length file)) _ _ _ k.1).0;
    }

module _ (file : List ℕ) (c : Counted file) where
  abbrev N : ℕ
  N = (head_of file).N

  module _ (k : ℕ) (h : k < count_of file) where
    -- entry k ends within the bundle
    ends : entry_start N k + entry_length N ≤ length file
    unfolding entry_start
    ends = omega (arith, next_start N k, c.right_length_lem.is, mul-le-mul_left (entry_length N) h)

    pub entry_stands : stands_at file (entry_start N k) ≡ true
    entry_stands = stands file (entry_start N k) ends

    pub entry_part : part_at file (entry_start N k) ≡ take (4 * N) (drop (entry_start N k + stop_length) file)
    entry_part = part_here file (entry_start N k) entry_stands

    pub part_long : length (part_at file (entry_start N k)) ≡ 4 * N
    part_long =
        ap (λ (l : List ℕ). length l) entry_part
        ∙ length-take-le (4 * N) (drop (entry_start N k + stop_length) file) (omega (arith, length-drop (entry_start N k + stop_length) file, ends, entry_length_lem N))

    pub array_of_part : array_of (entries_of file) k ≡ numbers_from (part_at file (entry_start N k))
    array_of_part = array-is file k h ∙ ap numbers_from (sym entry_part)

    pub next_entry : next_at file (entry_start N k) ≡ entry_start N (k + 1)
    next_entry = next_here file (entry_start N k) entry_stands ∙ sym (next_start N k) ∙ ap (entry_start N) (sym (add-one k))

  -- behind the last entry none stands
  pub none_behind : stands_at file (entry_start N (count_of file)) ≡ false
  none_behind = stands_not file (entry_start N (count_of file)) (omega (arith, c.right_length_lem.is, entry_length_lem N))
