-- What the checks of a head leave, where all are passed.
use mathlib.Core.Path.{◌≡◌}
use mathlib.Core.Bool.{◌&&◌}
use mathlib.Core.List.{List}
use Prim.Native.Nat.{ℕ, ◌≤◌}
use borrow.Author.Tests.{ltb-false}
use lib.Dec.{T, ltb, eqb, eqb→eq}
use lib.ListN.{length, get_or}
use mir.Facts.{and_yes}
use Rattle.refusals.specs.Outcomes.{Passes}
use Rattle.refusals.proofs.Checks.{done_passed, done_holds}
use Rattle.integers.proofs.Tests.{are_equal_3}
use Rattle.heads.specs.Kinds.{known_kind}
use Rattle.heads.specs.Heads.{head_length, version, unsigned_at}
use Rattle.head_reading.specs.Calls.{marked, version_one, head_checks}

pub record Head (kind : ℕ) (file : List ℕ) : Type 0 where
  pub long : head_length ≤ length file
  pub mark : (get_or file 0 0 ≡ 69) × (get_or file 1 0 ≡ 73) × (get_or file 2 0 ≡ 90)
  pub version-is : unsigned_at file 3 ≡ version
  pub known : T (known_kind kind)
  pub kind_is : get_or file 5 0 ≡ kind

pub head_passed : (kind : ℕ) (file : List ℕ) → Passes (head_checks kind file) → Head kind file
unfolding head_checks marked version_one
head_passed kind file e =
    let k16 = done_passed 16 (ltb (length file) head_length) _ _ _ e in
    let k17 = done_holds 17 (marked file) _ _ _ k16.1 in
    let k18 = done_holds 18 (version_one file) _ _ _ k17.1 in
    let k19 = done_holds 19 (known_kind kind && eqb (get_or file 5 0) kind) _ _ _ k18.1 in
    let k = and_yes (known_kind kind) (eqb (get_or file 5 0) kind) k19.0 in
    record {
      long = ltb-false (length file) head_length k16.0;
      mark = are_equal_3 (get_or file 0 0) 69 (get_or file 1 0) 73 (get_or file 2 0) 90 k17.0;
      version-is = eqb→eq (unsigned_at file 3) version k18.0;
      known = k.0;
      kind_is = eqb→eq (get_or file 5 0) kind k.1;
    }
