-- `write_numbers` meets its contract.
use mathlib.Core.Path.{◌≡◌, sym, ◌∙◌, subst}
use mathlib.Core.Bool.{Bool, true}
use Prim.Native.Nat.{◌*◌}
use borrow.Author.Tests.{eqb-true}
use lib.Dec.{T, eqb}
use lib.ListN.{length}
use Rattle.arrays.specs.Arrays.{all_small}
use Rattle.arrays.proofs.Sizes.{are_within}
use Rattle.stored_numbers.proofs.write_numbers.Goals as goal
use Rattle.stored_numbers.proofs.write_numbers.Goals.{Start}

-- the two tests
abbrev right : Start → Bool
right s = eqb (length s.args.bytes.now) (2 * length s.args.numbers.now)

abbrev small : Start → Bool
small s = all_small s.args.numbers.now

pub write_into-requires : goal.write_into-requires
write_into-requires c =
    let right_length_lem : right (goal.at.write_into-requires c).Start ≡ true = sym c.two_each.ensures ∙ c.if-not-two_each.false in
    let all_small_lem : small (goal.at.write_into-requires c).Start ≡ true = sym c.all_small.ensures ∙ c.if-not-all_small.false in
    (eqb-true _ _ right_length_lem, are_within 5461 _ (subst T (sym all_small_lem) tt))
