-- `right_length` meets its contract.
use mathlib.Core.Path.{sym, ◌∙◌, ap}
use Prim.Native.Nat.{ℕ, ◌+◌, ◌*◌, ◌^◌, ◌≤◌, ◌<◌}
use native.Mathlib.Omega.{arith}
use native.Mathlib.Nat.{mul-le-mul}
use borrow.Author.Tests.{lt-leb}
use lib.Dec.{eqb}
use mathlib.Core.Logic.{inl, inr}
use Rattle.bundles.specs.Bundles.{longest_bundle, entry_start}
use Rattle.bundles.proofs.Lengths.{entry_length_lem, too_long_lem, too_many, short_enough}
use Rattle.bundles.proofs.right_length.Goals as goal
use Rattle.bundles.proofs.right_length.Goals.{After-entry_length, then-file-le-LONGEST_BUNDLE, else-file-le-LONGEST_BUNDLE}

-- the bytes of all entries fit a machine number
fits : (c : After-entry_length) → c.entry_length.result * c.args.count ≤ (2 + 4 * 2 ^ 32) * 65536
fits c =
    let short : c.entry_length.result ≤ 2 + 4 * 2 ^ 32 = omega (arith, c.entry_length.ensures, entry_length_lem c.args.n) in
    mul-le-mul short c.if-count-le-LONGEST_BUNDLE.true.1

pub overflow_mul-result : goal.overflow_mul-result
overflow_mul-result c = omega (arith, fits c)

pub overflow_add-result : goal.overflow_add-result
overflow_add-result c = omega (arith, fits c)

pub returns-then-count-le-LONGEST_BUNDLE : goal.returns-then-count-le-LONGEST_BUNDLE
unfolding entry_start
returns-then-count-le-LONGEST_BUNDLE c =
    ap (λ (l : ℕ). eqb c.args.file (18 + l * c.args.count)) c.entry_length.ensures ∙ sym (short_enough c.args.n c.args.count c.args.file c.if-count-le-LONGEST_BUNDLE.true.0)

pub returns-else-count-le-LONGEST_BUNDLE : goal.returns-else-count-le-LONGEST_BUNDLE
returns-else-count-le-LONGEST_BUNDLE c =
    elim c.if-file-le-LONGEST_BUNDLE.branch [
      | then-file-le-LONGEST_BUNDLE w ↦
          let many : longest_bundle < c.args.count = elim c.if-count-le-LONGEST_BUNDLE.either [ inl h ↦ h.1 | inr h ↦ absurd (omega arith) ] in
          w.t-5-is ∙ lt-leb _ _ many ∙ sym (too_many _ _ _ many)
      | else-file-le-LONGEST_BUNDLE w ↦
          let long : longest_bundle < c.args.file = w.if-file-le-LONGEST_BUNDLE.false in w.t-5-is ∙ lt-leb _ _ long ∙ sym (too_long_lem _ _ _ long)
    ]
