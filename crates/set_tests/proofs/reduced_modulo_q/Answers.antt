-- `reduced_modulo_q` meets its contract: each test is the definition's.
use mathlib.Core.Path.{◌≡◌, sym, ◌∙◌, ap₂, subst}
use mathlib.Core.Bool.{false}
use borrow.Author.Rules.{rules}
use borrow.Author.Tests.{eqb-true, not-true}
use lib.Dec.{T}
use Rattle.eisenstein.specs.Values.{value}
use Rattle.eisenstein.proofs.Equality.{same_true}
use Rattle.eisenstein.proofs.Pairs.{pair_read}
use Rattle.set_tests.proofs.Sized.{wide}
use Rattle.set_tests.proofs.reduced_modulo_q.Goals as goal
use Rattle.set_tests.proofs.reduced_modulo_q.Goals.{then-x-n, else-x-n, then-not-modulus_out_of_range, else-not-modulus_out_of_range}

pub all_reduced_modulo_q-requires : goal.all_reduced_modulo_q-requires
all_reduced_modulo_q-requires c =
    let passed = c.if-not-is_zero.true in
    elim c.if-not-modulus_out_of_range.branch [
      | then-not-modulus_out_of_range w ↦
          elim c.if-x-n.branch [
            | then-x-n v ↦
                let not_zero : w.is_zero.result ≡ false = not-true _ (sym w.value-is ∙ passed) in (
                  search rules,
                  v.if-x-n.true,
                  record {
                    in_range = sym v.modulus_out_of_range.ensures ∙ not-true _ (sym v.value-is ∙ w.if-not-modulus_out_of_range.true);
                    not_zero = λ e. subst T (sym (same_true (ap₂ value (wide c.ranges.c w.from.ensures) (wide c.ranges.d w.from-then-not-modulus_out_of_range.ensures) ∙ sym (pair_read c.ranges.c c.ranges.d) ∙ e)) ∙ sym w.is_zero.ensures ∙ not_zero) tt;
                  },
                )
            | else-x-n v ↦ absurd (v.if-x-n.false (eqb-true _ _ (sym v.value-is ∙ w.if-not-modulus_out_of_range.true)))
          ]
      | else-not-modulus_out_of_range w ↦ cc (passed, w.value-is, w.if-not-modulus_out_of_range.false)
    ]
