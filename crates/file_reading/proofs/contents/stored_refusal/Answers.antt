-- `stored_refusal` meets its contract, by the invariant that the arrays before the k-th are passed.
use Rattle.std.proofs.Common.{◌≡◌, ◌*◌, ℕ, List, sym, ◌∙◌, ap, length, arith}
use Rattle.refusals.proofs.Errors.{passed_on}
use Rattle.refusals.specs.Numbers.{answered}
use Rattle.parameters.specs.Sets.{set_of}
use Rattle.heads.specs.Kinds.{number_of_kind}
use Rattle.files.specs.Files.{file_numbers, numbers_from}
use Rattle.files.proofs.Lists.{numbers_length}
use Rattle.files.proofs.JudgedArrays.{none_judged, all_judged, array_ends, one_more_judged, one_refused}
use Rattle.file_reading.proofs.contents.stored_refusal.Goals as goal

-- two bytes for each number
long : (kind n : ℕ) (bytes : List ℕ) → length bytes ≡ 2 * file_numbers kind n → length (numbers_from bytes) ≡ file_numbers kind n
long kind n bytes e = omega (arith, numbers_length bytes)

pub loop-k-init : goal.loop-k-init
loop-k-init c =
    record {
      lent = omega arith;
      judged = none_judged (number_of_kind c.args.kind) (set_of c.args.p.parameters) (numbers_from c.args.bytes.now) _ c.arrays-set-items.ensures (long _ _ _ c.requires.0);
    }

pub stored_array_refusal-requires : goal.stored_array_refusal-requires
stored_array_refusal-requires c =
    let ends = array_ends (number_of_kind c.args.kind) (set_of c.args.p.parameters) (numbers_from c.args.bytes.now) _ c.arrays-set-items.ensures (long _ _ _ c.requires.0) c.loop-k.k c.loop-k-test.true in
    (omega (arith, numbers_length c.args.bytes.now), omega arith)

pub loop-k-preserved : goal.loop-k-preserved
loop-k-preserved c =
    record {
      lent = omega arith;
      judged =
          one_more_judged (number_of_kind c.args.kind) (set_of c.args.p.parameters) (numbers_from c.args.bytes.now) _ c.arrays-set-items.ensures (long _ _ _ c.requires.0) c.loop-k.k c.loop-k-test.true c.args.p.passes _ c.loop-k.invariant.judged
          (sym c.stored_array_refusal.ensures ∙ ap answered c.in_ok-stored_array_refusal.was);
    }

pub returns-in_err-stored_array_refusal : goal.returns-in_err-stored_array_refusal
returns-in_err-stored_array_refusal c =
    passed_on _ _ c.from_residual.ensures.1
    ∙ sym
    (one_refused (number_of_kind c.args.kind) (set_of c.args.p.parameters) (numbers_from c.args.bytes.now) _ c.arrays-set-items.ensures (long _ _ _ c.requires.0) c.loop-k.k c.loop-k-test.true c.args.p.passes _ c.loop-k.invariant.judged _
    (sym c.stored_array_refusal.ensures ∙ ap answered c.in_err-stored_array_refusal.was))

pub returns : goal.returns
returns c = sym (all_judged (number_of_kind c.args.kind) (set_of c.args.p.parameters) (numbers_from c.args.bytes.now) _ c.arrays-set-items.ensures (long _ _ _ c.requires.0) c.loop-k.k (omega arith) c.loop-k.invariant.judged)
