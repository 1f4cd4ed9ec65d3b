-- `sets_refusal` meets its contract, by the invariant that the arrays before the k-th are passed.
use Rattle.std.proofs.Common.{sym, ◌∙◌, ap, arith}
use Rattle.refusals.proofs.Errors.{passed_on}
use Rattle.refusals.specs.Numbers.{answered}
use Rattle.parameters.specs.Sets.{set_of}
use Rattle.heads.specs.Kinds.{number_of_kind}
use Rattle.files.proofs.JudgedArrays.{none_judged, all_judged, array_ends, one_more_judged, one_refused}
use Rattle.file_writing.proofs.contents.sets_refusal.Goals as goal

pub loop-k-init : goal.loop-k-init
loop-k-init c = none_judged (number_of_kind c.args.kind) (set_of c.args.p.parameters) c.args.numbers.now _ c.arrays-set-items.ensures c.requires

pub array_refusal-requires : goal.array_refusal-requires
array_refusal-requires c = array_ends (number_of_kind c.args.kind) (set_of c.args.p.parameters) c.args.numbers.now _ c.arrays-set-items.ensures c.requires c.loop-k.k c.loop-k-test.true

pub loop-k-preserved : goal.loop-k-preserved
loop-k-preserved c =
    one_more_judged (number_of_kind c.args.kind) (set_of c.args.p.parameters) c.args.numbers.now _ c.arrays-set-items.ensures c.requires c.loop-k.k c.loop-k-test.true c.args.p.passes _ c.loop-k.invariant
    (sym c.array_refusal.ensures ∙ ap answered c.in_ok-array_refusal.was)

pub returns-in_err-array_refusal : goal.returns-in_err-array_refusal
returns-in_err-array_refusal c =
    passed_on _ _ c.from_residual.ensures.1
    ∙ sym
    (one_refused (number_of_kind c.args.kind) (set_of c.args.p.parameters) c.args.numbers.now _ c.arrays-set-items.ensures c.requires c.loop-k.k c.loop-k-test.true c.args.p.passes _ c.loop-k.invariant _
    (sym c.array_refusal.ensures ∙ ap answered c.in_err-array_refusal.was))

pub returns : goal.returns
returns c = sym (all_judged (number_of_kind c.args.kind) (set_of c.args.p.parameters) c.args.numbers.now _ c.arrays-set-items.ensures c.requires c.loop-k.k (omega arith) c.loop-k.invariant)
