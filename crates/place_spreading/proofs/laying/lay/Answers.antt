-- `lay` meets its contract.
use mathlib.Core.Path.{◌≡◌, sym, ◌∙◌, ap, subst}
use mathlib.Core.Bool.{true, false, not}
use native.Mathlib.Omega.{arith}
use borrow.Author.Tests.{not-true, not-false}
use Rattle.std.specs.Iterator.Adapters.{rev_source}
use Rattle.std.specs.Slice.Iter.{iter_rest}
use Rattle.polynomials.specs.Polynomials.{coefficient, nonzero}
use Rattle.place_spreading.proofs.Records.{Laid, laid_none, laid_length, laid_all, last_there, laid_twice, laid_next}
use Rattle.place_spreading.proofs.laying.lay.Goals as goal

pub loop-r-init : goal.loop-r-init
loop-r-init c =
    let whole : iter_rest (rev_source c.into_iter-r-iterator.result) ≡ c.args.places.now = cc in
    subst (Laid c.args.n c.args.places.now c.args.x.now) (sym whole) (laid_none c.args.x.now c.requires.zeros.0 c.requires.zeros.1)

pub put-requires : goal.put-requires
put-requires c =
    let there = last_there c.requires.in_range _ _ c.loop-r.invariant c.in-Some.ensures.steps in
    (omega (arith, there.0, laid_length c.loop-r.invariant), there.1)

pub returns-then-not-put : goal.returns-then-not-put
returns-then-not-put c =
    let occupied : nonzero (coefficient c.loop-r.x c.in-Some.r.now.place) ≡ true = not-false _ (sym c.put.ensures.value ∙ c.if-not-put.true) in
    record {
      value = sym (ap not (laid_twice c.requires.in_range _ _ c.loop-r.invariant c.in-Some.ensures.steps occupied));
      x_after = λ e. cc;
    }

pub loop-r-preserved : goal.loop-r-preserved
loop-r-preserved c =
    let free : nonzero (coefficient c.loop-r.x c.in-Some.r.now.place) ≡ false = not-true _ (sym c.put.ensures.value ∙ c.if-not-put.false) in
    laid_next c.requires.in_range _ _ c.loop-r.invariant c.in-Some.ensures.steps c.put.new.x free c.put.ensures.x_len_unchanged (c.put.ensures.i_after c.if-not-put.false)

pub returns : goal.returns
returns c =
    let all = laid_all _ c.loop-r.invariant c.in-None.ensures.steps.0 in
    record { value = sym (ap not all.0); x_after = λ _. all.1 }
