-- `read_before` meets its contract.
use mathlib.Core.Path.{◌≡◌, sym, ◌∙◌, ap}
use mathlib.Core.Bool.{not}
use mathlib.Core.List.{List, [], ◌++◌}
use Prim.Native.Nat.{ℕ, ◌/◌, ◌%◌}
use borrow.Author.Tests.{eq-eqb, ne_eqb}
use lib.ListN.{length, take, drop}
use lib.Seq.{length-take-le}
use Rattle.refusals.specs.Outcomes.{done}
use Rattle.refusals.proofs.Checks.{passed, refused_by, none_left}
use Rattle.opened_arrays.proofs.Answers.{gives_as, gives_refusal}
use Rattle.short_opening.proofs.reading.read_before.Goals as goal

pub returns-then-k-ne0 : goal.returns-then-k-ne0
returns-then-k-ne0 c = gives_refusal (sym (refused_by 27 [] (take (c.args.k / 8) c.args.bits.now) (ap not (ne_eqb (c.args.k % 8) 0 c.if-k-ne0.true))))

pub returns : goal.returns
returns c = let count = c.args.k / 8 in
    let short = take count c.args.bits.now in
    let long : length short ≡ count = length-take-le count c.args.bits.now c.requires.0 in
    gives_as (sym (passed 27 [] short (ap not (eq-eqb (c.args.k % 8) 0 c.if-k-ne0.false)) ∙ none_left short))
    (record { answer = ap done (sym long); left = ap (λ (l : List ℕ). l ++ drop count c.args.message.now) c.copy_from_slice.ensures.after ∙ ap (λ (k : ℕ). short ++ drop k c.args.message.now) (sym long) })
