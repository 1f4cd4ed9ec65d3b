-- `etru_read_bundle_head` meets its contract.
use mathlib.Core.Path.{◌≡◌, sym, ◌∙◌, ap}
use mathlib.Core.List.{List}
use Prim.Native.Nat.{ℕ}
use native.Mathlib.Omega.{arith}
use borrow.Author.Rules.{rules}
use lib.Dec.{T}
use Rattle.refusals.specs.Outcomes.{outcome, number, Gives}
use Rattle.refusals.proofs.Checks.{positive, done_by_number, refused_by_number, same_number, done_parts, gives_done, gives_refused, gives_same}
use Rattle.parameters.specs.Sets.{ParameterSet, set, parameter_checks, made}
use Rattle.heads.specs.Heads.{head_of}
use Rattle.head_reading.specs.Calls.{head_checks}
use Rattle.bundles.specs.Bundles.{count_of}
use Rattle.bundles.specs.Calls.{count_checks, reading_parameters, reading_count}
use Rattle.etru_c.proofs.etru_read_bundle_head.Goals as goal

pub returns-then-number-eq0 : goal.returns-then-number-eq0
unfolding reading_parameters reading_count count_checks head_checks parameter_checks
returns-then-number-eq0 c =
    let file : List ℕ = c.args.file.now in
    let is : made c.read_bundle_head-answer.result ≡ outcome (count_checks file) (head_of file) = c.read_bundle_head-answer.ensures in
    let number_is : c.give_parameters-number.result ≡ number (outcome (count_checks file) (head_of file)) = c.give_parameters-number.ensures.0 ∙ ap number is in
    let old : ParameterSet = set c.args.n.now c.args.c.now c.args.d.now c.args.s.now c.args.t.now in
    let parameters : Gives (outcome (count_checks file) (head_of file)) c.give_parameters-number.result old (set c.give_parameters-number.new.n c.give_parameters-number.new.c c.give_parameters-number.new.d c.give_parameters-number.new.s c.give_parameters-number.new.t) = gives_same old (sym is) c.give_parameters-number.ensures in
    let positive_checks : T (positive (count_checks file)) = tt in
    let e = done_by_number (count_checks file) (head_of file) positive_checks (sym number_is ∙ c.if-number-eq0.true) in
    let k = gives_done (count_checks file) (count_of file) c.args.count.now _ (done_parts (count_checks file) (head_of file) _ e).0 c.entry_count-entries.ensures.0 in
    record { gives = parameters; gives_2 = (c.if-number-eq0.true ∙ k.0, k.1) }

pub returns-else-number-eq0 : goal.returns-else-number-eq0
unfolding reading_parameters reading_count
returns-else-number-eq0 c =
    let file : List ℕ = c.args.file.now in
    let is : made c.read_bundle_head-answer.result ≡ outcome (count_checks file) (head_of file) = c.read_bundle_head-answer.ensures in
    let number_is : c.give_parameters-number.result ≡ number (outcome (count_checks file) (head_of file)) = c.give_parameters-number.ensures.0 ∙ ap number is in
    let old : ParameterSet = set c.args.n.now c.args.c.now c.args.d.now c.args.s.now c.args.t.now in
    let parameters : Gives (outcome (count_checks file) (head_of file)) c.give_parameters-number.result old (set c.give_parameters-number.new.n c.give_parameters-number.new.c c.give_parameters-number.new.d c.give_parameters-number.new.s c.give_parameters-number.new.t) = gives_same old (sym is) c.give_parameters-number.ensures in
    let refused_so = refused_by_number (outcome (count_checks file) (tt {0})) c.give_parameters-number.result (omega (arith, c.if-number-eq0.false)) (same_number (count_checks file) (tt {0}) (head_of file) ∙ sym number_is) in
    record { gives = parameters; gives_2 = gives_refused (count_checks file) (count_of file) c.args.count.now _ refused_so }
