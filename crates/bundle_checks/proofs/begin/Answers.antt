-- `begin` meets its contract.
use mathlib.Core.Path.{sym, ◌∙◌, ap}
use Rattle.parameters.specs.Sets.{made}
use Rattle.heads.specs.Heads.{head_of}
use Rattle.bundles.specs.Calls.{bundle_checks}
use Rattle.bundles.proofs.Lengths.{first_start}
use Rattle.bundles.proofs.MadeParameters.{made_accepted, made_refused}
use Rattle.bundles.proofs.Steps.{starts, starts_past}
use Rattle.bundle_checks.proofs.begin.Goals as goal

pub returns-in-Ok : goal.returns-in-Ok
returns-in-Ok c =
    let file = c.args.bytes.now in
    (sym (starts file (made_accepted (bundle_checks file) (head_of file) _ (sym (ap made c.in-Ok.is) ∙ c.check_bundle-made.ensures)).0 ∙ first_start (head_of file).N), c.check_bundle-made.ensures)

pub returns-in-Err : goal.returns-in-Err
returns-in-Err c =
    let file = c.args.bytes.now in
    (sym (starts_past file (made_refused (bundle_checks file) (head_of file) _ (sym (ap made c.in-Err.is) ∙ c.check_bundle-made.ensures))), c.check_bundle-made.ensures)
