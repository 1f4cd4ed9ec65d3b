-- `etru_begin_bundle` meets its contract.
use mathlib.Core.Path.{sym, ◌∙◌, ap}
use Rattle.refusals.proofs.Checks.{gives_done, gives_refused}
use Rattle.parameters.specs.Sets.{made}
use Rattle.heads.specs.Heads.{head_of}
use Rattle.bundles.specs.Calls.{bundle_checks}
use Rattle.bundles.specs.Steps.{start_of}
use Rattle.bundles.proofs.MadeParameters.{made_accepted, made_refused}
use Rattle.etru_c.proofs.etru_begin_bundle.Goals as goal

pub returns-in-Ok : goal.returns-in-Ok
returns-in-Ok c = let file = c.args.file.now in
    let e = sym (ap made c.in-Ok.is) ∙ c.begin-start.ensures.1 in
    let passes = (made_accepted (bundle_checks file) (head_of file) c.in-Ok.field-0 e).0 in
    gives_done (bundle_checks file) _ c.args.at.now _ passes c.begin-start.ensures.0

pub returns-in-Err : goal.returns-in-Err
returns-in-Err c = let file = c.args.file.now in
    let e = sym (ap made c.in-Err.is) ∙ c.begin-start.ensures.1 in
    let g = gives_refused (bundle_checks file) (start_of file) c.args.at.now _ (made_refused (bundle_checks file) (head_of file) c.in-Err.refusal e) in
    (c.number.ensures ∙ g.0, g.1)
