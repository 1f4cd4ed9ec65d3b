-- `open_input` meets its contract.
use mathlib.Core.Path.{sym, ◌∙◌, ap}
use Rattle.refusals.proofs.Errors.{err_is}
use Rattle.parameters.specs.Sets.{made}
use Rattle.opened_arrays.proofs.Answers.{gives_err}
use Rattle.opened_files.proofs.InputParts.{input_refused}
use Rattle.opened_files.proofs.open_input.Goals as goal

pub returns-in_err-p : goal.returns-in_err-p
returns-in_err-p c = gives_err (err_is _ _ c.from_residual.ensures.1) (sym (input_refused _ c.in_err-p.field-0.0 (sym c.read_head.ensures ∙ ap made c.in_err-p.was)))
