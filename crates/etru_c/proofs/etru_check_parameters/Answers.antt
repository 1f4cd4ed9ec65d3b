-- `etru_check_parameters` meets its contract.
use mathlib.Core.Path.{◌∙◌, ap}
use Rattle.refusals.specs.Outcomes.{number}
use Rattle.refusals.proofs.Checks.{same_number}
use Rattle.parameters.specs.Sets.{set, parameter_checks, parameters}
use Rattle.eisenstein.proofs.Pairs.{pair_read}
use Rattle.etru_c.proofs.etru_check_parameters.Goals as goal

pub returns : goal.returns
unfolding parameters
returns c = c.status.ensures
    ∙ ap number (rw (pair_read c.ranges.c c.ranges.d) at c.check.ensures)
    ∙ same_number (parameter_checks (set c.args.n c.args.c c.args.d c.args.s c.args.t)) tt _
