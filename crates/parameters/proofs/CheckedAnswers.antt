-- What the answer of `checked` tells of its set.
use mathlib.Core.Path.{◌≡◌, sym}
use Rattle.refusals.specs.Outcomes.{done, refused, outcome, Passes}
use Rattle.refusals.specs.Numbers.{number_of}
use Rattle.refusals.specs.declared.Refusal.{Refusal}
use Rattle.refusals.proofs.Checks.{done_parts, refused_plain}
use Rattle.refusals.proofs.Numbers.{number_positive}
use Rattle.parameters.specs.declared.Parameters.{Parameters}
use Rattle.parameters.specs.Sets.{set_of, parameter_checks}

-- the set that was asked is accepted, and is the one that is handed on
pub checked_passes : (p q : Parameters) → done q ≡ outcome (parameter_checks (set_of p)) p → Passes (parameter_checks (set_of p)) × (q ≡ p)
checked_passes p q e = let d = done_parts (parameter_checks (set_of p)) p q (sym e) in (d.0, sym d.1)

-- and a refusal is that of its checks
pub checked_refuses : (p : Parameters) (r : Refusal) → refused (number_of r) ≡ outcome (parameter_checks (set_of p)) p → outcome (parameter_checks (set_of p)) (tt {0}) ≡ refused (number_of r)
checked_refuses p r e = refused_plain (parameter_checks (set_of p)) p (number_of r) (number_positive r) (sym e)
