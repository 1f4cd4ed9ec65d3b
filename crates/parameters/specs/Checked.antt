-- A parameter set that is accepted, as a value of its type.
use Rattle.std.specs.Prelude.{Err, Ok, Result}
use Rattle.refusals.specs.declared.Refusal.{Refusal}
use Rattle.refusals.specs.Outcomes.{Outcome, done, refused}
use Rattle.refusals.specs.Numbers.{number_of}
use Rattle.parameters.specs.declared.Parameters.{Parameters}
use Rattle.parameters.specs.declared.checked_parameters.CheckedParameters.{CheckedParameters}

-- The answer of the test, as an outcome.
abbrev pub checked : Result CheckedParameters Refusal → Outcome Parameters
checked (Ok p) = done p.parameters
checked (Err r) = refused (number_of r)
