-- Parameters that were made where checks are passed, or refused by the first that applies.
use mathlib.Core.Path.{◌≡◌, sym}
use mathlib.Core.List.{List}
use Rattle.refusals.specs.Outcomes.{Check, done, refused, outcome, Passes}
use Rattle.refusals.specs.Numbers.{number_of}
use Rattle.refusals.specs.declared.Refusal.{Refusal}
use Rattle.refusals.proofs.Checks.{done_parts, refused_plain}
use Rattle.refusals.proofs.Numbers.{number_positive}
use Rattle.parameters.specs.Sets.{ParameterSet, set_of}
use Rattle.parameters.specs.declared.Parameters.{Parameters}

module _ (cs : List Check) (P : ParameterSet) where
  pub made_accepted : (p : Parameters) → done (set_of p) ≡ outcome cs P → Passes cs × (P ≡ set_of p)
  made_accepted p e = done_parts cs P (set_of p) (sym e)

  pub made_refused : (r : Refusal) → refused (number_of r) ≡ outcome cs P → outcome cs (tt {0}) ≡ refused (number_of r)
  made_refused r e = refused_plain cs P (number_of r) (number_positive r) (sym e)
