-- `seal_places` meets its contract: what is asked before the records, then what they give.
use mathlib.Core.Path.{sym, ◌∙◌, ap}
use mathlib.Core.List.{List, [], ◌∷◌, ◌++◌, append_assoc}
use lib.ListN.{length}
use Rattle.refusals.proofs.Errors.{gives_passed_on}
use Rattle.refusals.specs.Outcomes.{Check, outcome, ◌if◌}
use Rattle.refusals.proofs.Checks.{refused_first}
use Rattle.parameters.specs.Sets.{set_of, parameter_checks}
use Rattle.polynomials.specs.Polynomials.{coefficient, array}
use Rattle.packing.specs.Messages.{packed, spare_bit_set}
use Rattle.etru.specs.Scheme.{sealed}
use Rattle.placed_units.specs.PlacedUnits.{spread}
use Rattle.placed_ephemerals.specs.Calls.{place_checks, before_places, places_sealing_checks, places_sealing}
use Rattle.place_sealing.proofs.seal_places.Goals as goal

pub returns-in_err-refusal_before_places : goal.returns-in_err-refusal_before_places
unfolding places_sealing places_sealing_checks
returns-in_err-refusal_before_places c =
    let p = set_of c.args.p in
    let places = c.args.places.now in
    let message = c.args.message.now in
    let before = before_places p c.args.h.now (length places) (length message) (length c.args.e.now) in
    let after : List Check = place_checks p places ++ (15 if spare_bit_set p.N message ∷ []) in
    gives_passed_on (parameter_checks p ++ (before ++ after)) (array p.N (sealed p (coefficient c.args.h.now) (spread places) (packed message))) c.args.e.now _ _ c.from_residual.ensures.1
    (ap (λ (l : List Check). outcome l (tt {0})) (sym (append_assoc (parameter_checks p) before after))
    ∙ refused_first (parameter_checks p ++ before) after (tt {0}) _ (sym c.in_err-refusal_before_places.ensures))
