-- `spread_places` meets its contract: the parameters and 7, then what the records give.
use mathlib.Core.Path.{◌≡◌, sym, ◌∙◌, ap, subst}
use mathlib.Core.Bool.{Bool, not, ◌&&◌}
use mathlib.Core.List.{List, [], ◌∷◌}
use Prim.Native.Nat.{ℕ, ◌*◌}
use lib.Dec.{T, eqb}
use lib.IntN.{ℤ}
use lib.ListN.{length}
use Rattle.integers.proofs.Tests.{are_equal_2}
use Rattle.refusals.specs.Outcomes.{◌if◌, done, outcome, number, Gives}
use Rattle.refusals.specs.Numbers.{answered}
use Rattle.refusals.proofs.Checks.{holds_passed, passed_all, refused_first, done_holds, gives_same}
use Rattle.refusals.proofs.Errors.{gives_passed_on}
use Rattle.parameters.specs.declared.Parameters.{Parameters}
use Rattle.parameters.specs.Sets.{set_of, parameter_checks}
use Rattle.parameters.proofs.CheckedAnswers.{checked_passes, checked_refuses}
use Rattle.polynomials.specs.Polynomials.{array}
use Rattle.arrays.specs.Arrays.{full}
use Rattle.array_sets.proofs.ArrayChecks.{from_7}
use Rattle.placed_units.specs.PlacedUnits.{spread}
use Rattle.placed_ephemerals.specs.Calls.{place_checks, spreading_checks, spreading}
use Rattle.place_spreading.proofs.spread_places.Goals as goal
use Rattle.place_spreading.proofs.spread_places.Goals.{Start}

abbrev lengths : Start → Parameters → Bool
lengths s p = eqb (length s.args.places.now) p.s && full p.n (length s.args.phi.now)

abbrev laid : Start → Parameters → List ℤ
laid s p = array p.n (spread s.args.places.now)

-- what is promised, of the set as it was given and as it is handed on
abbrev Promised : Start → ℕ → List ℤ → Parameters → Type 0
Promised s n new p = Gives (spreading (set_of p) s.args.places.now (length s.args.phi.now)) n s.args.phi.now new

-- of the set that is handed on, what is asked by 7
asked : (s : Start) (p : Parameters) {b : Bool} → b ≡ lengths s p → done (tt {0}) ≡ outcome (7 if not b ∷ []) tt → T (lengths s p)
asked s p {b} e h = subst T e (done_holds 7 b [] _ _ (sym h)).0

pub returns-in_err-p : goal.returns-in_err-p
unfolding spreading spreading_checks
returns-in_err-p c =
    let s = (goal.at.returns-in_err-p c).Start in
    let p = set_of s.args.p in
    gives_passed_on (from_7 p (lengths s s.args.p) (place_checks p s.args.places.now)) (laid s s.args.p) s.args.phi.now _ _ c.from_residual.ensures.1
    (refused_first (parameter_checks p) _ (tt {0}) _ (checked_refuses s.args.p _ c.in_err-p.ensures))

pub returns-in_err-when : goal.returns-in_err-when
unfolding spreading spreading_checks
returns-in_err-when c =
    let s = (goal.at.returns-in_err-when c).Start in
    let q = c.in_ok-p.p.parameters in
    let p = set_of q in
    let e = c.in_err-when.ensures ∙ ap (λ (b : Bool). outcome (7 if not b ∷ []) (tt {0})) c.has_lengths.ensures in
    let checks = place_checks p s.args.places.now in
    subst (Promised s (number (answered c.from_residual-in_err-when.result)) s.args.phi.now)
    (checked_passes s.args.p q c.in_ok-p.ensures).1
    (gives_passed_on (from_7 p (lengths s q) checks) (laid s q) s.args.phi.now _ _ c.from_residual-in_err-when.ensures.1
    (passed_all (parameter_checks p) _ _ c.in_ok-p.p.passes ∙ refused_first (7 if not (lengths s q) ∷ []) checks (tt {0}) _ (sym e)))

pub spread_into-requires : goal.spread_into-requires
spread_into-requires c =
    let s = (goal.at.spread_into-requires c).Start in
    let q = c.in_ok-p.p.parameters in
    (are_equal_2 (length c.args.places.now) q.s (length c.args.phi.now) (2 * q.n) (asked s q c.has_lengths.ensures c.in_ok-when.ensures)).1

pub returns : goal.returns
unfolding spreading spreading_checks
returns c =
    let s = (goal.at.returns c).Start in
    let q = c.in_ok-p.p.parameters in
    subst (Promised s (number (answered c.spread_into.result)) c.spread_into.new.phi)
    (checked_passes s.args.p q c.in_ok-p.ensures).1
    (gives_same c.args.phi.now (passed_all (parameter_checks (set_of q)) _ _ c.in_ok-p.p.passes ∙ holds_passed 7 (lengths s q) _ _ (asked s q c.has_lengths.ensures c.in_ok-when.ensures)) c.spread_into.ensures)
