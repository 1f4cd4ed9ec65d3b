-- The same entries in another order.
use mathlib.Core.Path.{◌≡◌, refl, sym, ◌∙◌, ap, ap₂}
use mathlib.Core.Bool.{Bool, true, false, not, ◌||◌}
use mathlib.Core.List.{List, [], ◌∷◌, Permᴰ}
use Prim.Native.Nat.{ℕ}
use lib.ListN.{length}
use Rattle.integers.proofs.Orders.{any_order, twice_order, length_order}
use Rattle.refusals.specs.Outcomes.{Outcome, unless, outcome}
use Rattle.refusals.proofs.Checks.{done_parts}
use Rattle.parameters.specs.Sets.{ParameterSet}
use Rattle.polynomials.specs.Polynomials.{coefficient, reduced_q}
use Rattle.stop_sets.specs.Stops.{occurs, any_twice}
use Rattle.bundles.specs.Bundles.{Entry, stops_of, entry_start, bundle_of}
use Rattle.bundles.specs.Calls.{arrays_checks, entries_checks, entries_given, writing_checks, writing_bundle}
use Rattle.bundles.specs.Promises.{OrderRefusedAlike, OrderOpen}
use Rattle.bundles.proofs.GivenEntries.{Full, given_count, given_full}
use Rattle.bundles.proofs.FullEntries.{full-written}
use Rattle.bundles.proofs.RoundTrips.{writing_passed}

-- ---- 12 for each array is one test of all

module _ (p : ParameterSet) where
  abbrev refused_12 : Entry → Bool
  refused_12 e = not (reduced_q p.N p.q (coefficient e.array))

  any_refused : List Entry → Bool
  any_refused [] = false
  any_refused (e ∷ es) = refused_12 e || any_refused es

  one_test : (es : List Entry) → outcome (arrays_checks p es) (tt {0}) ≡ unless (any_refused es) 12 (outcome [] (tt {0}))
  unfolding arrays_checks any_refused outcome
  one_test [] = refl
  one_test (e ∷ es) = ap (unless (refused_12 e) 12) (one_test es) ∙ go (refused_12 e)
    where
      go : (t : Bool) → unless t 12 (unless (any_refused es) 12 (outcome [] (tt {0}))) ≡ unless (t || any_refused es) 12 (outcome [] (tt {0}))
      go true = refl
      go false = refl

  arrays_order : {es es' : List Entry} → Permᴰ es es' → outcome (arrays_checks p es) (tt {0}) ≡ outcome (arrays_checks p es') tt
  unfolding any_refused
  arrays_order {es} {es'} d =
      one_test es ∙ ap (λ (t : Bool). unless t 12 (outcome [] (tt {0}))) (any_order refused_12 any_refused (λ e l. refl) d) ∙ sym (one_test es')

stops_order : {es es' : List Entry} → Permᴰ es es' → any_twice (stops_of es) ≡ any_twice (stops_of es')
unfolding occurs any_twice
stops_order = twice_order (λ e. e.stop) (λ i l. occurs i (stops_of l)) (λ i e l. refl) (λ l. any_twice (stops_of l)) (λ e l. refl)

pub order_refused_alike : OrderRefusedAlike
unfolding entries_checks outcome
order_refused_alike p es es' d = ap₂ (λ (t : Bool) (o : Outcome (Unit {0})). unless t 25 o) (stops_order d) (arrays_order p d)

-- ---- what can be written

full_order : (N : ℕ) {es es' : List Entry} → Permᴰ es es' → Full N es → Full N es'
full_order N Permᴰ.nil f = f
full_order N (Permᴰ.cons e d) f = (ap (λ (x : Entry). length x.array) (sym e) ∙ f.0, full_order N d f.1)
full_order N (Permᴰ.swap e g) f = (ap (λ (x : Entry). length x.array) (sym g) ∙ f.1.0, (ap (λ (x : Entry). length x.array) (sym e) ∙ f.0, f.1.1))
full_order N (Permᴰ.trans d d') f = full_order N d' (full_order N d f)

pub order_open : OrderOpen
unfolding writing_bundle
order_open p stops numbers room file es e d =
    let given = entries_given p.N stops numbers in
    let w = writing_passed p stops numbers room (done_parts (writing_checks p stops numbers room) (bundle_of p given) file e).0 in
    let count : length stops ≡ length es = sym (given_count p.N stops numbers) ∙ length_order d in
    full-written p es (full_order p.N d (given_full p.N stops numbers w.numbers_are)) room w.accepted
    (record { is = w.right_length_lem.is ∙ ap (entry_start p.N) count; short = w.right_length_lem.short }) (sym (order_refused_alike p given es d) ∙ w.entries)
