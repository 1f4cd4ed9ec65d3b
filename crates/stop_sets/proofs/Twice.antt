-- Whether a stop occurs twice, found from the last stop to the first with the set of those that were seen.
use mathlib.Core.Path.{◌≡◌, refl, sym, ◌∙◌, ap, ap₂, subst}
use mathlib.Core.Bool.{Bool, true, false, ◌||◌}
use mathlib.Core.List.{List, [], ◌∷◌}
use Prim.Native.Nat.{ℕ, zero, suc, ◌+◌, ◌-◌, ◌<◌, ◌≤◌}
use native.Mathlib.Numerals.{add-one}
use native.Mathlib.Omega.{arith}
use lib.ListN.{length, get_or, drop, replicate}
use lib.Seq.{drop-cons, drop-length}
use Rattle.stop_sets.specs.Stops.{occurs, any_twice}
use Rattle.stop_sets.specs.Words.{has, with}
use Rattle.stop_sets.proofs.Sets.{Holds, none_held, added_held}

-- the stops from stop k on are in the set, and none of them occurs twice
pub record Seen (words stops : List ℕ) (k : ℕ) : Type 0 where
  pub held : Holds words (drop k stops)
  pub once : any_twice (drop k stops) ≡ false

either : (a : Bool) → (a || true) ≡ true
either true = refl
either false = refl

-- what occurs twice from stop k on occurs twice
rest_twice : (stops : List ℕ) (k : ℕ) → any_twice (drop k stops) ≡ true → any_twice stops ≡ true
unfolding any_twice
rest_twice stops zero e = e
rest_twice [] (suc k) e = e
rest_twice (s ∷ stops) (suc k) e = ap (λ (t : Bool). occurs s stops || t) (rest_twice stops k e) ∙ either (occurs s stops)

module _ (words stops : List ℕ) where
  pub none_seen : (k : ℕ) → k ≡ length stops → words ≡ replicate 2048 0 → Seen words stops k
  unfolding any_twice
  none_seen k e f =
      let d : drop k stops ≡ [] = ap (λ (i : ℕ). drop i stops) e ∙ drop-length stops in
      record { held = rw (d, f) none_held; once = ap any_twice d }

  module _ (k stop : ℕ) (seen : Seen words stops (k + 1)) (within : k < length stops) (here : get_or stops k 0 ≡ stop) (small : stop < 65536) where
    cut : drop k stops ≡ stop ∷ drop (k + 1) stops
    cut = drop-cons stops k 0 within ∙ ap₂ (λ (s i : ℕ). s ∷ drop i stops) here (sym (add-one k))

    before : has words stop ≡ occurs stop (drop (k + 1) stops)
    before = seen.held.same stop small

    found_twice : has words stop ≡ true → any_twice stops ≡ true
    unfolding any_twice
    found_twice e = rest_twice stops k (ap any_twice cut ∙ ap (λ (t : Bool). t || any_twice (drop (k + 1) stops)) (sym before ∙ e))

    one_more : has words stop ≡ false → Seen (with words stop) stops k
    unfolding any_twice
    one_more e =
        record {
          held = rw cut (added_held words (drop (k + 1) stops) stop seen.held small e);
          once = ap any_twice cut ∙ ap₂ ◌||◌ (sym before ∙ e) seen.once;
        }

-- one turn: stop k − 1 is added
pub record Turn (words stops : List ℕ) (k stop : ℕ) : Type 0 where
  pub positive : 1 ≤ k
  pub within : k ≤ length stops
  pub seen : Seen words stops k
  pub here : get_or stops (k - 1) 0 ≡ stop
  pub small : stop < 65536

module _ {words stops : List ℕ} {k stop : ℕ} (t : Turn words stops k stop) where
  before_it : Seen words stops (k - 1 + 1)
  before_it = let e : k ≡ k - 1 + 1 = omega (arith, t.positive) in subst (Seen words stops) e t.seen

  inside : k - 1 < length stops
  inside = omega (arith, t.positive, t.within)

  pub turn_found : has words stop ≡ true → any_twice stops ≡ true
  turn_found = found_twice words stops (k - 1) stop before_it inside t.here t.small

  pub turn_new : has words stop ≡ false → Seen (with words stop) stops (k - 1)
  turn_new = one_more words stops (k - 1) stop before_it inside t.here t.small
