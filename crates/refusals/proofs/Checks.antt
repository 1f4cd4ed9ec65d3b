-- An outcome, check by check: one that applies refuses, and one that does not is passed.
-- One use: `passed 2 _ _ e ∙ refused_by 21 _ _ f : outcome (2 if s ∷ 21 if t ∷ []) a ≡ refused 21`, for `e : s ≡ false` and `f : t ≡ true`.
use mathlib.Core.Path.{◌≡◌, refl, sym, ◌∙◌, ap, subst}
use mathlib.Core.Bool.{Bool, true, false, not, ◌&&◌}
use mathlib.Core.List.{List, [], ◌∷◌, ◌++◌}
use Prim.Native.Nat.{ℕ, ◌<◌}
use native.Mathlib.Omega.{arith}
use borrow.Author.Tests.{not-false}
use lib.Dec.{T, ltb}
use mir.Facts.{and_yes, ltb_yes}
use Rattle.refusals.specs.Outcomes.{Check, ◌if◌, Outcome, done, refused, unless, outcome, first, number, written, Gives, Passes}

pub refused_by : {A : Type 0} (n : ℕ) (cs : List Check) (a : A) {t : Bool} → t ≡ true → outcome (n if t ∷ cs) a ≡ refused n
unfolding outcome
refused_by n cs a e = ap (λ (t : Bool). unless t n (outcome cs a)) e

pub passed : {A : Type 0} (n : ℕ) (cs : List Check) (a : A) {t : Bool} → t ≡ false → outcome (n if t ∷ cs) a ≡ outcome cs a
unfolding outcome
passed n cs a e = ap (λ (t : Bool). unless t n (outcome cs a)) e

pub none_left : {A : Type 0} (a : A) → outcome [] a ≡ done a
unfolding outcome
none_left a = refl

-- ---- what is done has passed every check

pub never_done : {A : Type 0} (n : ℕ) (a : A) → refused n ≡ done a → ⊥
never_done n a e = let z : ◌≡◌ {A = ℕ} 0 1 = cc in omega arith

pub same_done : {A : Type 0} {a b : A} → done a ≡ done b → a ≡ b
same_done e = cc

unless_done : {A : Type 0} (t : Bool) (n : ℕ) (o : Outcome A) (a : A) → unless t n o ≡ done a → (t ≡ false) × (o ≡ done a)
unless_done true n o a e = absurd (never_done n a e)
unless_done false n o a e = (refl, e)

pub done_passed : {A : Type 0} (n : ℕ) (t : Bool) (cs : List Check) (a b : A) → outcome (n if t ∷ cs) a ≡ done b → (t ≡ false) × (outcome cs a ≡ done b)
unfolding outcome
done_passed n t cs a b e = unless_done t n (outcome cs a) b e

pub done_value : {A : Type 0} (a b : A) → outcome [] a ≡ done b → a ≡ b
unfolding outcome
done_value a b e = cc

-- ---- checks of what must hold: they apply where a test fails

pub holds_passed : {A : Type 0} (n : ℕ) (t : Bool) (cs : List Check) (a : A) → T t → outcome (n if not t ∷ cs) a ≡ outcome cs a
holds_passed n t cs a h = passed n cs a (negated t h)
  where
    negated : (t : Bool) → T t → not t ≡ false
    negated true h = refl
    negated false h = absurd h

pub fails_refused : {A : Type 0} (n : ℕ) (t : Bool) (cs : List Check) (a : A) → t ≡ false → outcome (n if not t ∷ cs) a ≡ refused n
fails_refused n t cs a e = refused_by n cs a (ap not e)

-- such a test t, which a call returned as b, after a branch on not b

pub holds : {b t : Bool} → b ≡ t → not b ≡ false → T t
holds e h = subst T (sym (not-false _ h) ∙ e) tt

pub call_passed : {A : Type 0} (n : ℕ) (cs : List Check) (a : A) {b t : Bool} → b ≡ t → not b ≡ false → outcome (n if not t ∷ cs) a ≡ outcome cs a
call_passed n cs a e h = passed n cs a (ap not (sym e) ∙ h)

pub call_refused : {A : Type 0} (n : ℕ) (cs : List Check) (a : A) {b t : Bool} → b ≡ t → not b ≡ true → outcome (n if not t ∷ cs) a ≡ refused n
call_refused n cs a e h = refused_by n cs a (ap not (sym e) ∙ h)

pub done_holds : {A : Type 0} (n : ℕ) (t : Bool) (cs : List Check) (a b : A) → outcome (n if not t ∷ cs) a ≡ done b → T t × (outcome cs a ≡ done b)
done_holds n t cs a b e =
    let p = done_passed n (not t) cs a b e in
    (holds {t = t} refl p.0, p.1)

-- ---- checks one after another

pub passed_all : {A : Type 0} (cs ds : List Check) (a : A) → outcome cs (tt {0}) ≡ done (tt {0}) → outcome (cs ++ ds) a ≡ outcome ds a
unfolding outcome
passed_all [] ds a e = refl
passed_all (c ∷ cs) ds a e =
    let p = unless_done c.applies c.number (outcome cs (tt {0})) (tt {0}) e in
    ap (λ (t : Bool). unless t c.number (outcome (cs ++ ds) a)) p.0 ∙ passed_all cs ds a p.1

pub refused_first : {A : Type 0} (cs ds : List Check) (a : A) (n : ℕ) → outcome cs (tt {0}) ≡ refused n → outcome (cs ++ ds) a ≡ refused n
unfolding outcome
refused_first [] ds a n e = absurd (never_done n (tt {0}) (sym e))
refused_first (c ∷ cs) ds a n e = go c.applies (λ h. refused_first cs ds a n h) e
  where
    go : (t : Bool) → (outcome cs (tt {0}) ≡ refused n → outcome (cs ++ ds) a ≡ refused n) → unless t c.number (outcome cs (tt {0})) ≡ refused n → unless t c.number (outcome (cs ++ ds) a) ≡ refused n
    go true r h = cc
    go false r h = r h

pub done_all : {A : Type 0} (cs ds : List Check) (a b : A) → outcome (cs ++ ds) a ≡ done b → (outcome cs (tt {0}) ≡ done (tt {0})) × (outcome ds a ≡ done b)
unfolding outcome
done_all [] ds a b e = (refl, e)
done_all (c ∷ cs) ds a b e =
    let p = unless_done c.applies c.number (outcome (cs ++ ds) a) b e in
    let q = done_all cs ds a b p.1 in
    (ap (λ (t : Bool). unless t c.number (outcome cs (tt {0}))) p.0 ∙ q.0, q.1)

-- ---- the value plays no part in what is refused

pub carried : {A B : Type 0} → (A → B) → Outcome A → Outcome B
carried f (done a) = done (f a)
carried f (refused n) = refused n

pub carried_done : {A B : Type 0} (f : A → B) (a : A) → carried f (done a) ≡ done (f a)
unfolding carried
carried_done f a = refl

pub carried_refused : {A B : Type 0} (f : A → B) (n : ℕ) → carried f (refused n) ≡ refused n
unfolding carried
carried_refused f n = refl

carried_unless : {A B : Type 0} (f : A → B) (t : Bool) (n : ℕ) (o : Outcome A) → carried f (unless t n o) ≡ unless t n (carried f o)
unfolding carried
carried_unless f true n o = refl
carried_unless f false n o = refl

pub outcome_carried : {A B : Type 0} (f : A → B) (cs : List Check) (a : A) → outcome cs (f a) ≡ carried f (outcome cs a)
unfolding outcome carried
outcome_carried f [] a = refl
outcome_carried f (c ∷ cs) a = ap (unless c.applies c.number) (outcome_carried f cs a) ∙ sym (carried_unless f c.applies c.number (outcome cs a))

pub done_with : {A : Type 0} (cs : List Check) (a : A) → outcome cs (tt {0}) ≡ done (tt {0}) → outcome cs a ≡ done a
done_with cs a e = outcome_carried (λ _. a) cs (tt {0}) ∙ ap (carried (λ _. a)) e ∙ carried_done (λ _. a) (tt {0})

-- what is done has passed all of its checks, and gives the value
pub done_parts : {A : Type 0} (cs : List Check) (a b : A) → outcome cs a ≡ done b → (outcome cs (tt {0}) ≡ done (tt {0})) × (a ≡ b)
done_parts cs a b e =
    let p = outcome_carried (λ _. tt {0}) cs a ∙ ap (carried (λ _. tt {0})) e ∙ carried_done (λ _. tt {0}) b in
    (p, same_done (sym (done_with cs a p) ∙ e))

pub refused_with : {A : Type 0} (cs : List Check) (a : A) (n : ℕ) → outcome cs (tt {0}) ≡ refused n → outcome cs a ≡ refused n
refused_with cs a n e = outcome_carried (λ _. a) cs (tt {0}) ∙ ap (carried (λ _. a)) e ∙ carried_refused (λ _. a) n

number_carried : {A B : Type 0} (f : A → B) (o : Outcome A) → number (carried f o) ≡ number o
unfolding carried
number_carried f (done a) = refl
number_carried f (refused n) = refl

-- so the number is the same whatever the value
pub same_number : {A B : Type 0} (cs : List Check) (a : A) (b : B) → number (outcome cs a) ≡ number (outcome cs b)
same_number cs a b = sym (ap number (outcome_carried (λ _. b) cs a) ∙ number_carried (λ _. b) (outcome cs a))

-- ---- an outcome from its number: no check has the number 0

abbrev pub positive : List Check → Bool
positive [] = true
positive (c ∷ cs) = ltb 0 c.number && positive cs

pub done_by_number : {A : Type 0} (cs : List Check) (a : A) → T (positive cs) → number (outcome cs a) ≡ 0 → outcome cs a ≡ done a
unfolding outcome
done_by_number [] a p e = refl
done_by_number (c ∷ cs) a p e = go c.applies (done_by_number cs a (and_yes (ltb 0 c.number) (positive cs) p).1) e
  where
    go : (t : Bool) → (number (outcome cs a) ≡ 0 → outcome cs a ≡ done a) → number (unless t c.number (outcome cs a)) ≡ 0 → unless t c.number (outcome cs a) ≡ done a
    go true r h = absurd (omega (arith, h, ltb_yes {a = 0} {b = c.number} (and_yes (ltb 0 c.number) (positive cs) p).0))
    go false r h = r h

pub refused_by_number : {A : Type 0} (o : Outcome A) (n : ℕ) → 0 < n → number o ≡ n → o ≡ refused n
refused_by_number (done a) n l e = absurd (omega arith)
refused_by_number (refused m) n l e = ap refused e

-- what was written, where the number is 0
pub done_as_written : {A : Type 0} (cs : List Check) (a old new : A) → T (positive cs) → number (outcome cs a) ≡ 0 → new ≡ written (outcome cs a) old → outcome cs a ≡ done new
done_as_written {A} cs a old new t e w =
    let d = done_by_number cs a t e in
    d ∙ ap done (sym (w ∙ ap (λ (o : Outcome A). written o old) d))

pub refused_plain : {A : Type 0} (cs : List Check) (a : A) (n : ℕ) → 0 < n → outcome cs a ≡ refused n → outcome cs (tt {0}) ≡ refused n
refused_plain cs a n l e = refused_by_number (outcome cs (tt {0})) n l (same_number cs (tt {0}) a ∙ ap number e)

-- ---- what a call gives

pub gives_done : {A : Type 0} (cs : List Check) (v old new : A) → Passes cs → new ≡ v → Gives (outcome cs v) 0 old new
gives_done {A} cs v old new p e =
    let o = done_with cs v p in
    (sym (ap number o), e ∙ sym (ap (λ (x : Outcome A). written x old) o))

pub gives_refused : {A : Type 0} (cs : List Check) (v old : A) (n : ℕ) → outcome cs (tt {0}) ≡ refused n → Gives (outcome cs v) n old old
gives_refused {A} cs v old n e =
    let o = refused_with cs v n e in
    (sym (ap number o), sym (ap (λ (x : Outcome A). written x old) o))

-- by an outcome that is equal to its own
pub gives_same : {A : Type 0} {o r : Outcome A} {n : ℕ} (old : A) {new : A} → o ≡ r → Gives r n old new → Gives o n old new
gives_same {A} old e g = (g.0 ∙ sym (ap number e), g.1 ∙ sym (ap (λ (x : Outcome A). written x old) e))

-- ---- tests one after the other

pub first_of : {A : Type 0} (cs ds : List Check) (a : A) → first (outcome cs (tt {0})) (outcome ds a) ≡ outcome (cs ++ ds) a
unfolding outcome
first_of [] ds a = refl
first_of (c ∷ cs) ds a = go c.applies (first_of cs ds a)
  where
    go : (t : Bool) → first (outcome cs (tt {0})) (outcome ds a) ≡ outcome (cs ++ ds) a → first (unless t c.number (outcome cs (tt {0}))) (outcome ds a) ≡ unless t c.number (outcome (cs ++ ds) a)
    go true r = refl
    go false r = r

pub and_checks : {A : Type 0} (cs ds : List Check) (a : A) {o : Outcome (Unit {0})} {r : Outcome A} → o ≡ outcome cs tt → r ≡ outcome ds a → first o r ≡ outcome (cs ++ ds) a
and_checks cs ds a {o} {r} e f = ap (λ (z : Outcome (Unit {0})). first z r) e ∙ ap (first (outcome cs (tt {0}))) f ∙ first_of cs ds a

pub first_done : {A : Type 0} (cs : List Check) (a : A) → first (outcome cs (tt {0})) (done a) ≡ outcome cs a
first_done cs a = go (outcome cs (tt {0})) refl
  where
    go : (o : Outcome (Unit {0})) → outcome cs (tt {0}) ≡ o → first o (done a) ≡ outcome cs a
    go (done _) e = sym (done_with cs a e)
    go (refused n) e = sym (refused_with cs a n e)

-- outcomes that begin with the same checks are the same, if they are so where those are passed
pub same_first : {A : Type 0} (cs ds ds' : List Check) (a a' : A) → (outcome cs (tt {0}) ≡ done (tt {0}) → outcome ds a ≡ outcome ds' a') → outcome (cs ++ ds) a ≡ outcome (cs ++ ds') a'
same_first cs ds ds' a a' h = go (outcome cs (tt {0})) refl
  where
    go : (o : Outcome (Unit {0})) → outcome cs (tt {0}) ≡ o → outcome (cs ++ ds) a ≡ outcome (cs ++ ds') a'
    go (done _) e = passed_all cs ds a e ∙ h e ∙ sym (passed_all cs ds' a' e)
    go (refused n) e = refused_first cs ds a n e ∙ sym (refused_first cs ds' a' n e)

-- where a check applies, neither what stands after it nor the value plays a part
pub ends_at : {A : Type 0} (cs : List Check) (n : ℕ) (t : Bool) (ds : List Check) (a a' : A) → t ≡ false → outcome (cs ++ n if not t ∷ ds) a ≡ outcome (cs ++ n if true ∷ []) a'
ends_at cs n t ds a a' e = same_first cs _ _ a a' (λ passes. fails_refused n t ds a e ∙ sym (refused_by n [] a' refl))
