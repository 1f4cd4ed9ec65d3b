-- Sets of stops: what they have, and one stop more.
use mathlib.Core.Path.{◌≡◌, refl, sym, ◌∙◌, ap}
use mathlib.Core.Bool.{Bool, true, false, cond, ◌||◌}
use mathlib.Core.Logic.{◌≢◌}
use mathlib.Core.List.{List, [], ◌∷◌}
use Prim.Native.Nat.{ℕ, ◌+◌, ◌/◌, ◌%◌, ◌^◌, ◌<◌, ◌≤◌}
use native.Mathlib.Omega.{arith}
use native.Mathlib.Decide.{ℕ_discrete}
use borrow.Author.Tests.{eq-eqb, ne_eqb}
use lib.Dec.{eqb}
use lib.ListN.{length, get_or, set, replicate, get_or-replicate, length-set, get_or-eq_default}
use lib.Seq.{set_out, get_or-set_same, get_or-set_other}
use Rattle.stop_sets.specs.Stops.{occurs}
use Rattle.stop_sets.specs.Words.{bit, has, with}
use Rattle.stop_sets.proofs.Bits.{added_has, added_other, bit_none}

-- a set and the stops that it has, for 16-bit stops
pub record Holds (words stops : List ℕ) : Type 0 where
  pub long : length words ≡ 2048
  pub same : (r : ℕ) → r < 65536 → has words r ≡ occurs r stops

pub none_held : Holds (replicate 2048 0) []
unfolding has occurs
none_held =
    record {
      long = refl;
      same = λ r h. ap (λ (w : ℕ). bit w (r % 32)) (get_or-replicate 2048 (r / 32) 0 0 (omega arith)) ∙ bit_none (r % 32);
    }

-- the word of a stop, and the words with the stop's bit added
abbrev word : List ℕ → ℕ → ℕ
word words s = get_or words (s / 32) 0

abbrev added : List ℕ → ℕ → List ℕ
added words s = set words (s / 32) (word words s + 2 ^ (s % 32))

-- a set that has a stop is left as it was, and so is one whose words end before it; else the bit is added
pub has_already : (words : List ℕ) (s : ℕ) → has words s ≡ true → with words s ≡ words
unfolding with
has_already words s e = ap (λ (t : Bool). cond t words (added words s)) e

pub with_new : (words : List ℕ) (s : ℕ) → has words s ≡ false → with words s ≡ added words s
unfolding with
with_new words s e = ap (λ (t : Bool). cond t words (added words s)) e

pub has_none_past : (words : List ℕ) (s : ℕ) → length words ≤ s / 32 → has words s ≡ false
unfolding has
has_none_past words s h = ap (λ (w : ℕ). bit w (s % 32)) (get_or-eq_default words 0 h) ∙ bit_none (s % 32)

pub same-past : (words : List ℕ) (s : ℕ) → length words ≤ s / 32 → with words s ≡ words
same-past words s h = with_new words s (has_none_past words s h) ∙ set_out words (s / 32) _ h

-- what the set has then, of the stop that is added and of another
module _ (words : List ℕ) (s : ℕ) (new : has words s ≡ false) (room : s / 32 < length words) where
  -- a stop of the same word, and one of another
  there : (r : ℕ) → r / 32 ≡ s / 32 → has (with words s) r ≡ bit (word words s + 2 ^ (s % 32)) (r % 32)
  unfolding has
  there r e =
      ap (λ (w : ℕ). bit w (r % 32))
      (ap (λ (l : List ℕ). get_or l (r / 32) 0) (with_new words s new) ∙ ap (λ (i : ℕ). get_or (added words s) i 0) e ∙ get_or-set_same words (s / 32) _ 0 room)

  elsewhere : (r : ℕ) → r / 32 ≢ s / 32 → has (with words s) r ≡ has words r
  unfolding has
  elsewhere r d =
      ap (λ (w : ℕ). bit w (r % 32)) (ap (λ (l : List ℕ). get_or l (r / 32) 0) (with_new words s new) ∙ get_or-set_other words (s / 32) (r / 32) _ 0 d)

  has_added : (r : ℕ) → has (with words s) r ≡ (eqb s r || has words r)
  unfolding has
  has_added r = go (ℕ_discrete r s) (ℕ_discrete (r / 32) (s / 32))
    where
      other : r ≢ s → has words r ≡ (eqb s r || has words r)
      other e = sym (ap (λ (t : Bool). t || has words r) (ne_eqb s r (λ m. e (sym m))))

      go : Dec (r ≡ s) → Dec (r / 32 ≡ s / 32) → has (with words s) r ≡ (eqb s r || has words r)
      go (yes e) d =
          there r (ap (λ (i : ℕ). i / 32) e)
          ∙ ap (λ (i : ℕ). bit (word words s + 2 ^ (s % 32)) (i % 32)) e
          ∙ added_has (word words s) (s % 32) new
          ∙ sym (ap (λ (t : Bool). t || has words r) (eq-eqb s r (sym e)))
      go (no e) (yes d) =
          there r d
          ∙ added_other (word words s) (s % 32) (r % 32) (λ m. e (omega arith)) new
          ∙ ap (λ (i : ℕ). bit (get_or words i 0) (r % 32)) (sym d)
          ∙ other e
      go (no e) (no d) = elsewhere r d ∙ other e

pub added_held : (words stops : List ℕ) (s : ℕ) → Holds words stops → s < 65536 → has words s ≡ false → Holds (with words s) (s ∷ stops)
unfolding occurs
added_held words stops s h l new =
    record {
      long = ap (λ (w : List ℕ). length w) (with_new words s new) ∙ length-set words (s / 32) _ ∙ h.long;
      same = λ r m. has_added words s new (omega (arith, h.long)) r ∙ ap (λ (t : Bool). eqb s r || t) (h.same r m);
    }
