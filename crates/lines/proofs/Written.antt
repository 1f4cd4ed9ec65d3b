-- Lines: how long they are, and what a call that writes one leaves.
use mathlib.Core.Path.{◌≡◌, refl}
use mathlib.Core.Bool.{Bool, true, false, cond}
use mathlib.Core.List.{List, [], ◌∷◌, ◌++◌}
use Prim.Native.Nat.{ℕ, ◌+◌, ◌*◌, ◌/◌, ◌%◌, ◌≤◌, ◌<◌}
use native.Mathlib.Omega.{arith}
use borrow.Author.Tests.{le-leb, lt-leb}
use lib.Dec.{ltb, lit≤}
use lib.ListN.{length, drop, length-append}
use Rattle.refusals.specs.Outcomes.{done, refused}
use Rattle.lines.specs.Lines.{decimal, hex, line_of, Writes}

-- ---- lengths

pub hex_length : (l : List ℕ) → length (hex l) ≡ 2 * length l
unfolding hex
hex_length [] = refl
hex_length (b ∷ rest) = omega (arith, hex_length rest)

pub message_length : (m : List ℕ) → length (line_of (done m)) ≡ 2 * length m + 3
unfolding decimal
message_length m = omega (arith, length-append (hex m) (10 ∷ []), hex_length m)

pub refusal_length : (n : ℕ) → length (line_of (refused n)) ≤ 5
unfolding decimal
refusal_length n = go (ltb n 10)
  where
    go : (t : Bool) → length (cond t ((48 + n) ∷ []) ((48 + n / 10) ∷ (48 + n % 10) ∷ []) ++ (32 ∷ 45 ∷ 10 ∷ [])) ≤ 5
    go true = lit≤ tt
    go false = lit≤ tt

-- ---- a line that fits, and one that does not

module _ (line old : List ℕ) where
  pub writes : {r : ℕ} {new : List ℕ} → length line ≤ length old → r ≡ length line → new ≡ line ++ drop (length line) old → Writes line r old new
  writes h e f = rw (le-leb (length line) (length old) h) (e, f)

  pub writes_nothing : length old < length line → Writes line 0 old old
  writes_nothing h = rw (lt-leb (length line) (length old) h) (refl, refl)

  pub written : {r : ℕ} {new : List ℕ} → length line ≤ length old → Writes line r old new → (r ≡ length line) × (new ≡ line ++ drop (length line) old)
  written h w = rw (le-leb (length line) (length old) h) at w
