-- How long bundles are.
use mathlib.Core.Path.{◌≡◌, refl, ap}
use mathlib.Core.Bool.{Bool, false, ◌&&◌}
use Prim.Native.Nat.{ℕ, suc, ◌+◌, ◌*◌, ◌≤◌, ◌<◌}
use native.Mathlib.Omega.{arith}
use native.Mathlib.Nat.{mul_assoc, mul-le-mul_right, mul-zero, mul-suc}
use borrow.Author.Tests.{le-leb}
use lib.Dec.{T, eqb, leb, eqb→eq, leb→le, le→leb}
use mir.Facts.{and_yes, yes_and, yes_eqb}
use Rattle.eisenstein.proofs.Equality.{is_false}
use Rattle.bundles.specs.Bundles.{longest_bundle, entry_length, entry_start}
use Rattle.bundles.specs.Calls.{right_length}

-- where entries stand
pub first_start : (N : ℕ) → entry_start N 0 ≡ 18
unfolding entry_start
first_start N = ap (λ (m : ℕ). 18 + m) (mul-zero (entry_length N))

pub start_is : (N k : ℕ) → entry_start N k ≡ 18 + entry_length N * k
unfolding entry_start
start_is N k = refl

pub next_start : (N k : ℕ) → entry_start N (suc k) ≡ entry_start N k + entry_length N
unfolding entry_start
next_start N k = omega (arith, mul-suc (entry_length N) k)

pub entry_length_lem : (N : ℕ) → entry_length N ≡ 2 + 4 * N
unfolding entry_length
entry_length_lem N = omega arith

-- each entry takes two bytes and more
pub entries_long : (N k : ℕ) → 18 + 2 * k ≤ entry_start N k
unfolding entry_start
entries_long N k =
    let two : 2 ≤ entry_length N = omega (arith, entry_length_lem N) in
    omega (arith, mul-le-mul_right k two)

-- an entry takes twice as many bytes as its array has numbers
pub numbers_few : (N k : ℕ) → 2 * (2 * N * k) ≤ entry_length N * k
numbers_few N k =
    let more : 2 * (2 * N) ≤ entry_length N = omega (arith, entry_length_lem N) in
    omega (arith, mul-le-mul_right k more, mul_assoc 2 (2 * N) k)

-- the test of a length
pub record Right (N count file : ℕ) : Type 0 where
  pub is : file ≡ entry_start N count
  pub short : file ≤ longest_bundle

pub right : (N count file : ℕ) → T (right_length N count file) → Right N count file
unfolding right_length
right N count file t =
    let p = and_yes (leb file longest_bundle) (eqb file (entry_start N count)) t in
    record { is = eqb→eq file (entry_start N count) p.1; short = leb→le file longest_bundle p.0 }

pub is_right : (N count file : ℕ) → Right N count file → T (right_length N count file)
unfolding right_length
is_right N count file r = yes_and (leb file longest_bundle) (eqb file (entry_start N count)) (le→leb file longest_bundle r.short) (yes_eqb r.is)

pub too_long_lem : (N count file : ℕ) → longest_bundle < file → right_length N count file ≡ false
too_long_lem N count file h = is_false (right_length N count file) (λ t. omega (arith, (right N count file t).short))

pub too_many : (N count file : ℕ) → longest_bundle < count → right_length N count file ≡ false
too_many N count file h =
    is_false (right_length N count file) (λ t. omega (arith, (right N count file t).short, (right N count file t).is, entries_long N count))

pub short_enough : (N count file : ℕ) → file ≤ longest_bundle → right_length N count file ≡ eqb file (entry_start N count)
unfolding right_length
short_enough N count file h = ap (λ (t : Bool). t && eqb file (entry_start N count)) (le-leb file longest_bundle h)
