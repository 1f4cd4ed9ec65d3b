-- What is unpacked, as the code has it: bits of an array, and bytes known one by one.
use mathlib.Core.Path.{◌≡◌, sym, ◌∙◌, ap}
use mathlib.Core.Bool.{Bool, cond}
use mathlib.Core.List.{List}
use Prim.Native.Nat.{ℕ, ◌+◌, ◌*◌, ◌/◌, ◌%◌, ◌<◌}
use native.Mathlib.Omega.{arith}
use native.Mathlib.Decide.{ℕ_discrete}
use borrow.Author.Tests.{lt-ltb, eq-eqb, ne_eqb}
use lib.Dec.{eqb}
use lib.IntN.{ℤ, pos}
use lib.ListN.{length, get_or}
use lib.Seq.{ext_get_or}
use Rattle.eisenstein.specs.Reduction.{bit}
use Rattle.polynomials.specs.Polynomials.{Polynomial, coefficient}
use Rattle.packing.specs.Messages.{message_bytes, message_bit, byte, unpacked}
use Rattle.packing.proofs.RoundTrips.{listed_at, unpacked_length}

pub bit_of_array : (N : ℕ) (m : List ℤ) (k : ℕ) → k < 2 * N → message_bit N (coefficient m) k ≡ bit (get_or m k (pos 0))
unfolding message_bit coefficient
bit_of_array N m k l =
    ap (λ (c : Bool). cond c (bit (cond (eqb (k % 2) 0) (coefficient m (k / 2)).a (coefficient m (k / 2)).b)) 0) (lt-ltb k (2 * N) l)
    ∙ by_place (ℕ_discrete (k % 2) 0)
  where
    by_place : Dec (k % 2 ≡ 0) → bit (cond (eqb (k % 2) 0) (get_or m (2 * (k / 2)) (pos 0)) (get_or m (2 * (k / 2) + 1) (pos 0))) ≡ bit (get_or m k (pos 0))
    by_place (yes e) =
        ap (λ (c : Bool). bit (cond c (get_or m (2 * (k / 2)) (pos 0)) (get_or m (2 * (k / 2) + 1) (pos 0)))) (eq-eqb (k % 2) 0 e)
        ∙ ap (λ (i : ℕ). bit (get_or m i (pos 0))) {x = 2 * (k / 2)} {y = k} (omega arith)
    by_place (no e) =
        ap (λ (c : Bool). bit (cond c (get_or m (2 * (k / 2)) (pos 0)) (get_or m (2 * (k / 2) + 1) (pos 0)))) (ne_eqb (k % 2) 0 e)
        ∙ ap (λ (i : ℕ). bit (get_or m i (pos 0))) {x = 2 * (k / 2) + 1} {y = k} (omega arith)

pub unpacked_by_bytes : (N : ℕ) (m : Polynomial) (l : List ℕ) → length l ≡ message_bytes N → ((j : ℕ) → j < message_bytes N → get_or l j 0 ≡ byte (message_bit N m) j) → l ≡ unpacked N m
unfolding unpacked
unpacked_by_bytes N m l e h =
    ext_get_or 0 l (unpacked N m) (e ∙ sym (unpacked_length N m)) (λ j p. let q : j < message_bytes N = omega arith in h j q ∙ sym (listed_at (message_bytes N) (byte (message_bit N m)) j q))
