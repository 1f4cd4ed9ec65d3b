-- One remainder more, in a loop that stores them.
use mathlib.Core.Path.{◌≡◌}
use mathlib.Core.List.{List}
use Prim.Native.Nat.{ℕ, ◌+◌, ◌*◌, ◌^◌, ◌<◌}
use lib.IntN.{ℤ}
use lib.ListN.{length}
use Rattle.refusals.specs.Outcomes.{written}
use Rattle.eisenstein.specs.Values.{ℤ[ω], 𝟘}
use Rattle.eisenstein.specs.Reduction.{mod_q}
use Rattle.eisenstein.proofs.Limits.{not_beyond}
use Rattle.remainders.specs.Calls.{reduce_q, with_coefficient}
use Rattle.remainders.proofs.Limits.{stored_remainder}
use Rattle.polynomials.specs.Polynomials.{Polynomial, coefficient}
use Rattle.arrays.specs.Conditions.{Modulus}
use Rattle.arrays.proofs.Changing.{Changed, stored_next}
use Rattle.halved_products.specs.Conditions.{Reducible}

pub next_remainder : {f : Polynomial} {l₀ : List ℤ} (l : List ℤ) {l' : List ℤ} (i : ℕ) (q v : ℤ[ω]) → Modulus q → Reducible v → Changed coefficient f l₀ l i → l' ≡ with_coefficient i (written (reduce_q q v) 𝟘) l → 2 * i + 1 < length l → mod_q q v ≡ f i → Changed coefficient f l₀ l' (i + 1)
next_remainder l i q v m r h e room g = stored_next h (stored_remainder i l q v room m.in_range m.not_zero (not_beyond (2 ^ 40) v r.0 r.1) e) room g
