-- A part of small numbers is small.
use Prim.Native.Nat.{ℕ, zero, suc}
use mathlib.Core.List.{List, [], ◌∷◌}
use lib.Dec.{lit≤}
use lib.IntN.{ℤ}
use lib.ListN.{take, drop}
use Rattle.arrays.specs.Arrays.{Small}

first_small : (n : ℕ) (l : List ℤ) → Small l → Small (take n l)
first_small zero l s k = lit≤ tt
first_small (suc n) [] s k = lit≤ tt
first_small (suc n) (z ∷ l) s zero = s 0
first_small (suc n) (z ∷ l) s (suc k) = first_small n l (λ i. s (suc i)) k

rest_small : (n : ℕ) (l : List ℤ) → Small l → Small (drop n l)
rest_small zero l s k = s k
rest_small (suc n) [] s k = lit≤ tt
rest_small (suc n) (z ∷ l) s k = rest_small n l (λ i. s (suc i)) k

pub part_small : (n m : ℕ) (l : List ℤ) → Small l → Small (take n (drop m l))
part_small n m l s = first_small n (drop m l) (rest_small m l s)
