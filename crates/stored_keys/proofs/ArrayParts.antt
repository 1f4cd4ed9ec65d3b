-- Parts of the numbers of a file, as its arrays.
use mathlib.Core.Path.{◌≡◌, ◌∙◌, ap, ap₂}
use mathlib.Core.List.{List, ◌++◌}
use Prim.Native.Nat.{ℕ, ◌+◌, ◌-◌, ◌*◌, ◌≤◌}
use native.Mathlib.Omega.{arith}
use lib.IntN.{ℤ}
use lib.ListN.{length, take, drop, length-drop}
use lib.Seq.{drop-drop, take-add, drop_at, take-take, length-take-le}
use Rattle.parameters.specs.Sets.{ParameterSet}
use Rattle.files.specs.Files.{array_at}

-- a part of the numbers that is array k
pub part_is : (p : ParameterSet) (k : ℕ) (l : List ℤ) (n from : ℕ) → n ≡ 2 * p.N → from ≡ 2 * p.N * k → take n (drop from l) ≡ array_at p k l
unfolding array_at
part_is p k l n from e f = ap₂ (λ (x y : ℕ). take x (drop y l)) e f

-- a part of the first c numbers is one of all
pub part_of_front : (a b c : ℕ) (l : List ℤ) → b + a ≤ c → c ≤ length l → take a (drop b (take c l)) ≡ take a (drop b l)
part_of_front a b c l h n =
    let e : take c l ≡ take b l ++ take (c - b) (drop b l) = ap (λ (k : ℕ). take k l) {x = c} {y = b + (c - b)} (omega arith) ∙ take-add b (c - b) l in
    ap (λ (x : List ℤ). take a (drop b x)) e
    ∙ ap (take a) (drop_at (take b l) (take (c - b) (drop b l)) b (length-take-le b l (omega arith)))
    ∙ take-take a (c - b) (drop b l) (omega arith)

-- array k of what follows, as an array of all
pub array_of_rest : (p : ParameterSet) (k j : ℕ) (l : List ℤ) (n from : ℕ) → 2 * p.N * k + 2 * p.N ≤ n → from + 2 * p.N * k ≡ 2 * p.N * j → from + n ≤ length l → array_at p k (take n (drop from l)) ≡ array_at p j l
unfolding array_at
array_of_rest p k j l n from h e m =
    part_of_front (2 * p.N) (2 * p.N * k) n (drop from l) h (omega (arith, length-drop from l))
    ∙ ap (take (2 * p.N)) (drop-drop (2 * p.N * k) from l ∙ ap (λ (i : ℕ). drop i l) e)
