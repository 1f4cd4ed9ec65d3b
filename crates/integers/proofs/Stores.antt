-- Runs of stores (the kit's `sets`).
use mathlib.Core.Path.{◌≡◌, ap}
use mathlib.Core.List.{List, [], ◌∷◌, ◌++◌}
use Prim.Native.Nat.{ℕ, suc, ◌+◌}
use native.Mathlib.Omega.{arith}
use lib.ListN.{length, set}
use lib.Seq.{sets}

-- a run goes on where it ended
pub go_on : (vs ws l : List ℕ) (i n : ℕ) → i + length vs ≡ n → sets (sets l i vs) n ws ≡ sets l i (vs ++ ws)
go_on [] ws l i n e = ap (λ (k : ℕ). sets l k ws) (omega arith)
go_on (a ∷ vs) ws l i n e = go_on vs ws (set l i a) (suc i) n (omega arith)
