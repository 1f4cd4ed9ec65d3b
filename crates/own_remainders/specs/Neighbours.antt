-- The test of a value r against its neighbours r − w and r + w, for w = (a, b) other than zero, by the trace t of r·conj(w) and the norm n of w. Only contracts of private steps speak of it.
use Rattle.std.specs.Prelude.{Bool, cond, not, ◌&&◌, ◌||◌, ℤ, pos, ◌+ℤ◌, ◌-ℤ◌}
use Rattle.std.specs.Int.Signed.{lt_z}

-- where the norms of r and r − w are equal: 1 if r has the larger first part, then the larger second one, else 0
abbrev pub lead : (a b : ℤ) → ℤ
lead a b = cond (lt_z (pos 0) a || (not (lt_z a (pos 0)) && lt_z (pos 0) b)) (pos 1) (pos 0)

-- r is as good as r − w and r + w, for p = lead a b: the trace is from p − n to n + p − 1
abbrev pub within : (t n p : ℤ) → Bool
within t n p = not (lt_z t (p -ℤ n)) && lt_z t (n +ℤ p)
