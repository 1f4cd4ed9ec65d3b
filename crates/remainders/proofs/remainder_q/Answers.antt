-- `remainder_q` meets its contract: what `reduce_q` answers, as written over zero.
use mathlib.Core.Path.{◌≡◌, sym, ◌∙◌, ap, ap₂}
use mir.Syntax.{w32, w64}
use mir.Val.{to_z, of_z}
use Rattle.refusals.specs.Outcomes.{Outcome, written, Passes}
use Rattle.refusals.specs.Numbers.{answered}
use Rattle.eisenstein.specs.Values.{ℤ[ω], value, 𝟘}
use Rattle.eisenstein.proofs.Pairs.{pair_read}
use Rattle.remainders.specs.Calls.{reduction_checks, reduce_q}
use Rattle.remainders.proofs.Limits.{reduces, refuses}
use Rattle.remainders.proofs.remainder_q.Goals as goal
use Rattle.remainders.proofs.remainder_q.Goals.{In-Ok, Start}

-- modulus and value as a callee is handed them
abbrev q : Start → ℤ[ω]
q s = value (to_z w32 (of_z w32 s.args.c)) (to_z w32 (of_z w32 s.args.d))

abbrev x : Start → ℤ[ω]
x s = value (to_z w64 (of_z w64 s.args.a)) (to_z w64 (of_z w64 s.args.b))

handed : (s : Start) → reduce_q (q s) (x s) ≡ reduce_q (value s.args.c s.args.d) (value s.args.a s.args.b)
handed s = ap₂ reduce_q (pair_read s.ranges.c s.ranges.d) (pair_read s.ranges.a s.ranges.b)

-- nothing is refused
accepted : (c : In-Ok) → Passes (reduction_checks (q c.before.before) (x c.before.before))
accepted c = sym c.reduction_refusal.ensures ∙ ap answered c.in-Ok.is

abbrev over_zero : Outcome ℤ[ω] → ℤ[ω]
over_zero o = written o 𝟘

pub returns-in-Ok : goal.returns-in-Ok
returns-in-Ok c = let s = c.before.before.before in c.remainder_of.ensures ∙ ap over_zero (sym (reduces (q s) (x s) (accepted c.before)) ∙ handed s)

pub returns-in-Err : goal.returns-in-Err
returns-in-Err c = let r = c.before in
    ap over_zero (sym (refuses (q r.before) (x r.before) _ (sym r.reduction_refusal.ensures ∙ ap answered c.in-Err.is)) ∙ handed r.before)
