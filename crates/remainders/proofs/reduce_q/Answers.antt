-- `reduce_q` meets its contract.
use mathlib.Core.Path.{◌≡◌, sym, ◌∙◌, ap, ap₂}
use mir.Syntax.{w32, w64}
use mir.Val.{to_z, of_z}
use Rattle.refusals.specs.Outcomes.{done, Passes}
use Rattle.refusals.proofs.Errors.{err_is}
use Rattle.eisenstein.specs.Calls.{answered}
use Rattle.eisenstein.specs.Values.{ℤ[ω], value}
use Rattle.eisenstein.proofs.Pairs.{pair_read}
use Rattle.remainders.specs.Calls.{reduction_checks, reduce_q}
use Rattle.remainders.proofs.Limits.{reduces, refuses}
use Rattle.remainders.proofs.reduce_q.Goals as goal
use Rattle.remainders.proofs.reduce_q.Goals.{In_ok-reduction_refusal, Start}

-- modulus and value as a callee is handed them
abbrev q : Start → ℤ[ω]
q s = value (to_z w32 (of_z w32 s.args.c)) (to_z w32 (of_z w32 s.args.d))

abbrev x : Start → ℤ[ω]
x s = value (to_z w64 (of_z w64 s.args.a)) (to_z w64 (of_z w64 s.args.b))

handed : (s : Start) → reduce_q (q s) (x s) ≡ reduce_q (value s.args.c s.args.d) (value s.args.a s.args.b)
handed s = ap₂ reduce_q (pair_read s.ranges.c s.ranges.d) (pair_read s.ranges.a s.ranges.b)

-- nothing is refused
accepted : (c : In_ok-reduction_refusal) → Passes (reduction_checks (q c.before.before.before) (x c.before.before.before))
accepted c = sym c.in_ok-reduction_refusal.ensures

pub returns : goal.returns
returns c = let s = (goal.at.returns c).Start in ap done c.remainder_of.ensures ∙ sym (reduces (q s) (x s) (accepted (goal.at.returns c).In_ok-reduction_refusal)) ∙ handed s

pub returns-in_err-reduction_refusal : goal.returns-in_err-reduction_refusal
returns-in_err-reduction_refusal c = let s = (goal.at.returns-in_err-reduction_refusal c).Start in
    ap answered (err_is _ _ c.from_residual.ensures.1) ∙ sym (refuses (q s) (x s) _ (sym c.in_err-reduction_refusal.ensures)) ∙ handed s
