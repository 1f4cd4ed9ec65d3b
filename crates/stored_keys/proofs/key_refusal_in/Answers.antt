-- `key_refusal_in` meets its contract.
use mathlib.Core.Path.{◌≡◌, refl, ◌∙◌, ap}
use mathlib.Core.List.{List}
use Prim.Native.Nat.{ℕ, ◌-◌, ◌*◌}
use native.Mathlib.Omega.{arith}
use lib.IntN.{ℤ}
use lib.ListN.{length, take, drop}
use Rattle.refusals.specs.Outcomes.{number}
use Rattle.parameters.specs.Sets.{ParameterSet, set_of}
use Rattle.etru.specs.Calls.{key_check}
use Rattle.files.specs.Files.{array_at}
use Rattle.stored_keys.specs.Keys.{stored_key_check}
use Rattle.stored_keys.proofs.ArrayParts.{part_is, array_of_rest}
use Rattle.stored_keys.proofs.key_refusal_in.Goals as goal
use Rattle.stored_keys.proofs.key_refusal_in.Goals.{Start}

abbrev P : Start → ParameterSet
P s = set_of s.args.p

abbrev numbers : Start → List ℤ
numbers s = s.args.numbers.now

-- the arrays, as the code parts them
abbrev width : Start → ℕ
width s = 2 * s.args.p.n

f_is : (s : Start) → take (width s) (numbers s) ≡ array_at (P s) 0 (numbers s)
f_is s = part_is (P s) 0 (numbers s) (width s) 0 refl (omega arith)

F2_is : (s : Start) → take (2 * width s - width s) (drop (width s) (numbers s)) ≡ array_at (P s) 1 (numbers s)
F2_is s = part_is (P s) 1 (numbers s) (2 * width s - width s) (width s) (omega arith) (omega arith)

-- Fq and g, in what follows them
abbrev rest : Start → List ℤ
rest s = take (4 * width s - 2 * width s) (drop (2 * width s) (numbers s))

Fq_is : (s : Start) → array_at (P s) 0 (rest s) ≡ array_at (P s) 2 (numbers s)
Fq_is s = array_of_rest (P s) 0 2 (numbers s) (4 * width s - 2 * width s) (2 * width s) (omega arith) (omega arith) (omega (arith, s.requires.0))

g_is : (s : Start) → array_at (P s) 1 (rest s) ≡ array_at (P s) 3 (numbers s)
g_is s = array_of_rest (P s) 1 3 (numbers s) (4 * width s - 2 * width s) (2 * width s) (omega arith) (omega arith) (omega (arith, s.requires.0))

pub returns : goal.returns
unfolding stored_key_check
returns c = c.check_parts.ensures
    ∙ (λ i. number (key_check (P (goal.at.returns c).Start) (f_is (goal.at.returns c).Start i) (F2_is (goal.at.returns c).Start i) (Fq_is (goal.at.returns c).Start i) (g_is (goal.at.returns c).Start i) (length c.args.h.now)))
    ∙ ap (λ (n : ℕ). number (key_check (P (goal.at.returns c).Start) (array_at (P (goal.at.returns c).Start) 0 (numbers (goal.at.returns c).Start)) (array_at (P (goal.at.returns c).Start) 1 (numbers (goal.at.returns c).Start)) (array_at (P (goal.at.returns c).Start) 2 (numbers (goal.at.returns c).Start)) (array_at (P (goal.at.returns c).Start) 3 (numbers (goal.at.returns c).Start)) n)) c.requires.1
