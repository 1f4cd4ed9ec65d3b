-- `check_parts` meets its contract.
use mathlib.Core.Path.{◌≡◌, refl, ◌∙◌}
use mathlib.Core.List.{List}
use Prim.Native.Nat.{ℕ, ◌-◌, ◌*◌}
use native.Mathlib.Omega.{arith}
use lib.IntN.{ℤ}
use lib.ListN.{length, take, drop}
use Rattle.refusals.specs.Outcomes.{number}
use Rattle.parameters.specs.Sets.{ParameterSet, set_of}
use Rattle.etru.specs.Calls.{key_check}
use Rattle.files.specs.Files.{array_at}
use Rattle.stored_keys.proofs.ArrayParts.{part_is}
use Rattle.stored_keys.proofs.check_parts.Goals as goal
use Rattle.stored_keys.proofs.check_parts.Goals.{Start}

abbrev P : Start → ParameterSet
P s = set_of s.args.p

abbrev rest : Start → List ℤ
rest s = s.args.rest.now

-- the two arrays, as the code parts them
abbrev width : Start → ℕ
width s = 2 * s.args.p.n

Fq_is : (s : Start) → take (width s) (rest s) ≡ array_at (P s) 0 (rest s)
Fq_is s = part_is (P s) 0 (rest s) (width s) 0 refl (omega arith)

g_is : (s : Start) → take (2 * width s - width s) (drop (width s) (rest s)) ≡ array_at (P s) 1 (rest s)
g_is s = part_is (P s) 1 (rest s) (2 * width s - width s) (width s) (omega arith) (omega arith)

pub returns : goal.returns
returns c = c.check_key.ensures.0 ∙ (λ i. number (key_check (P (goal.at.returns c).Start) c.args.f.now c.args.f2.now (Fq_is (goal.at.returns c).Start i) (g_is (goal.at.returns c).Start i) (length c.args.h.now)))
