-- The key of a private file, checked as it is stored: f, F2, Fq and g, one after another.
use Rattle.std.specs.Prelude.{List, ℕ, ◌*◌, ℤ}
use Rattle.refusals.specs.Outcomes.{Outcome}
use Rattle.parameters.specs.Sets.{ParameterSet}
use Rattle.etru.specs.Calls.{key_check}
use Rattle.files.specs.Files.{array_at}

-- The key check of the four arrays, with room for the public key.
unfoldable pub stored_key_check : ParameterSet → List ℤ → Outcome (List ℤ)
stored_key_check p numbers = key_check p (array_at p 0 numbers) (array_at p 1 numbers) (array_at p 2 numbers) (array_at p 3 numbers) (2 * p.N)

-- The key check with Fq and g one after another in an array: the contract of a private function alone speaks of it.
abbrev pub key_check_in : ParameterSet → (f F2 rest : List ℤ) → ℕ → Outcome (List ℤ)
key_check_in p f F2 rest room = key_check p f F2 (array_at p 0 rest) (array_at p 1 rest) room
