-- What is promised of opening an entry, each proved in proofs/Promises.antt.
use Rattle.std.specs.Prelude.{◌≡◌, not, List, [], ◌∷◌, ℕ, ◌*◌, ◌<◌, ℤ, length}
use Rattle.refusals.specs.Outcomes.{outcome, Passes, ◌if◌}
use Rattle.parameters.specs.Sets.{ParameterSet}
use Rattle.polynomials.specs.Polynomials.{coefficient, units_only, reduced2}
use Rattle.packing.specs.Messages.{message_bytes, unpacked}
use Rattle.etru.specs.Scheme.{opened}
use Rattle.etru.specs.Calls.{opening}
use Rattle.heads.specs.Heads.{head_of}
use Rattle.files.specs.Files.{numbers_from}
use Rattle.bundles.specs.Bundles.{entry_start, count_of}
use Rattle.bundles.specs.Calls.{bundle_checks}
use Rattle.bundles.specs.Steps.{part_at}
use Rattle.entry_opening.specs.Calls.{opening_entry}

-- "Opening an entry gives what opening that array alone gives."
abbrev pub OpensAsItsArray : Type 0
OpensAsItsArray =
    (p : ParameterSet) (f F2 : List ℤ) (part : List ℕ) (room : ℕ) → length part ≡ 4 * p.N → opening_entry p f F2 part room ≡ opening p f F2 (numbers_from part) room

-- "All refusals come when the reader is made": of a bundle that is accepted no entry is refused by 7 or 12. Where the key and the output have their lengths, 8 and 11 for the key are all that is left.
abbrev pub EntriesNotRefused : Type 0
EntriesNotRefused =
    (file : List ℕ) (k : ℕ) (f F2 : List ℤ) → Passes (bundle_checks file) → k < count_of file → length f ≡ 2 * (head_of file).N → length F2 ≡ 2 * (head_of file).N
    → let p = head_of file in let part = part_at file (entry_start p.N k) in
    opening_entry p f F2 part (message_bytes p.N)
    ≡ outcome (8 if not (units_only p.N p.t (coefficient f)) ∷ 11 if not (reduced2 p.N (coefficient F2)) ∷ []) (unpacked p.N (opened p (coefficient f) (coefficient F2) (coefficient (numbers_from part))))
