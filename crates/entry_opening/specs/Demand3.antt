-- Demand 3 of bundles: a bundle that is written of arrays sealed under one accepted key is not refused, and opens entry by entry to exactly the messages sealed.
use Rattle.std.specs.Prelude.{Some}
use Rattle.std.specs.Prelude.{◌≡◌, false, List, [], ℕ, ◌*◌, ◌≤◌, ◌<◌, ℤ, length, get_or}
use Rattle.refusals.specs.Outcomes.{done, Passes}
use Rattle.parameters.specs.Sets.{ParameterSet}
use Rattle.packing.specs.Messages.{message_bytes}
use Rattle.etru.specs.Calls.{sealing}
use Rattle.etru.specs.Demand3.{AcceptedKey, Ephemeral, Message}
use Rattle.heads.specs.Heads.{head_of}
use Rattle.stop_sets.specs.Stops.{any_twice}
use Rattle.bundles.specs.Bundles.{longest_bundle, Entry, stops_of, array_of, numbers_of, entry_start, bundle_of, count_of}
use Rattle.bundles.specs.Calls.{bundle_checks, writing_bundle}
use Rattle.bundles.specs.Promises.{Stops16}
use Rattle.bundles.specs.Steps.{stop_at, part_at}
use Rattle.entry_opening.specs.Calls.{opening_entry}

-- An array that was sealed of a message, with some φ of its set.
pub record Sealed (p : ParameterSet) (h e : List ℤ) (message : List ℕ) : Type 0 where
  pub φ : List ℤ
  pub ephemeral : Ephemeral p φ
  pub valid : Message p message
  pub seals : sealing p h φ message (2 * p.N) ≡ done e

-- Entries of 16-bit stops, each the sealing of its message.
pub record SealedEntries (p : ParameterSet) (h : List ℤ) (es : List Entry) (messages : List (List ℕ)) : Type 0 where
  pub stops : Stops16 (stops_of es)
  pub sealed : (k : ℕ) → k < length es → Sealed p h (array_of es k) (get_or messages k [])

-- A reader of the bundle is made, and entry k opens to message k.
pub record OpensEntries (p : ParameterSet) (f F2 : List ℤ) (es : List Entry) (messages : List (List ℕ)) (file : List ℕ) : Type 0 where
  pub made : Passes (bundle_checks file)
  pub parameters : head_of file ≡ p
  pub count : count_of file ≡ length es
  pub stop : (k : ℕ) → k < length es → stop_at file (entry_start p.N k) ≡ Some (get_or (stops_of es) k 0)
  pub opens : (k : ℕ) → k < length es → opening_entry p f F2 (part_at file (entry_start p.N k)) (message_bytes p.N) ≡ done (get_or messages k [])

pub record Demand3 : Type 0 where
  -- Writing refuses nothing, where no stop occurs twice and the bundle is not too long.
  pub writes : (p : ParameterSet) (f F2 Fq g h : List ℤ) (es : List Entry) (messages : List (List ℕ)) → AcceptedKey p f F2 Fq g h → SealedEntries p h es messages → any_twice (stops_of es) ≡ false → entry_start p.N (length es) ≤ longest_bundle
      → writing_bundle p (stops_of es) (numbers_of es) (entry_start p.N (length es)) ≡ done (bundle_of p es)
  -- What is written opens.
  pub opens : (p : ParameterSet) (f F2 Fq g h : List ℤ) (es : List Entry) (messages : List (List ℕ)) (room : ℕ) (file : List ℕ) → AcceptedKey p f F2 Fq g h → SealedEntries p h es messages
      → writing_bundle p (stops_of es) (numbers_of es) room ≡ done file → OpensEntries p f F2 es messages file
