-- What document 02's wish 4 promises of sealing and opening short messages, for all inputs; each is proved in proofs/Promises.antt.
use Rattle.std.specs.Prelude.{◌≡◌, true, List, [], ◌∷◌, ◌++◌, ◌≢◌, ℕ, ◌+◌, ◌*◌, ◌≤◌, ◌<◌, ℤ, length, take}
use Rattle.refusals.specs.Outcomes.{done, refused, outcome, ◌if◌, Passes}
use Rattle.parameters.specs.Sets.{ParameterSet, parameter_checks}
use Rattle.packing.specs.Messages.{message_bytes}
use Rattle.etru.specs.Calls.{sealing, opening}
use Rattle.etru.specs.Demand3.{AcceptedKey, Ephemeral, Message}
use Rattle.files.specs.Files.{file_bytes, file_of}
use Rattle.files.specs.Calls.{writing}
use Rattle.short_messages.specs.ShortMessages.{longest_short, padded, not_short, short_of}
use Rattle.short_messages.specs.Promises.{Short}
use Rattle.short_scheme.specs.Calls.{short_sealing_checks, short_sealing, short_opening}

-- "The empty message is valid", with every accepted parameter set.
abbrev pub EmptyValid : Type 0
EmptyValid = (p : ParameterSet) → Passes (parameter_checks p) → Short p.N []

-- Sealing a short message is sealing its 2N bits: the same number and the same output, whatever the other arguments are.
abbrev pub ShortSealsAsPadded : Type 0
ShortSealsAsPadded = (p : ParameterSet) (h φ : List ℤ) (short : List ℕ) (room : ℕ) → 8 * length short + 1 ≤ 2 * p.N → short_sealing p h φ short room ≡ sealing p h φ (padded p.N short) room

-- "26 on sealing if 8n + 1 exceeds 2N, in the place of 15": after the parameters, 7, 12 and 10, which are those of the empty message, since "the message's length is a matter for 26 and not for 7".
abbrev pub TooLongRefused : Type 0
TooLongRefused =
    (p : ParameterSet) (h φ : List ℤ) (short : List ℕ) (room : ℕ) → 2 * p.N < 8 * length short + 1
    → short_sealing p h φ short room ≡ outcome (parameter_checks p ++ (take 3 (short_sealing_checks p h φ 0 room) ++ 26 if true ∷ [])) []

-- What a short sealing left is written as a file of kind 5 without refusal; `files` promises that it reads back to the same.
abbrev pub ShortSealingWritten : Type 0
ShortSealingWritten =
    (p : ParameterSet) (f F2 Fq g h φ e : List ℤ) (short : List ℕ) → AcceptedKey p f F2 Fq g h → Ephemeral p φ → Short p.N short
    → short_sealing p h φ short (2 * p.N) ≡ done e → writing 5 p e (file_bytes 5 p.N) ≡ done (file_of 5 p e)

-- "On opening the caller lends the largest output": the first refusal of another output is 7, unless the parameters have one.
abbrev pub OtherOutputRefused : Type 0
OtherOutputRefused = (p : ParameterSet) (f F2 e : List ℤ) (room : ℕ) → room ≢ longest_short p.N → short_opening p f F2 e room ≡ outcome (parameter_checks p ++ 7 if true ∷ []) []

-- Opening as a short message and opening in full never disagree, whatever the key and the array are.
pub record Agreeing (p : ParameterSet) (f F2 e : List ℤ) : Type 0 where
  -- What is refused in full is refused by the same number.
  pub refused_alike : (n : ℕ) → opening p f F2 e (message_bytes p.N) ≡ refused n → short_opening p f F2 e (longest_short p.N) ≡ refused n
  -- A message that opens in full is read as a short one, or it is none and meets 27.
  pub reads : (message : List ℕ) → opening p f F2 e (message_bytes p.N) ≡ done message → short_opening p f F2 e (longest_short p.N) ≡ outcome (27 if not_short p.N message ∷ []) (short_of p.N message)
  -- A short message opens in full to its own 2N bits.
  pub pads : (short : List ℕ) → short_opening p f F2 e (longest_short p.N) ≡ done short → Short p.N short × (opening p f F2 e (message_bytes p.N) ≡ done (padded p.N short))

abbrev pub ReadingsAgree : Type 0
ReadingsAgree = (p : ParameterSet) (f F2 e : List ℤ) → Agreeing p f F2 e

-- So a short sealing that is opened in full gives the padded bits, and a full sealing, opened as a short one, the short message that its bits are, or 27.
abbrev pub ShortSealingOpensInFull : Type 0
ShortSealingOpensInFull =
    (p : ParameterSet) (f F2 Fq g h φ e : List ℤ) (short : List ℕ) → AcceptedKey p f F2 Fq g h → Ephemeral p φ → Short p.N short
    → short_sealing p h φ short (2 * p.N) ≡ done e → opening p f F2 e (message_bytes p.N) ≡ done (padded p.N short)

abbrev pub FullSealingOpensShort : Type 0
FullSealingOpensShort =
    (p : ParameterSet) (f F2 Fq g h φ e : List ℤ) (message : List ℕ) → AcceptedKey p f F2 Fq g h → Ephemeral p φ → Message p message
    → sealing p h φ message (2 * p.N) ≡ done e → short_opening p f F2 e (longest_short p.N) ≡ outcome (27 if not_short p.N message ∷ []) (short_of p.N message)
