-- The outcomes of sealing a short message and of opening one (document 02, wish 4), with the refusals in their order. An output is known by its length, `room`.
use Rattle.std.specs.Prelude.{not, ◌&&◌, List, [], ◌∷◌, ◌++◌, ℕ, eqb, ℤ, length}
use Rattle.refusals.specs.Outcomes.{Check, Outcome, outcome, ◌if◌}
use Rattle.parameters.specs.Sets.{ParameterSet, parameter_checks}
use Rattle.polynomials.specs.Polynomials.{coefficient, array, units_only, whole_triples, reduced_q, reduced2}
use Rattle.arrays.specs.Arrays.{full}
use Rattle.packing.specs.Messages.{packed, unpacked}
use Rattle.etru.specs.Scheme.{sealed, opened}
use Rattle.short_messages.specs.ShortMessages.{too_long, longest_short, padded, not_short, short_of}

-- "On sealing, the message's length is a matter for 26 and not for 7." "26 on sealing if 8n + 1 exceeds 2N, in the place of 15": n is the message's length.
unfoldable pub short_sealing_checks : ParameterSet → (h φ : List ℤ) → (n room : ℕ) → List Check
short_sealing_checks p h φ n room =
    7 if not (full p.N (length h) && (full p.N (length φ) && full p.N room))
    ∷ 12 if not (reduced_q p.N p.q (coefficient h))
    ∷ 10 if not (whole_triples p.N p.s (coefficient φ))
    ∷ 26 if too_long p.N n
    ∷ []

unfoldable pub short_sealing : ParameterSet → (h φ : List ℤ) → (short : List ℕ) → ℕ → Outcome (List ℤ)
short_sealing p h φ short room =
    outcome (parameter_checks p ++ short_sealing_checks p h φ (length short) room) (array p.N (sealed p (coefficient h) (coefficient φ) (packed (padded p.N short))))

-- The 2N bits that opening forms, as a message.
abbrev pub formed : ParameterSet → (f F2 e : List ℤ) → List ℕ
formed p f F2 e = unpacked p.N (opened p (coefficient f) (coefficient F2) (coefficient e))

-- "On opening the caller lends the largest output". "27 on opening, after the arithmetic".
unfoldable pub short_opening_checks : ParameterSet → (f F2 e : List ℤ) → ℕ → List Check
short_opening_checks p f F2 e room =
    7 if not (eqb room (longest_short p.N) && (full p.N (length f) && (full p.N (length F2) && full p.N (length e))))
    ∷ 8 if not (units_only p.N p.t (coefficient f))
    ∷ 11 if not (reduced2 p.N (coefficient F2))
    ∷ 12 if not (reduced_q p.N p.q (coefficient e))
    ∷ 27 if not_short p.N (formed p f F2 e)
    ∷ []

unfoldable pub short_opening : ParameterSet → (f F2 e : List ℤ) → ℕ → Outcome (List ℕ)
short_opening p f F2 e room = outcome (parameter_checks p ++ short_opening_checks p f F2 e room) (short_of p.N (formed p f F2 e))
