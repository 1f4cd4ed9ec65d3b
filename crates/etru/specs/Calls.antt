-- The outcomes of the calls, with the refusals in document 01's order. An output is known by its length, `room`.
use Rattle.std.specs.Prelude.{not, ◌&&◌, List, [], ◌∷◌, ◌++◌, ℕ, eqb, ℤ, length}
use Rattle.refusals.specs.Outcomes.{Check, Outcome, outcome, ◌if◌}
use Rattle.parameters.specs.Sets.{ParameterSet, parameter_checks}
use Rattle.polynomials.specs.Polynomials.{coefficient, array, convolution, one, units_only, whole_triples, reduced_q, reduced2, congruent_q, congruent2}
use Rattle.arrays.specs.Arrays.{full}
use Rattle.packing.specs.Messages.{message_bytes, packed, unpacked, spare_bit_set}
use Rattle.etru.specs.Scheme.{public_key, sealed, opened}

-- "Every operation below on a parameter set begins so, then 7."

-- The key check's first five: 7 for all lengths, then f, F2, Fq and g.
abbrev pub key_array_checks : ParameterSet → (f F2 Fq g : List ℤ) → ℕ → List Check
key_array_checks p f F2 Fq g room =
    7 if not (full p.N (length f) && (full p.N (length F2) && (full p.N (length Fq) && (full p.N (length g) && full p.N room))))
    ∷ 8 if not (units_only p.N p.t (coefficient f))
    ∷ 11 if not (reduced2 p.N (coefficient F2))
    ∷ 12 if not (reduced_q p.N p.q (coefficient Fq))
    ∷ 9 if not (whole_triples p.N p.s (coefficient g))
    ∷ []

-- Its last two: "f × F2 not 1 modulo 2", "f × Fq not 1 modulo q".
abbrev pub inverse_checks : ParameterSet → (f F2 Fq : List ℤ) → List Check
inverse_checks p f F2 Fq =
    13 if not (congruent2 p.N (convolution p.N (coefficient f) (coefficient F2)) one)
    ∷ 14 if not (congruent_q p.N p.q (convolution p.N (coefficient f) (coefficient Fq)) one)
    ∷ []

-- "Key check: 8, 11, 12, 9, 13, 14." It writes h.
unfoldable pub key_checks : ParameterSet → (f F2 Fq g : List ℤ) → ℕ → List Check
key_checks p f F2 Fq g room = key_array_checks p f F2 Fq g room ++ inverse_checks p f F2 Fq

unfoldable pub key_check : ParameterSet → (f F2 Fq g : List ℤ) → ℕ → Outcome (List ℤ)
key_check p f F2 Fq g room =
    outcome (parameter_checks p ++ key_checks p f F2 Fq g room) (array p.N (public_key p (coefficient Fq) (coefficient g)))

-- "Sealing: h 12, φ 10, message 15."
unfoldable pub sealing_checks : ParameterSet → (h φ : List ℤ) → (message : List ℕ) → ℕ → List Check
sealing_checks p h φ message room =
    7 if not (eqb (length message) (message_bytes p.N) && (full p.N (length h) && (full p.N (length φ) && full p.N room)))
    ∷ 12 if not (reduced_q p.N p.q (coefficient h))
    ∷ 10 if not (whole_triples p.N p.s (coefficient φ))
    ∷ 15 if spare_bit_set p.N message
    ∷ []

unfoldable pub sealing : ParameterSet → (h φ : List ℤ) → (message : List ℕ) → ℕ → Outcome (List ℤ)
sealing p h φ message room =
    outcome (parameter_checks p ++ sealing_checks p h φ message room) (array p.N (sealed p (coefficient h) (coefficient φ) (packed message)))

-- "Opening: f 8, F2 11, e 12."
unfoldable pub opening_checks : ParameterSet → (f F2 e : List ℤ) → ℕ → List Check
opening_checks p f F2 e room =
    7 if not (eqb room (message_bytes p.N) && (full p.N (length f) && (full p.N (length F2) && full p.N (length e))))
    ∷ 8 if not (units_only p.N p.t (coefficient f))
    ∷ 11 if not (reduced2 p.N (coefficient F2))
    ∷ 12 if not (reduced_q p.N p.q (coefficient e))
    ∷ []

unfoldable pub opening : ParameterSet → (f F2 e : List ℤ) → ℕ → Outcome (List ℕ)
opening p f F2 e room =
    outcome (parameter_checks p ++ opening_checks p f F2 e room) (unpacked p.N (opened p (coefficient f) (coefficient F2) (coefficient e)))
