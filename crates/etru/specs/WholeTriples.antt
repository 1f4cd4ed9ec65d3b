-- What document 02's wish 3 says of the key check and of sealing, whatever else they are given; each is proved in proofs/WholeTriples.antt.
use Rattle.std.specs.Prelude.{◌≡◌, true, false, List, [], ◌∷◌, ◌++◌, ℕ, ℤ, take}
use Rattle.refusals.specs.Outcomes.{done, outcome, ◌if◌}
use Rattle.parameters.specs.Sets.{ParameterSet, parameter_checks}
use Rattle.polynomials.specs.Polynomials.{coefficient, whole_triples}
use Rattle.polynomials.specs.WholeTriples.{Whole}
use Rattle.etru.specs.Calls.{key_array_checks, key_check, sealing_checks, sealing}

-- "So g and φ must hold equally many of units 0, 2 and 4, and equally many of units 1, 3 and 5."
abbrev pub AcceptedGWhole : Type 0
AcceptedGWhole = (p : ParameterSet) (f F2 Fq g h : List ℤ) (room : ℕ) → key_check p f F2 Fq g room ≡ done h → Whole p.N p.s (coefficient g)

abbrev pub AcceptedΦWhole : Type 0
AcceptedΦWhole = (p : ParameterSet) (h φ e : List ℤ) (message : List ℕ) (room : ℕ) → sealing p h φ message room ≡ done e → Whole p.N p.s (coefficient φ)

-- "Other inputs now meet 9 or 10 at their present places": 9 after 7, 8, 11 and 12, and 10 after 7 and 12.
abbrev pub OtherGRefused : Type 0
OtherGRefused = (p : ParameterSet) (f F2 Fq g : List ℤ) (room : ℕ) → whole_triples p.N p.s (coefficient g) ≡ false → key_check p f F2 Fq g room ≡ outcome (parameter_checks p ++ (take 4 (key_array_checks p f F2 Fq g room) ++ 9 if true ∷ [])) []

abbrev pub OtherΦRefused : Type 0
OtherΦRefused = (p : ParameterSet) (h φ : List ℤ) (message : List ℕ) (room : ℕ) → whole_triples p.N p.s (coefficient φ) ≡ false → sealing p h φ message room ≡ outcome (parameter_checks p ++ (take 2 (sealing_checks p h φ message room) ++ 10 if true ∷ [])) []
