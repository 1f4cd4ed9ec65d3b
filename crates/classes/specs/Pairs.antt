-- A pair of parts as the code has it, and the value that it is.
use Rattle.eisenstein.specs.Values.{ℤ[ω], value}
use Rattle.eisenstein.specs.declared.Pair.{Pair}

abbrev pub value_of : Pair → ℤ[ω]
value_of p = value p.a p.b
