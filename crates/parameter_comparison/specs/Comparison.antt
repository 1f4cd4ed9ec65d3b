-- Document 01, refusal 20: the parameters of two files, compared.
use Rattle.std.specs.Prelude.{Bool, ◌&&◌, eqb}
use Rattle.eisenstein.specs.Values.{same}
use Rattle.parameters.specs.Sets.{ParameterSet}

-- "the two files' parameters differ"
unfoldable pub same_set : ParameterSet → ParameterSet → Bool
same_set p p' = eqb p.N p'.N && (same p.q p'.q && (eqb p.s p'.s && eqb p.t p'.t))
