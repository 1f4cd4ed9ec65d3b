-- `write_public_key` meets its contract: the product commutes, and g comes first, since its coefficients are zeros and units.
use mir.Syntax.{w32}
use mathlib.Core.Path.{◌∙◌, ap}
use borrow.Author.Rules.{rules}
use lib.ListN.{length}
use Rattle.eisenstein.specs.Reduction.{mod_q}
use Rattle.eisenstein.proofs.Pairs.{pair_read}
use Rattle.parameters.specs.Sets.{ParameterSet, set_of}
use Rattle.polynomials.specs.Polynomials.{coefficient}
use Rattle.polynomials.proofs.Arrays.{array_same}
use Rattle.polynomials.proofs.Promises.{convolution_commutes}
use Rattle.etru.specs.Scheme.{public_key}
use Rattle.etru.proofs.Passed.{Checking, key_passed}
use Rattle.etru.proofs.Products.{formed_modulo_q}
use Rattle.key_check.proofs.public_keys.write_public_key.Goals as goal
use Rattle.key_check.proofs.public_keys.write_public_key.Goals.{Start}

abbrev P : Start → ParameterSet
P s = set_of s.args.p

ready : (s : Start) → Checking (P s) s.args.fq.now s.args.g.now (length s.args.h.now)
ready s = key_passed (P s) s.args.f.now s.args.f2.now s.args.fq.now s.args.g.now (length s.args.h.now) s.requires

pub returns : goal.returns
unfolding public_key
returns c = let k = ready (goal.at.returns c).Start in
    formed_modulo_q (P (goal.at.returns c).Start) k.accepted c.args.h.now k.g_units k.Fq_ready k.room_is (pair_read {w = w32} (search rules) (search rules)) c.multiply_units_modulo_q.ensures
    ∙ array_same c.args.p.n (λ i p. ap (mod_q (P (goal.at.returns c).Start).q) (convolution_commutes c.args.p.n (coefficient c.args.g.now) (coefficient c.args.fq.now) i))
