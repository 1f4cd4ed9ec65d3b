-- `in_set` meets its contract: the parameter set is accepted and the array is full, so that each test decides by the coefficients alone.
use mir.Syntax.{w32}
use mathlib.Core.Path.{◌≡◌, sym, ◌∙◌, ap}
use mathlib.Core.Bool.{Bool, true, not, ◌&&◌}
use borrow.Author.Rules.{rules}
use borrow.Author.Tests.{le-leb, eq-eqb}
use lib.Dec.{leb}
use lib.ListN.{length}
use Rattle.eisenstein.specs.Values.{ℤ[ω], value, 𝟘, same}
use Rattle.eisenstein.specs.Calls.{beyond}
use Rattle.eisenstein.proofs.Equality.{same_false}
use Rattle.eisenstein.proofs.Pairs.{pair_read}
use Rattle.parameters.specs.Sets.{set_of}
use Rattle.parameters.proofs.AcceptedParameters.{Accepted, accepted_parameters, modulus_nonzero}
use Rattle.polynomials.specs.Polynomials.{coefficient, reduced_q}
use Rattle.arrays.specs.Arrays.{full}
use Rattle.array_sets.specs.Sets.{in_set}
use Rattle.array_sets.specs.declared.ArraySet.{ArraySet}
use Rattle.array_sets.proofs.sets.in_set.Goals as goal
use Rattle.array_sets.proofs.sets.in_set.Goals.{Start}

abbrev tested : Start → ArraySet → Bool
tested s a = in_set (set_of s.args.p.parameters) a s.args.x.now

accepted : (s : Start) → Accepted (set_of s.args.p.parameters)
accepted s = accepted_parameters (set_of s.args.p.parameters) s.args.p.passes

long : (s : Start) → full s.args.p.parameters.n (length s.args.x.now) ≡ true
long s = eq-eqb _ _ s.requires

units_decide : (s : Start) (t : Bool) → (leb s.args.p.parameters.n 1024 && (full s.args.p.parameters.n (length s.args.x.now) && t)) ≡ t
units_decide s t = rw (le-leb s.args.p.parameters.n 1024 (accepted s).N_small, long s)

abbrev q : Start → ℤ[ω]
q s = value s.args.p.parameters.c s.args.p.parameters.d

reduced_decides : (s : Start) (t : Bool) → (full s.args.p.parameters.n (length s.args.x.now) && (not (beyond 4095 (q s)) && (not (same (q s) 𝟘) && t))) ≡ t
reduced_decides s t = let a = accepted s in rw (long s, a.q_small, same_false (q s) 𝟘 (modulus_nonzero (set_of s.args.p.parameters) a))

pub returns-in-F : goal.returns-in-F
returns-in-F c = c.units_only.ensures ∙ units_decide (goal.at.returns-in-F c).Start _ ∙ sym (ap (tested (goal.at.returns-in-F c).Start) c.in-F.is)

pub returns-in-G : goal.returns-in-G
returns-in-G c = c.whole_triples.ensures ∙ units_decide (goal.at.returns-in-G c).Start _ ∙ sym (ap (tested (goal.at.returns-in-G c).Start) c.in-G.is)

pub returns-in-Phi : goal.returns-in-Phi
returns-in-Phi c = c.whole_triples-in-Phi.ensures ∙ units_decide (goal.at.returns-in-Phi c).Start _ ∙ sym (ap (tested (goal.at.returns-in-Phi c).Start) c.in-Phi.is)

pub returns-in-ReducedModuloQ : goal.returns-in-ReducedModuloQ
returns-in-ReducedModuloQ c = c.reduced_modulo_q.ensures
    ∙ ap (λ (y : ℤ[ω]). full c.args.p.parameters.n (length c.args.x.now) && (not (beyond 4095 y) && (not (same y 𝟘) && reduced_q c.args.p.parameters.n y (coefficient c.args.x.now)))) (pair_read {w = w32} (search rules) (search rules))
    ∙ reduced_decides (goal.at.returns-in-ReducedModuloQ c).Start _
    ∙ sym (ap (tested (goal.at.returns-in-ReducedModuloQ c).Start) c.in-ReducedModuloQ.is)
