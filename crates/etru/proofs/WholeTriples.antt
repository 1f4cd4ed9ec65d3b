-- What wish 3 says of the key check and of sealing.
use lib.ListN.{take}
use Rattle.refusals.proofs.Checks.{same_first, ends_at, done_all, done_holds}
use Rattle.parameters.specs.Sets.{parameter_checks}
use Rattle.polynomials.specs.Polynomials.{coefficient, whole_triples}
use Rattle.polynomials.proofs.WholeTriples.{members_are_whole}
use Rattle.etru.specs.Calls.{key_array_checks, key_checks, key_check, sealing_checks, sealing}
use Rattle.etru.specs.WholeTriples.{AcceptedGWhole, AcceptedΦWhole, OtherGRefused, OtherΦRefused}

pub accepted_g_whole : AcceptedGWhole
unfolding key_check key_checks
accepted_g_whole p f F2 Fq g h room e =
    let k = done_all (take 4 (key_array_checks p f F2 Fq g room)) _ _ _ (done_all (parameter_checks p) _ _ _ e).1 in
    members_are_whole p.N p.s (coefficient g) (done_holds 9 (whole_triples p.N p.s (coefficient g)) _ _ _ k.1).0

pub accepted_φ_whole : AcceptedΦWhole
unfolding sealing sealing_checks
accepted_φ_whole p h φ e message room d =
    let k = done_all (take 2 (sealing_checks p h φ message room)) _ _ _ (done_all (parameter_checks p) _ _ _ d).1 in
    members_are_whole p.N p.s (coefficient φ) (done_holds 10 (whole_triples p.N p.s (coefficient φ)) _ _ _ k.1).0

pub other_g_refused : OtherGRefused
unfolding key_check key_checks
other_g_refused p f F2 Fq g room other =
    same_first (parameter_checks p) _ _ _ _ (λ _. ends_at (take 4 (key_array_checks p f F2 Fq g room)) 9 (whole_triples p.N p.s (coefficient g)) _ _ _ other)

pub other_φ_refused : OtherΦRefused
unfolding sealing sealing_checks
other_φ_refused p h φ message room other =
    same_first (parameter_checks p) _ _ _ _ (λ _. ends_at (take 2 (sealing_checks p h φ message room)) 10 (whole_triples p.N p.s (coefficient φ)) _ _ _ other)
