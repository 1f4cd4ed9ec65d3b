-- The rows hold: each is computed from the definitions.
use mathlib.Core.Path.{refl, sym, subst}
use mathlib.Core.Bool.{not}
use lib.Dec.{T}
use mir.Facts.{T_not}
use Rattle.refusals.specs.Outcomes.{outcome}
use Rattle.eisenstein.specs.Values.{ℤ[ω], 𝟘, norm, unit, same, same_ℤ, ◌+ω◌, ◌-ω◌, ◌*ω◌}
use Rattle.eisenstein.specs.Reduction.{Remainder, mod_q, mod2, bit, cell, corner, better, best}
use Rattle.eisenstein.specs.Calls.{beyond}
use Rattle.eisenstein.proofs.Equality.{same_yes, same_true}
use Rattle.eisenstein.proofs.Remainders.{mod_q_is_remainder}
use Rattle.parameters.specs.Sets.{outside, even, bound, parameter_checks, parameters}
use Rattle.parameter_comparison.specs.Comparison.{same_set}
use Rattle.polynomials.specs.Polynomials.{coefficient, array, sum, convolution, one, all, count, nonzero, among, units_only, unit_count, equally_many, whole_triples, reduced_q, reduced2, congruent_q, congruent2}
use Rattle.packing.specs.Messages.{bit_of, pair, packed, spare_bit_set, message_bit, byte, listed, unpacked}
use Rattle.etru.specs.Scheme.{public_key, sealed, opened}
use Rattle.etru.specs.Calls.{key_checks, key_check, sealing_checks, sealing, opening_checks, opening}
use Rattle.heads.specs.Kinds.{arrays_of}
use Rattle.heads.specs.Heads.{bytes16, number16, bits16, signed16, unsigned_at, signed_at, head_of, head_bytes}
use Rattle.files.specs.Files.{file_numbers, file_bytes, numbers_from, array_at, bytes_of, file_of}
use Rattle.head_reading.specs.Calls.{marked, version_one, head_checks}
use Rattle.files.specs.Calls.{set_checks, content_checks, reading_checks, reading, writing_checks, writing}
use Rattle.lines.specs.Lines.{decimal, hex_digit, hex}
use Rattle.opened_files.specs.Pairs.{first_length, file_checks, inverse_checks, pair_checks, message_of, opening_pair, opening_files}
use Rattle.opening.specs.Program.{opening_line}
use Rattle.worked_examples.specs.Rows.{RowsHold}

-- a remainder, computed by `mod_q`
computed : (q x r : ℤ[ω]) → T (not (same q 𝟘)) → T (same (mod_q q x) r) → Remainder q x r
computed q x r h t =
    subst (Remainder q x) (same_yes (mod_q q x) r t)
    (mod_q_is_remainder q x (λ e. T_not (same q 𝟘) (subst T (sym (same_true e)) tt) h))

pub rows_hold : RowsHold
unfolding mod_q mod2 bit cell corner better best ◌+ω◌ ◌-ω◌ ◌*ω◌ norm unit same same_ℤ beyond outside even bound parameter_checks parameters outcome coefficient array sum convolution one all count nonzero among units_only unit_count equally_many whole_triples reduced_q reduced2 congruent_q congruent2 bit_of pair packed spare_bit_set message_bit byte listed unpacked public_key sealed opened key_checks key_check sealing_checks sealing opening_checks opening arrays_of file_numbers file_bytes bytes16 number16 bits16 signed16 unsigned_at signed_at head_of numbers_from array_at head_bytes bytes_of file_of marked version_one head_checks set_checks content_checks reading_checks reading writing_checks writing decimal hex_digit hex first_length file_checks same_set inverse_checks pair_checks message_of opening_pair opening_files opening_line
rows_hold = (
  computed _ _ _ tt tt,
  (
    refl,
    (
      refl,
      (
        refl,
        (
          computed _ _ _ tt tt,
          (
            computed _ _ _ tt tt,
            (
              refl,
              (
                refl,
                (
                  computed _ _ _ tt tt,
                  (
                    computed _ _ _ tt tt,
                    (refl, (refl, (refl, (refl, (refl, (refl, (refl, (refl, (refl, (refl, (refl, (refl, (refl, ((refl, refl), ((refl, refl), ((refl, refl), (refl, tt))))))))))))))))),
                  ),
                ),
              ),
            ),
          ),
        ),
      ),
    ),
  ),
)
