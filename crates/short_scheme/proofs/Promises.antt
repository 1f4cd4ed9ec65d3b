-- What is promised of sealing and opening short messages: they are sealing and opening of their 2N bits.
use mathlib.Core.Path.{◌≡◌, refl, sym, ◌∙◌, ap, ap₂, subst}
use mathlib.Core.Bool.{Bool, true, not, ◌&&◌}
use mathlib.Core.List.{List, [], ◌∷◌, ◌++◌, append_assoc}
use Prim.Native.Nat.{ℕ, ◌+◌, ◌*◌, ◌≤◌}
use native.Mathlib.Omega.{arith}
use borrow.Author.Tests.{lt-ltb, le-ltb, eq-eqb, ne_eqb}
use lib.Dec.{T}
use lib.IntN.{ℤ}
use lib.ListN.{length, take}
use lib.Seq.{take_all}
use Rattle.integers.proofs.Tests.{equal_2}
use Rattle.refusals.specs.Outcomes.{Check, Outcome, done, refused, unless, outcome, ◌if◌}
use Rattle.refusals.proofs.Checks.{refused_by, none_left, holds_passed, fails_refused, done_holds, same_done, done_passed, done_value, done_all, passed_all, done_with, done_parts, carried, carried_refused, outcome_carried, refused_first, same_first}
use Rattle.parameters.specs.Sets.{ParameterSet, parameter_checks}
use Rattle.parameters.proofs.AcceptedParameters.{accepted_parameters}
use Rattle.polynomials.specs.Polynomials.{coefficient, array, units_only, whole_triples, reduced_q, reduced2}
use Rattle.arrays.specs.Arrays.{full}
use Rattle.packing.specs.Messages.{message_bytes, packed, spare_bit_set}
use Rattle.packing.proofs.RoundTrips.{is_unset, unpacked_length, unpacked_bytes, unpacked_spare}
use Rattle.etru.specs.Scheme.{sealed, opened}
use Rattle.etru.specs.Calls.{sealing_checks, sealing, opening_checks, opening}
use Rattle.etru.specs.Demand3.{AcceptedKey, Ephemeral, Message}
use Rattle.etru.proofs.Demand3.{demand_3}
use Rattle.etru.proofs.Passed.{opening_passed}
use Rattle.heads.specs.Kinds.{arrays_of, known_kind}
use Rattle.files.specs.Files.{file_numbers, file_bytes}
use Rattle.files.specs.Calls.{set_checks, right_lengths, content_checks, writing_checks, writing}
use Rattle.short_messages.specs.ShortMessages.{longest_short, padded, not_short, short_of}
use Rattle.short_messages.specs.Promises.{Short}
use Rattle.short_messages.proofs.ReadingBack.{padded_whole, read_from_just_one}
use Rattle.short_scheme.specs.Calls.{short_sealing_checks, short_sealing, formed, short_opening_checks, short_opening}
use Rattle.short_scheme.specs.Promises.{EmptyValid, ShortSealsAsPadded, TooLongRefused, ShortSealingWritten, OtherOutputRefused, ReadingsAgree, ShortSealingOpensInFull, FullSealingOpensShort}

pub empty_valid : EmptyValid
empty_valid p c = record { bytes = λ i. omega arith; fits = omega (arith, (accepted_parameters p c).N_large) }

-- ---- sealing

-- the 2N bits of a short message are a message
pub padded_message : (p : ParameterSet) (short : List ℕ) → 8 * length short + 1 ≤ 2 * p.N → Message p (padded p.N short)
padded_message p short fits = let w = padded_whole p.N short fits in record { full = w.0; bytes = w.1; no_spare = w.2 }

pub short_seals_as_padded : ShortSealsAsPadded
unfolding short_sealing short_sealing_checks sealing sealing_checks outcome
short_seals_as_padded p h φ short room fits =
    same_first (parameter_checks p) _ _ _ _ λ _.
    ap (λ (t : Bool). unless seven 7 (unless twelve 12 (unless ten 10 (unless t 26 (done e))))) (le-ltb (2 * p.N) (8 * length short + 1) fits)
    ∙ sym (ap₂ (λ (l t : Bool). unless (not (l && lengths)) 7 (unless twelve 12 (unless ten 10 (unless t 15 (done e)))))
    (eq-eqb (length (padded p.N short)) (message_bytes p.N) m.full) (is_unset (spare_bit_set p.N (padded p.N short)) m.no_spare))
  where
    m : Message p (padded p.N short)
    m = padded_message p short fits

    e : List ℤ
    e = array p.N (sealed p (coefficient h) (coefficient φ) (packed (padded p.N short)))

    lengths : Bool
    lengths = full p.N (length h) && (full p.N (length φ) && full p.N room)

    seven : Bool
    seven = not lengths

    twelve : Bool
    twelve = not (reduced_q p.N p.q (coefficient h))

    ten : Bool
    ten = not (whole_triples p.N p.s (coefficient φ))

pub too_long_refused : TooLongRefused
unfolding short_sealing short_sealing_checks
too_long_refused p h φ short room long =
    same_first (parameter_checks p) _ _ _ _ λ _.
    same_first (take 3 (short_sealing_checks p h φ 0 room)) _ _ _ _ λ _.
    refused_by 26 [] _ (lt-ltb (2 * p.N) (8 * length short + 1) long) ∙ sym (refused_by 26 [] [] refl)

-- ---- opening

pub other_output_refused : OtherOutputRefused
unfolding short_opening short_opening_checks
other_output_refused p f F2 e room other =
    same_first (parameter_checks p) _ _ _ _ λ _.
    fails_refused 7 _ _ _ (ap (λ (t : Bool). t && (full p.N (length f) && (full p.N (length F2) && full p.N (length e)))) (ne_eqb room (longest_short p.N) other)) ∙ sym (refused_by 7 [] [] refl)

module _ (p : ParameterSet) (f F2 e : List ℤ) where
  -- what both openings ask, where t says that the output has its length
  asked : Bool → List Check
  asked t =
      parameter_checks p
      ++ (7 if not (t && (full p.N (length f) && (full p.N (length F2) && full p.N (length e))))
      ∷ 8 if not (units_only p.N p.t (coefficient f))
      ∷ 11 if not (reduced2 p.N (coefficient F2))
      ∷ 12 if not (reduced_q p.N p.q (coefficient e))
      ∷ [])

  bits : List ℕ
  bits = formed p f F2 e

  -- reading bits as a short message
  ends : List ℕ → List Check
  ends m = 27 if not_short p.N m ∷ []

  reading : List ℕ → Outcome (List ℕ)
  reading m = outcome (ends m) (short_of p.N m)

  in_full : opening p f F2 e (message_bytes p.N) ≡ outcome (asked true) bits
  unfolding opening opening_checks asked bits
  in_full = ap (λ (t : Bool). outcome (asked t) bits) (eq-eqb (message_bytes p.N) (message_bytes p.N) refl)

  as_short : short_opening p f F2 e (longest_short p.N) ≡ outcome (asked true ++ ends bits) (short_of p.N bits)
  unfolding short_opening short_opening_checks asked ends bits
  as_short =
      ap (λ (cs : List Check). outcome cs (short_of p.N bits)) (sym (append_assoc (parameter_checks p) (take 4 (short_opening_checks p f F2 e (longest_short p.N))) (ends bits)))
      ∙ ap (λ (t : Bool). outcome (asked t ++ ends bits) (short_of p.N bits)) (eq-eqb (longest_short p.N) (longest_short p.N) refl)

  refused_alike : (n : ℕ) → opening p f F2 e (message_bytes p.N) ≡ refused n → short_opening p f F2 e (longest_short p.N) ≡ refused n
  refused_alike n r =
      as_short
      ∙ refused_first (asked true) (ends bits) (short_of p.N bits) n
      (outcome_carried (λ (_ : List ℕ). tt {0}) (asked true) bits ∙ ap (carried (λ (_ : List ℕ). tt {0})) (sym in_full ∙ r) ∙ carried_refused (λ (_ : List ℕ). tt {0}) n)

  reads : (m : List ℕ) → opening p f F2 e (message_bytes p.N) ≡ done m → short_opening p f F2 e (longest_short p.N) ≡ reading m
  unfolding reading
  reads m d =
      let (passes, is) = done_parts (asked true) bits m (sym in_full ∙ d) in
      as_short ∙ passed_all (asked true) (ends bits) (short_of p.N bits) passes ∙ ap reading is

  pads : (short : List ℕ) → short_opening p f F2 e (longest_short p.N) ≡ done short → Short p.N short × (opening p f F2 e (message_bytes p.N) ≡ done (padded p.N short))
  unfolding ends bits
  pads short d =
      let (passes, r) = done_all (asked true) (ends bits) (short_of p.N bits) short (sym as_short ∙ d) in
      let (is-short, v) = done_passed 27 (not_short p.N bits) [] (short_of p.N bits) short r in
      let is : short_of p.N bits ≡ short = done_value (short_of p.N bits) short v in
      let m = opened p (coefficient f) (coefficient F2) (coefficient e) in
      let one = read_from_just_one p.N bits (unpacked_length p.N m) (unpacked_bytes p.N m) (unpacked_spare p.N m) is-short in (
        subst (Short p.N) is one.short,
        in_full ∙ done_with (asked true) bits passes ∙ ap done (sym (ap (padded p.N) (sym is) ∙ one.pads)),
      )

pub readings_agree : ReadingsAgree
unfolding reading ends
readings_agree p f F2 e = record { refused_alike = refused_alike p f F2 e; reads = reads p f F2 e; pads = pads p f F2 e }

-- ---- sealed, and opened in the other way

-- what was sealed in full opens to it
sealed_opens : {p : ParameterSet} {f F2 Fq g h φ : List ℤ} (e : List ℤ) {message : List ℕ} → AcceptedKey p f F2 Fq g h → Ephemeral p φ → Message p message → sealing p h φ message (2 * p.N) ≡ done e → opening p f F2 e (message_bytes p.N) ≡ done message
sealed_opens {p} {f} {F2} {Fq} {g} {h} {φ} e {message} key ephemeral m seals =
    let o = demand_3.opens p f F2 Fq g h φ message key ephemeral m in
    subst (λ (x : List ℤ). opening p f F2 x (message_bytes p.N) ≡ done message) (same_done (sym o.seals ∙ seals)) o.opens

pub short_sealing_opens_in_full : ShortSealingOpensInFull
short_sealing_opens_in_full p f F2 Fq g h φ e short key ephemeral s seals =
    sealed_opens e key ephemeral (padded_message p short s.fits) (sym (short_seals_as_padded p h φ short (2 * p.N) s.fits) ∙ seals)

pub short_sealing_written : ShortSealingWritten
unfolding opening opening_checks writing writing_checks content_checks set_checks file_numbers arrays_of
short_sealing_written p f F2 Fq g h φ e short key ephemeral s seals =
    let passes = (done_parts _ _ _ (short_sealing_opens_in_full p f F2 Fq g h φ e short key ephemeral s seals)).0 in
    let e-long = (opening_passed p f F2 e (message_bytes p.N) passes).e_ready.long in
    let (accepted, c7) = done_all (parameter_checks p) _ _ _ passes in
    let c12 = done_all (take 3 (opening_checks p f F2 e (message_bytes p.N))) _ _ _ c7 in
    let reduced = (done_holds 12 (reduced_q p.N p.q (coefficient e)) _ _ _ c12.1).0 in
    holds_passed 19 (known_kind 5) _ _ tt
    ∙ passed_all (parameter_checks p) _ _ accepted
    ∙ holds_passed 7 (right_lengths 5 p.N (length e) (file_bytes 5 p.N)) _ _ (equal_2 {a = file_bytes 5 p.N} {b = length e} {b' = file_numbers 5 p.N} refl (omega arith))
    ∙ holds_passed 12 (reduced_q p.N p.q (coefficient (take (2 * p.N) e))) _ _ (subst (λ (x : List ℤ). T (reduced_q p.N p.q (coefficient x))) (sym (take_all (2 * p.N) e (omega arith))) reduced)
    ∙ none_left _

pub full_sealing_opens_short : FullSealingOpensShort
full_sealing_opens_short p f F2 Fq g h φ e message key ephemeral m seals =
    (readings_agree p f F2 e).reads message (sealed_opens e key ephemeral m seals)
