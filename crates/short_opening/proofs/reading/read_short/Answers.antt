-- `read_short` meets its contract.
use Rattle.std.specs.Prelude.{None, Option, Some}
use mathlib.Core.Path.{◌≡◌, refl, sym, ◌∙◌, ap}
use mathlib.Core.List.{List, [], ◌∷◌}
use Prim.Native.Nat.{ℕ, ◌*◌}
use native.Mathlib.Omega.{arith}
use Rattle.refusals.specs.Outcomes.{Outcome, outcome, ◌if◌}
use Rattle.refusals.proofs.Checks.{refused_by}
use Rattle.packing.specs.Messages.{bit_of}
use Rattle.opened_arrays.proofs.Answers.{gives_as, gives_refusal}
use Rattle.short_messages.specs.ShortMessages.{last_one, ends_no_short, not_short, bytes_before, short_of}
use Rattle.short_messages.proofs.LastOnes.{last_known}
use Rattle.short_opening.proofs.reading.read_short.Goals as goal

-- what is read where the last 1 is this
abbrev read_at : List ℕ → Option ℕ → Outcome (List ℕ)
read_at bits o = outcome (27 if ends_no_short o ∷ []) (bytes_before o bits)

read_by : (n : ℕ) (bits : List ℕ) (o : Option ℕ) → last_one (2 * n) (bit_of bits) ≡ o → read_at bits o ≡ outcome (27 if not_short n bits ∷ []) (short_of n bits)
unfolding not_short short_of
read_by n bits o e = ap (read_at bits) (sym e)

pub read_before-requires : goal.read_before-requires
read_before-requires c =
    let found : last_one (2 * c.args.n) (bit_of c.args.bits.now) ≡ Some c.in-Some.k = sym c.last_one.ensures ∙ c.in-Some.is in
    let inside = (last_known (bit_of c.args.bits.now) (2 * c.args.n) c.in-Some.k found).inside in
    (omega (arith, inside, c.requires.0), omega (arith, inside, c.requires.1))

pub returns-in-Some : goal.returns-in-Some
returns-in-Some c =
    let found : last_one (2 * c.args.n) (bit_of c.args.bits.now) ≡ Some c.in-Some.k = sym c.last_one.ensures ∙ c.in-Some.is in
    gives_as (read_by c.args.n c.args.bits.now (Some c.in-Some.k) found) c.read_before.ensures

pub returns-in-None : goal.returns-in-None
returns-in-None c = gives_as (read_by c.args.n c.args.bits.now None (sym c.last_one.ensures ∙ c.in-None.is)) (gives_refusal (sym (refused_by 27 [] [] refl)))
