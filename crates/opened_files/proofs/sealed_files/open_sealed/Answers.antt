-- `open_sealed` meets its contract.
use mathlib.Core.Path.{sym, ◌∙◌, ap, subst}
use Prim.Native.Nat.{ℕ}
use lib.ListN.{take}
use Rattle.refusals.proofs.Errors.{err_is}
use Rattle.refusals.specs.Outcomes.{outcome}
use Rattle.refusals.proofs.Checks.{refused_first}
use Rattle.parameters.specs.Sets.{set_of, made}
use Rattle.opened_files.specs.Pairs.{file_checks, inverse_checks}
use Rattle.opened_files.specs.Steps.{KeyRead}
use Rattle.opened_arrays.proofs.Answers.{gives_err}
use Rattle.opened_files.proofs.ReadFiles.{head_refused}
use Rattle.opened_files.proofs.ReadKeys.{key_answered}
use Rattle.opened_files.proofs.sealed_files.open_sealed.Goals as goal

pub open_sealed_in-requires : goal.open_sealed_in-requires
open_sealed_in-requires c =
    let key_read : KeyRead (set_of c.args.p) (take c.file_numbers-k.result c.args.numbers.now) = subst (λ (k : ℕ). KeyRead (set_of c.args.p) (take k c.args.numbers.now)) (sym c.file_numbers-k.ensures) c.requires.0 in
    record { key_read = c.requires; key_value = key_answered (set_of c.args.p) (take c.file_numbers-k.result c.args.numbers.now) key_read c.key_refusal-key.result c.key_refusal-key.ensures ∙ ap (λ (n : ℕ). outcome (inverse_checks (set_of c.args.p) (take n c.args.numbers.now)) (tt {0})) c.file_numbers-k.ensures; file_value = sym c.read_head.ensures ∙ ap made c.in_ok-sealed.was }

pub returns-in_err-sealed : goal.returns-in_err-sealed
returns-in_err-sealed c = gives_err (err_is _ _ c.from_residual.ensures.1) (sym (refused_first (file_checks 3 c.args.file.now) _ _ _ (head_refused 3 _ c.in_err-sealed.field-0.0 (sym c.read_head.ensures ∙ ap made c.in_err-sealed.was))))
