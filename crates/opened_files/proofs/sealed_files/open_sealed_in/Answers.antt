-- `open_sealed_in` meets its contract.
use mathlib.Core.Path.{◌≡◌, refl, sym, ◌∙◌, ap}
use mathlib.Core.List.{List, ◌++◌}
use Prim.Native.Nat.{ℕ, ◌*◌, ◌≤◌}
use native.Mathlib.Omega.{arith}
use native.Mathlib.Nat.{mul-le-mul_left}
use lib.Dec.{T, lit≤}
use lib.IntN.{ℤ}
use lib.ListN.{length, take, drop, length-drop, take-append-drop}
use lib.Seq.{length-take-le}
use Rattle.refusals.proofs.Errors.{err_is}
use Rattle.refusals.specs.Outcomes.{outcome, Passes}
use Rattle.refusals.proofs.Checks.{passed_all, refused_first, done_holds}
use Rattle.parameters.specs.Sets.{ParameterSet, set_of}
use Rattle.parameters.proofs.AcceptedParameters.{accepted_parameters}
use Rattle.polynomials.specs.Polynomials.{coefficient, reduced_q}
use Rattle.heads.specs.Kinds.{arrays_of}
use Rattle.files.specs.Files.{file_numbers, array_at}
use Rattle.files.specs.Calls.{set_checks}
use Rattle.heads.proofs.ArraysOfKinds.{sealed_arrays}
use Rattle.opened_files.specs.Pairs.{file_checks, pair_checks, message_of}
use Rattle.opened_files.specs.Steps.{opening_sealed, key_in}
use Rattle.opened_arrays.proofs.Answers.{gives_as, gives_err}
use Rattle.opened_files.proofs.JoinedArrays.{last_check}
use Rattle.opened_files.proofs.KeptArrays.{array_kept}
use Rattle.opened_files.proofs.ReadFiles.{Read, N_small, file_read, file_refused}
use Rattle.stored_keys.proofs.ArrayParts.{part_is}
use Rattle.opened_files.proofs.ReadKeys.{pair_is}
use Rattle.opened_files.proofs.sealed_files.open_sealed_in.Goals as goal

private_numbers : (N : ℕ) → file_numbers 2 N ≡ 8 * N
unfolding file_numbers arrays_of
private_numbers N = omega arith

-- its one array is of remainders
reduced : (p : ParameterSet) (e : List ℤ) → length e ≡ 2 * p.N → Passes (set_checks p (arrays_of 3) e) → T (reduced_q p.N p.q (coefficient e))
reduced p e l h = (done_holds 12 (reduced_q p.N p.q (coefficient e)) _ _ _ (rw (sealed_arrays 3 refl, last_check p e l) at h)).0

-- what is left to check, and the message
after_sealed : (p : ParameterSet) (numbers : List ℤ) (sealed : ParameterSet) (file : List ℕ) (e : List ℤ) → Read 3 sealed file e → outcome (pair_checks p numbers sealed) (message_of p numbers e) ≡ opening_sealed p numbers file
after_sealed p numbers sealed file e r =
    rw (← r.numbers_are, ← r.head) (sym (passed_all (file_checks 3 file) _ _ r.checks))

pub read_sealed-requires : goal.read_sealed-requires
read_sealed-requires c =
    let P : ParameterSet = set_of c.args.p in
    let few : c.args.p.n ≤ 1024 = (accepted_parameters P c.requires.key_read.0.accepted).N_small in
    let few_sealed : c.args.sealed.n ≤ 1024 = N_small 3 c.args.file.now (set_of c.args.sealed) c.requires.file_value in
    (few, few_sealed, c.requires.key_read.1)

pub returns : goal.returns
returns c =
    let P : ParameterSet = set_of c.args.p in
    let held : List ℤ = c.read_sealed.new.numbers in
    let from : ℕ = 4 * c.args.p.n in
    let count : ℕ = 2 * c.args.sealed.n in
    let new : List ℤ = take count (drop from held) in
    let few : c.args.p.n ≤ 1024 = (accepted_parameters P c.requires.key_read.0.accepted).N_small in
    let few_sealed : c.args.sealed.n ≤ 1024 = N_small 3 c.args.file.now (set_of c.args.sealed) c.requires.file_value in
    let held_long : length held ≡ 8192 = omega (arith, c.requires.key_read.1) in
    let new_long : length new ≡ 2 * c.args.sealed.n = length-take-le count (drop from held) (omega (arith, few, few_sealed, held_long, length-drop from held)) in
    let kept : (k : ℕ) → k ≤ 1 → array_at P k held ≡ array_at P k (key_in P c.args.numbers.now) = λ k h. let rest = drop from held in
    ap (array_at P k) (sym (take-append-drop from held) ∙ ap (λ (x : List ℤ). x ++ rest) c.read_sealed.ensures.0)
    ∙ array_kept P k from c.args.numbers.now rest (omega (arith, mul-le-mul_left (2 * c.args.p.n) h)) (omega (arith, private_numbers c.args.p.n)) (omega (arith, few, private_numbers c.args.p.n)) in
    let sealed-is : c.args.p.n ≡ c.args.sealed.n → array_at P 2 held ≡ new = λ e. sym (part_is P 2 held count from (omega (arith, e)) (omega arith)) in
    let part : List ℤ = take count (drop from c.args.numbers.now) in
    let sealed_read : Read 3 (set_of c.args.sealed) c.args.file.now new = file_read 3 c.args.file.now (set_of c.args.sealed) c.requires.file_value part _ c.read_sealed.ensures.1.0 _ c.in_ok-read_sealed.was c.read_sealed.ensures.1.1 in
    let sealed = set_of c.args.sealed in
    let numbers = key_in P c.args.numbers.now in
    gives_as
    (pair_is P numbers c.requires.key_read.0 sealed _ held new c.requires.key_value (kept 0 (lit≤ tt)) (kept 1 (lit≤ tt)) sealed-is new_long (reduced sealed new new_long sealed_read.sets)
    ∙ after_sealed P numbers sealed c.args.file.now new sealed_read)
    c.open_pair.ensures

pub returns-in_err-read_sealed : goal.returns-in_err-read_sealed
unfolding file_numbers arrays_of
returns-in_err-read_sealed c =
    let from : ℕ = 4 * c.args.p.n in
    let count : ℕ = 2 * c.args.sealed.n in
    let part : List ℤ = take count (drop from c.args.numbers.now) in
    let P : ParameterSet = set_of c.args.p in
    let few : c.args.p.n ≤ 1024 = (accepted_parameters P c.requires.key_read.0.accepted).N_small in
    let few_sealed : c.args.sealed.n ≤ 1024 = N_small 3 c.args.file.now (set_of c.args.sealed) c.requires.file_value in
    let room : length part ≡ file_numbers 3 c.args.sealed.n = length-take-le count (drop from c.args.numbers.now) (omega (arith, few, few_sealed, length-drop from c.args.numbers.now)) ∙ omega arith in
    gives_err (err_is _ _ c.from_residual.ensures.1) (sym (refused_first (file_checks 3 c.args.file.now) _ _ _ (file_refused 3 c.args.file.now (set_of c.args.sealed) c.requires.file_value part _ c.read_sealed.ensures.1.0 room c.in_err-read_sealed.field-0.0 c.in_err-read_sealed.was)))
