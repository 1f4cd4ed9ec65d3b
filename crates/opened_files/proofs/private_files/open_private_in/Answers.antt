-- `open_private_in` meets its contract.
use mathlib.Core.Path.{◌≡◌, sym, ◌∙◌, ap, subst}
use mathlib.Core.List.{List, ◌++◌}
use Prim.Native.Nat.{ℕ, ◌≤◌}
use native.Mathlib.Omega.{arith}
use lib.IntN.{ℤ}
use lib.ListN.{length, take, drop, length-append, length-drop}
use lib.Seq.{length-take-le, take_at}
use Rattle.refusals.proofs.Errors.{err_is}
use Rattle.refusals.proofs.Checks.{passed_all}
use Rattle.parameters.specs.Sets.{ParameterSet, set_of}
use Rattle.files.specs.Files.{file_numbers}
use Rattle.files.proofs.Bounds.{numbers_few}
use Rattle.opened_files.specs.Pairs.{file_checks, opening_pair}
use Rattle.opened_files.specs.Steps.{opening_sealed, KeyRead, key_in}
use Rattle.opened_arrays.proofs.Answers.{gives_as, gives_err}
use Rattle.opened_files.proofs.InputParts.{pair_refused}
use Rattle.opened_files.proofs.ReadFiles.{Read, accepted, N_small, file_read, file_refused}
use Rattle.opened_files.proofs.private_files.open_private_in.Goals as goal

-- what is left to check, and the message
after_private : (p : ParameterSet) (first second : List ℕ) (numbers : List ℤ) → Read 2 p first numbers → opening_sealed p numbers second ≡ opening_pair first second
unfolding opening_pair
after_private p first second numbers r =
    rw (← r.numbers_are, ← r.head) (sym (passed_all (file_checks 2 first) _ _ r.checks))

pub slice_bounds-read-end : goal.slice_bounds-read-end
slice_bounds-read-end c =
    let within : c.file_numbers-k.result ≤ length c.args.numbers.now = omega (arith, c.file_numbers-k.ensures, numbers_few 2 c.args.p.n (N_small 2 c.args.first.now (set_of c.args.p) c.requires.0)) in
    within

pub slice_bounds-read-end-2 : goal.slice_bounds-read-end-2
slice_bounds-read-end-2 c =
    let within : c.file_numbers-k.result ≤ length c.args.numbers.now = omega (arith, c.file_numbers-k.ensures, numbers_few 2 c.args.p.n (N_small 2 c.args.first.now (set_of c.args.p) c.requires.0)) in
    sym (length-take-le _ c.args.numbers.now within)

pub open_sealed-requires : goal.open_sealed-requires
open_sealed-requires c =
    let within : c.file_numbers-k.result ≤ length c.args.numbers.now = omega (arith, c.file_numbers-k.ensures, numbers_few 2 c.args.p.n (N_small 2 c.args.first.now (set_of c.args.p) c.requires.0)) in
    let front : List ℤ = take c.file_numbers-k.result c.args.numbers.now in
    let private_read : Read 2 (set_of c.args.p) c.args.first.now c.read.new.numbers = file_read 2 c.args.first.now (set_of c.args.p) c.requires.0 front _ c.read.ensures.0 _ c.in_ok-read.was c.read.ensures.1 in
    let new : List ℤ = c.read.new.numbers in
    let room : length front ≡ file_numbers 2 c.args.p.n = length-take-le _ c.args.numbers.now within ∙ c.file_numbers-k.ensures in
    let new_long : length new ≡ file_numbers 2 c.args.p.n = omega (arith, room) in
    let key_is : key_in (set_of c.args.p) (new ++ drop c.file_numbers-k.result c.args.numbers.now) ≡ new = take_at new (drop c.file_numbers-k.result c.args.numbers.now) (file_numbers 2 c.args.p.n) new_long in
    let k = c.file_numbers-k.result in (
      subst (KeyRead (set_of c.args.p)) (sym key_is) (record { accepted = accepted 2 c.args.first.now (set_of c.args.p) c.requires.0; long = new_long; sets = private_read.sets }),
      omega (arith, length-append new (drop k c.args.numbers.now), length-drop k c.args.numbers.now, within, new_long, c.file_numbers-k.ensures, c.requires.1),
    )

pub returns : goal.returns
returns c =
    let front : List ℤ = take c.file_numbers-k.result c.args.numbers.now in
    let private_read : Read 2 (set_of c.args.p) c.args.first.now c.read.new.numbers = file_read 2 c.args.first.now (set_of c.args.p) c.requires.0 front _ c.read.ensures.0 _ c.in_ok-read.was c.read.ensures.1 in
    let new : List ℤ = c.read.new.numbers in
    let within : c.file_numbers-k.result ≤ length c.args.numbers.now = omega (arith, c.file_numbers-k.ensures, numbers_few 2 c.args.p.n (N_small 2 c.args.first.now (set_of c.args.p) c.requires.0)) in
    let room : length front ≡ file_numbers 2 c.args.p.n = length-take-le _ c.args.numbers.now within ∙ c.file_numbers-k.ensures in
    let new_long : length new ≡ file_numbers 2 c.args.p.n = omega (arith, room) in
    let key_is : key_in (set_of c.args.p) (new ++ drop c.file_numbers-k.result c.args.numbers.now) ≡ new = take_at new (drop c.file_numbers-k.result c.args.numbers.now) (file_numbers 2 c.args.p.n) new_long in
    gives_as
    (ap (λ (x : List ℤ). opening_sealed (set_of c.args.p) x c.args.second.now) key_is
    ∙ after_private (set_of c.args.p) c.args.first.now c.args.second.now new private_read)
    c.open_sealed.ensures

pub returns-in_err-read : goal.returns-in_err-read
returns-in_err-read c =
    let front : List ℤ = take c.file_numbers-k.result c.args.numbers.now in
    let within : c.file_numbers-k.result ≤ length c.args.numbers.now = omega (arith, c.file_numbers-k.ensures, numbers_few 2 c.args.p.n (N_small 2 c.args.first.now (set_of c.args.p) c.requires.0)) in
    let room : length front ≡ file_numbers 2 c.args.p.n = length-take-le _ c.args.numbers.now within ∙ c.file_numbers-k.ensures in
    gives_err (err_is _ _ c.from_residual.ensures.1) (sym (pair_refused c.args.first.now _ c.in_err-read.field-0.0 (file_refused 2 c.args.first.now (set_of c.args.p) c.requires.0 front _ c.read.ensures.0 room c.in_err-read.field-0.0 c.in_err-read.was)))
